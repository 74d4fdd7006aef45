use Rattle.std.proofs.Common.{rules, ◌≡◌, length}
use Rattle.rj_columns.specs.Internal.Nulls.{marked_at}
use Rattle.rj_columns.proofs.TextFacts.{null-packed, null-shown}
use Rattle.rj_columns.proofs.texts.Texts.push_null.Goals as goal

pub invariant_of-self-else-is_err : goal.invariant_of-self-else-is_err
invariant_of-self-else-is_err c =
    let marks : c.mark.new.nulls.items ≡ marked_at c.self.inside.nulls.items c.len-rows.result = search rules in
    let size : c.len.result ≡ length c.self.inside.bytes.items = search rules in
    rw (c.in_ok-push.ensures.ok, marks) (null-packed c.self.inside.bytes.items c.self.inside.ends c.self.inside.nulls.items c.len.result c.len-rows.result c.self.invariant size c.len-rows.ensures)

pub returns-clause-ok : goal.returns-clause-ok
returns-clause-ok c =
    let marks : c.mark.new.nulls.items ≡ marked_at c.self.inside.nulls.items c.len-rows.result = search rules in
    let size : c.len.result ≡ length c.self.inside.bytes.items = search rules in
    rw (c.in_ok-push.ensures.ok, marks, ← c.self.view_is) (null-shown c.self.inside.bytes.items c.self.inside.ends c.self.inside.nulls.items c.len.result c.len-rows.result c.self.invariant size c.len-rows.ensures)
