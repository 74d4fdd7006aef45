use Rattle.std.proofs.Common.{refl}
use Rattle.rj_columns.proofs.FoldFacts.{found, added, AreFolded-push, values-push}
use Rattle.rj_columns.proofs.names.Names.add.Goals as goal

pub returns-then-contains_key-clause-fresh : goal.returns-then-contains_key-clause-fresh
returns-then-contains_key-clause-fresh c =
    let there = found c.self.inside.written.entries c.args.name.now c.in_ok-folded.folded c.contains_key.result c.self.invariant c.in_ok-folded.ensures.ok c.contains_key.ensures in
    rw (← c.self.view_is, ← there, c.if-contains_key.true) refl

pub invariant_of-self-2 : goal.invariant_of-self-2
invariant_of-self-2 c =
    let entries = added c.self.inside.written c.insert.new.self.entries c.in_ok-folded.folded c.in_ok-written.written c.contains_key.result c.contains_key.ensures c.if-contains_key.false c.in_ok-insert.ensures.entries in
    rw entries (AreFolded-push c.self.inside.written.entries c.in_ok-folded.folded c.in_ok-written.written c.self.invariant (rw c.in_ok-written.ensures.ok c.in_ok-folded.ensures.ok))

pub returns-clause-fresh : goal.returns-clause-fresh
returns-clause-fresh c =
    let there = found c.self.inside.written.entries c.args.name.now c.in_ok-folded.folded c.contains_key.result c.self.invariant c.in_ok-folded.ensures.ok c.contains_key.ensures in
    rw (← c.self.view_is, ← there, c.if-contains_key.false) refl

pub returns-clause-names : goal.returns-clause-names
returns-clause-names c =
    let entries = added c.self.inside.written c.insert.new.self.entries c.in_ok-folded.folded c.in_ok-written.written c.contains_key.result c.contains_key.ensures c.if-contains_key.false c.in_ok-insert.ensures.entries in
    rw (entries, values-push, c.in_ok-written.ensures.ok, ← c.self.view_is) refl
