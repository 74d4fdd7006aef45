use Rattle.std.proofs.Common.{◌≡◌, ◌∙◌, ◌++◌, ap, drop, length, subst, sym, take}
use Rattle.std.specs.Fork.{ChangesEach}
use Rattle.std.proofs.Math.Seq.{take-append_seam}
use Rattle.rj_command.proofs.join.texts.call_each.Goals as goal

pub returns-clause-each : goal.returns-clause-each
returns-clause-each g c =
    let before = c.args.items.items in
    let after = c.for_each_mut.new.s in
    let rest = drop (length after) before in
    let long : c.args.items.len ≡ length after = sym c.as_mut_slice.ensures.len ∙ sym c.for_each_mut.auto.s in
    let whole : take c.args.items.len (after ++ rest) ≡ after = ap (λ n. take n (after ++ rest)) long ∙ take-append_seam after rest in
    subst (ChangesEach g.F.Fn c.args.task.now before) (sym whole) (subst (λ xs. ChangesEach g.F.Fn c.args.task.now xs after) c.as_mut_slice.ensures.value c.for_each_mut.ensures)
