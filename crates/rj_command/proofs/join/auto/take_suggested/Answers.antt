use Rattle.std.proofs.Common.{◌∙◌, ap, length, take}
use Rattle.rj_command.specs.Auto.{taken, unbound}
use Rattle.rj_command.proofs.AutoFacts.{cut_further}
use Rattle.rj_command.proofs.join.auto.take_suggested.Goals as goal

pub returns-then-branch : goal.returns-then-branch
returns-then-branch c =
    let found = rw c.in-Some.is at c.in_ok-entries.ensures in
    taken c.in-Some.entries.left.items c.in-Some.entries.right.items found c.in_ok-add_entries.ensures (c.in_ok-is_bound.ensures.bound c.if-branch.true)

pub returns : goal.returns
returns c =
    let found = rw c.in-Some.is at c.in_ok-entries.ensures in
    let lefts = c.in-Some.entries.left.items in
    let rights = c.in-Some.entries.right.items in
    let full = c.add_entries.new.request in
    unbound lefts rights full found c.in_ok-add_entries.ensures (c.in_ok-is_bound.ensures.unbound c.if-branch.false)
    (cut_further c.args.request.now full c.cut_entries.new.request lefts rights c.in_ok-add_entries.ensures
    (c.cut_entries.ensures.left ∙ ap (λ xs. take (length xs) full.left_types.items) c.as_slice-lefts.ensures.value)
    (c.cut_entries.ensures.right ∙ ap (λ xs. take (length xs) full.right_types.items) c.as_slice-rights.ensures.value) c.cut_entries.ensures.same)
