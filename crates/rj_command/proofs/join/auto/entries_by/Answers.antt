use Rattle.std.proofs.Common.{◌∙◌, ap}
use Rattle.rj_line.specs.declared.fault.Side.TheVariants as side
use Rattle.rj_command.specs.Auto.{compares, entries_from}
use Rattle.rj_command.proofs.join.auto.entries_by.Goals as goal

pub returns : goal.returns
returns c =
    let q = c.args.request.now in
    let l = c.args.compared.now.left.now in
    let r = c.args.compared.now.right.now in
    let clause = c.args.compared.now.clause.now in
    record {
      lawful = c.requires.lawful;
      c = clause;
      has_clause = c.requires.clause;
      l = l;
      r = r;
      left_header = c.requires.left;
      right_header = c.requires.right;
      left_kinds = c.in-Some.left_kinds.items;
      right_kinds = c.in-Some-2.right_kinds.items;
      left_cells = rw c.in-Some.is at c.in_ok-left_kinds.ensures;
      right_cells = rw c.in-Some-2.is at c.in_ok-right_kinds.ensures;
      left_entries = c.in_ok-left.ensures ∙ ap (λ kinds. entries_from q side.Left (compares l r clause side.Left) kinds 0 l.names) c.as_slice.ensures.value;
      right_entries = c.in_ok-right.ensures ∙ ap (λ kinds. entries_from q side.Right (compares l r clause side.Right) kinds 0 r.names) c.as_slice-2.ensures.value;
    }
