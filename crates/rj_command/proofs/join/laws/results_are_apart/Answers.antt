use Rattle.rj_line.specs.declared.fault.Side.TheVariants as side
use Rattle.rj_csv_io.proofs.LawFacts.{null_texts_read_as_null}
use Rattle.rj_command.proofs.ApartFacts.{table-apart, view-apart}
use Rattle.rj_command.proofs.join.laws.results_are_apart.Goals as goal

pub returns : goal.returns
returns c = λ left right text null q stats j in_left in_right.
    let law = null_texts_read_as_null in
    view-apart null j.l j.r (table-apart law q side.Left left null j.l in_left j.operands.left_read)
    (table-apart law q side.Right right null j.r in_right j.operands.right_read) q.choice j.join
