use Rattle.std.proofs.Common.{◌∙◌, ◌++◌, ℕ, List, ap}
use Rattle.csv.specs.Reading.{strip_bom}
use Rattle.rj_csv_io.proofs.PieceFacts.{marked}
use Rattle.rj_csv_io.proofs.pieces.with_mark.Goals as goal

pub returns : goal.returns
returns c =
    ap strip_bom (c.in_ok-extend_from_slice.ensures.items ∙ ap (λ (l : List ℕ). l ++ c.args.text.now) c.in_ok-marked.ensures.items)
    ∙ marked c.args.text.now
