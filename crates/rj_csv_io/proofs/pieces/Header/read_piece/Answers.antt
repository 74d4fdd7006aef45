use Rattle.std.proofs.Common.{◌∙◌, ℕ, List, sym, subst}
use Rattle.rj_csv_io.specs.Parts.{IsReading}
use Rattle.rj_csv_io.specs.Pieces.{names_in}
use Rattle.rj_csv_io.proofs.PieceFacts.{piece-same, plain-records}
use Rattle.rj_csv_io.specs.Typed.{null_texts}
use Rattle.rj_csv_io.proofs.pieces.Header.read_piece.Goals as goal

pub returns : goal.returns
returns c =
    let plain = plain-records c.args.format.now.delimiter c.args.text.now (sym c.starts_with_bom.ensures.value ∙ c.if-starts_with_bom.false) in
    subst (λ (r : List (List (List ℕ))). IsReading (null_texts c.args.format.now.nulls.now) c.args.types.now (names_in c.args.self.now) r c.read_part-2.result)
    (piece-same c.args.format.now.delimiter c.args.is_first c.args.text.now c.args.text.now plain) c.read_part-2.ensures
