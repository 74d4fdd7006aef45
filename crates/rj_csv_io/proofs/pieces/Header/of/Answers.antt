use Rattle.std.proofs.Common.{◌≡◌, ◌∙◌, ◌∷◌, [], ℕ, List, sym, subst}
use Rattle.std.specs.Prelude.{IfOk, MatchOption}
use Rattle.rj_csv_io.specs.Pieces.{names_in}
use Rattle.rj_csv_io.proofs.PieceFacts.{plain-records}
use Rattle.rj_csv_io.proofs.pieces.Header.of.Goals as goal

pub returns : goal.returns
returns c =
    let plain = plain-records c.args.delimiter c.args.text.now (sym c.starts_with_bom.ensures.value ∙ c.if-starts_with_bom.false) in
    subst (λ (r : List (List (List ℕ))). IfOk c.of_unmarked-2.result (λ o. MatchOption o (r ≡ []) (λ h. (rest : List (List (List ℕ))) × (r ≡ names_in h ∷ rest)))) plain c.of_unmarked-2.ensures
