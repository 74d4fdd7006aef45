use Rattle.std.proofs.Common.{◌≡◌, ◌∙◌, true, false, ap, sym}
use Rattle.std.specs.Str.{IsUtf8, is_utf8}
use Rattle.rj_csv_io.proofs.TypedFacts.{no-utf8}
use Rattle.rj_line.proofs.suggest.listed.list_of_lines.Goals as goal

pub returns-clause-none : goal.returns-clause-none
returns-clause-none c =
    let no : IsUtf8 c.in_ok-list.list.items → ⊥ = λ h. let holds : false ≡ true = c.in-Err.ensures.succeeds h in absurd cc in
    ap is_utf8 (sym c.in_ok-list.ensures) ∙ no-utf8 c.in_ok-list.list.items no
