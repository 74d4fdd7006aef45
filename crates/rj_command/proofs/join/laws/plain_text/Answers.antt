use Rattle.std.proofs.Common.{◌≡◌, ◌∙◌, List, Ok, sym, ℕ}
use Rattle.std.specs.Prelude.{Result}
use Rattle.rj_csv_io.specs.Shown.{table_text}
use Rattle.rj_engine.specs.Cells.{header_of}
use Rattle.rj_engine.specs.declared.naming.NamingRefused.{NamingRefused}
use Rattle.rj_engine.proofs.ChosenFacts.{plain_view}
use Rattle.rj_engine.proofs.SelectedNames.{plain_names}
use Rattle.rj_command.proofs.join.laws.plain_text.Goals as goal

pub returns : goal.returns
returns c = λ q join l r names plain kept are.
    let view = plain_view q.choice join l r plain in
    let named : ◌≡◌ {A = Result (List (List ℕ)) NamingRefused} (Ok names) (Ok (header_of join l r)) =
    sym are.written ∙ plain_names q.choice join l r plain kept in
    let own : names ≡ header_of join l r = cc in
    λ t. table_text q.out_delimiter q.out_null.now (own t) (view t).cells
