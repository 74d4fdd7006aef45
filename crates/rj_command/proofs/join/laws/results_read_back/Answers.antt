use Rattle.std.proofs.Common.{◌≡◌, ◌∙◌, List, ℕ, [], None, Ok, All, inl, inr, length, sym, subst}
use Rattle.std.proofs.lemmas.List.{length-map}
use Rattle.rj_columns.specs.Names.{name_fault}
use Rattle.rj_columns.specs.Tables.{FitsTypes, TableValue}
use Rattle.rj_csv_io.specs.RoundTrips.{CanReadBack, IsHeld}
use Rattle.rj_csv_io.specs.Tables.{read_of}
use Rattle.rj_csv_io.proofs.LawFacts.{mark_is_of_the_first_name, read_tables_hold_their_types, tables_read_back}
use Rattle.rj_engine.specs.Cells.{name_of}
use Rattle.rj_engine.specs.Chosen.{chosen_columns, chosen_rows}
use Rattle.rj_engine.specs.Results.{joined_of}
use Rattle.rj_line.specs.declared.fault.Side.TheVariants as side
use Rattle.rj_command.specs.ReadBack.{type_of_column, written_table}
use Rattle.rj_command.specs.Sides.{nulls_of}
use Rattle.rj_command.proofs.ApartFacts.{table-holds}
use Rattle.rj_command.proofs.BackFacts.{kept_or_not, listed_or_not, rows-fit, rows-held}
use Rattle.rj_command.proofs.join.laws.results_read_back.Goals as goal

pub returns : goal.returns
returns c = λ left right text q stats nulls j may can.
    let l = j.l in
    let r = j.r in
    let origins = chosen_columns q.choice j.join l r in
    let rows = chosen_rows q.choice (length l.rows) (joined_of j.join l r) in
    let table = written_table q j.names j.join l r in
    let Holds : TableValue → Type 0 = λ t. All (FitsTypes t.types) t.rows × All (All IsHeld) t.rows in
    let of_left = table-holds Holds q side.Left (λ found kinds t e. read_tables_hold_their_types found kinds (nulls_of q side.Left) t e) left l j.operands.left_read in
    let of_right = table-holds Holds q side.Right (λ found kinds t e. read_tables_hold_their_types found kinds (nulls_of q side.Right) t e) right r j.operands.right_read in
    let lawful : name_fault [] j.names ≡ None = elim (kept_or_not q.choice.repeated) [
      | inl kept ↦ elim (listed_or_not q.choice.columns) [
        | inl listed ↦ j.named.selected listed.0 listed.1
        | inr other ↦ can.lawful kept other
      ]
      | inr other ↦ j.named.lawful other
    ] in
    let back : CanReadBack nulls table = record {
      some = can.some;
      few = can.few;
      lawful = lawful;
      named = j.named.many ∙ (length-map origins (name_of l r) ∙ sym (length-map origins (type_of_column l r)));
      within = can.within;
      typed = rows-fit l r of_left.0 of_right.0 origins rows can.one_type;
      held = rows-held l r of_left.1 of_right.1 origins rows;
      apart = can.apart;
    } in
    let plain = mark_is_of_the_first_name q.out_delimiter q.out_null.now j.names table.rows may can.unmarked in
    let P : List ℕ → Type 0 = λ text. read_of q.out_delimiter text table.types nulls ≡ Ok table in
    subst P (sym j.shown) (tables_read_back q.out_delimiter nulls q.out_null.now table may can.null_texts can.among back plain)
