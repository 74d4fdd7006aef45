-- The texts of the ends of the rows that are shown. Internal: no public contract uses it.
use Rattle.std.specs.Prelude.{◌≡◌, ◌<◌, ◌≤◌, ◌++◌, ◌∷◌, ℕ, List, [], drop, length, map}
use Rattle.rj_columns.specs.Tables.{TableValue}
use Rattle.rj_csv_io.specs.Columns.{ends_of}
use Rattle.rj_csv_io.specs.Ends.{end_text, nulls, record_of}
use Rattle.rj_engine.specs.declared.origin.Origin.TheVariants as origin
use Rattle.rj_engine.specs.declared.shown.Shown.{Shown}
use Rattle.rj_command.specs.declared.join.ends.Ends.{Ends}

-- the texts of each right row's cells in the last columns that are shown, and that of as many NULLs, where two columns or more are before them
pub record AreEndsOf (d : ℕ) (null : List ℕ) (s : Shown) (r : TableValue) (e : Ends) : Type 0 where
  pub columns : List ℕ
  pub wide : 2 ≤ e.front
  pub some : 0 < length columns
  pub few : e.front ≤ length s.origins.items
  pub right : map (λ b. origin.Right b) columns ≡ drop e.front s.origins.items
  pub texts : e.texts ≡ map (record_of d null) (ends_of columns r.rows) ++ end_text d null (nulls (length columns)) ∷ []
