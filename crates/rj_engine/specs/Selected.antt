-- Which column of a joined table, or of one of its two tables, an entry of a list of columns means (SQL-92, 7.9).
use Rattle.std.specs.Prelude.{List, [], ◌∷◌, Option, None, Some, map, filter, length}
use Rattle.std.specs.List.{filter_map, range_with_len}
use Rattle.rj_columns.specs.Tables.{TableValue}
use Rattle.rj_condition.specs.Names.{matches}
use Rattle.rj_condition.specs.declared.bound.BoundJoin.{BoundJoin}
use Rattle.rj_condition.specs.declared.tree.Name.{Name}
use Rattle.rj_settings.specs.declared.choice.SelectedColumn.{SelectedColumn}
use Rattle.rj_settings.specs.declared.choice.Source.{Source}
use Rattle.rj_settings.specs.declared.choice.Source.TheVariants as source
use Rattle.rj_engine.specs.declared.origin.Origin.{Origin}
use Rattle.rj_engine.specs.declared.origin.Origin.TheVariants.{Left, Right}
use Rattle.rj_engine.specs.Cells.{columns_of, name_of}

-- the columns among which an entry's name is looked for: those of the joined table, or of one table
abbrev pub columns_from : Source → BoundJoin → TableValue → TableValue → List Origin
columns_from source.Joined join l r = columns_of join r
columns_from source.Left join l r = map (λ i. Left i) (range_with_len 0 (length l.types))
columns_from source.Right join l r = map (λ j. Right j) (range_with_len 0 (length r.types))

-- those of these columns that a name means
abbrev pub columns_named : TableValue → TableValue → Name → List Origin → List Origin
columns_named l r name columns = filter (λ o. matches name (name_of l r o)) columns

-- the column, if it is one alone
abbrev pub the_only : List Origin → Option Origin
the_only [] = None
the_only (o ∷ []) = Some o
the_only (o ∷ p ∷ columns) = None

-- the column that an entry means: the one that its name means; none if it means none of them, or more than one
abbrev pub column_of_entry : BoundJoin → TableValue → TableValue → SelectedColumn → Option Origin
column_of_entry join l r entry = the_only (columns_named l r entry.name (columns_from entry.source join l r))

-- the columns that a list means, in its order
abbrev pub selected_columns : BoundJoin → TableValue → TableValue → List SelectedColumn → List Origin
selected_columns join l r entries = filter_map (column_of_entry join l r) entries
