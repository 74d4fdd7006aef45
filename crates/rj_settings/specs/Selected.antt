-- Lists of columns: `L.id,name,R.city=town` (SQL-92, 7.9).
use Rattle.std.specs.Prelude.{◌≡◌, ◌≤◌, if◌then◌else◌, true, length, ℕ, Option, None, Some, List, [], ◌++◌, codes}
use Rattle.rj_columns.specs.Names.{is_name}
use Rattle.rj_condition.specs.Names.{matches}
use Rattle.rj_condition.specs.declared.tree.Name.{Name}
use Rattle.rj_settings.specs.declared.choice.SelectedColumn.{SelectedColumn}
use Rattle.rj_settings.specs.declared.choice.Source.{Source}
use Rattle.rj_settings.specs.declared.choice.Source.TheVariants as source
use Rattle.rj_settings.specs.Labels.{IsNameWord}
use Rattle.rj_settings.specs.Separated.{AreSeparated, Begins}

-- the table that a name means: the left one by `L`, the right one by `R`
abbrev pub source_of : Name → Option Source
source_of name = if matches name (codes "L") then Some source.Left else (if matches name (codes "R") then Some source.Right else None)

-- what comes before a column's name: nothing, or the name of its table and a point
abbrev pub IsQualifier : Source → List ℕ → Type 0
IsQualifier source.Joined text = text ≡ []
IsQualifier s text = (q : Name) × (word : List ℕ) × IsNameWord q.delimited q.text word × (source_of q ≡ Some s) × (text ≡ word ++ codes ".")

-- what comes after it: nothing, or `=` and the name under which it is written, which is one of a
-- table
abbrev pub IsRenaming : Option Name → List ℕ → Type 0
IsRenaming None text = text ≡ []
IsRenaming (Some n) text = (word : List ℕ) × IsNameWord n.delimited n.text word × (is_name n.text ≡ true) × (text ≡ codes "=" ++ word)

-- an entry
abbrev pub IsSelected : SelectedColumn → List ℕ → Type 0
IsSelected e text =
    (qualifier name renaming : List ℕ) × IsQualifier e.source qualifier × IsNameWord e.name.delimited e.name.text name × IsRenaming e.written renaming
    × (text ≡ (qualifier ++ name) ++ renaming)

abbrev pub BeginsSelected : SelectedColumn → List ℕ → Option (List ℕ) → Type 0
BeginsSelected e text rest = Begins IsSelected e text rest

abbrev pub AreSelected : List SelectedColumn → Option (List ℕ) → Type 0
AreSelected entries text = AreSeparated IsSelected entries text

-- 1 to 256 entries
abbrev pub IsSelectList : List ℕ → List SelectedColumn → Type 0
IsSelectList text entries = AreSelected entries (Some text) × (length entries ≤ 256)
