-- What the functions that read a name, a label or an entry of a list of columns find, on lists of
-- bytes. Internal: no public contract uses it.
use Rattle.std.specs.Prelude.{◌==◌, ℕ, Bool, true, false, if◌then◌else◌, nat_lt, length, take, drop, Option, Some, None, List, [], ◌∷◌}
use Rattle.std.specs.List.{prefix_len}
use Rattle.rj_columns.specs.Names.{is_name}
use Rattle.rj_condition.specs.Internal.Scanning.{quoted}
use Rattle.rj_condition.specs.Tokens.{is_name_byte}
use Rattle.rj_condition.specs.declared.tree.Name.{Name}
use Rattle.rj_settings.specs.declared.choice.SelectedColumn.{SelectedColumn}
use Rattle.rj_settings.specs.declared.choice.Source.{Source}
use Rattle.rj_settings.specs.declared.choice.Source.TheVariants as source
use Rattle.rj_settings.specs.Labels.{is_regular}
use Rattle.rj_settings.specs.Selected.{source_of}
use Rattle.rj_settings.specs.declared.types.entry.Label.{Label}
use Rattle.rj_settings.specs.declared.types.entry.Label.TheVariants as label

-- what comes after a sign
abbrev pub behind : ℕ → List ℕ → Option (List ℕ)
behind sign [] = None
behind sign (b ∷ bs) = if b == sign then Some bs else None

abbrev pub named : Bool → List ℕ → Name
named delimited name = record { text = name; delimited = delimited }

-- a delimited name, by what a text quotes after its first quote
abbrev pub delimited_at : Option (List ℕ × List ℕ) → Option (Name × List ℕ)
delimited_at None = None
delimited_at (Some p) = if nat_lt 0 (length p.0) then Some (named true p.0, p.1) else None

-- a regular name, by the name's bytes that a text begins with and what comes after them
abbrev pub regular_at : List ℕ → List ℕ → Option (Name × List ℕ)
regular_at word rest = if is_regular word then Some (named false word, rest) else None

abbrev pub regular_in : List ℕ → Option (Name × List ℕ)
regular_in text = regular_at (take (prefix_len is_name_byte text) text) (drop (prefix_len is_name_byte text) text)

-- a name, by what comes after a quote
abbrev pub name_by : Option (List ℕ) → List ℕ → Option (Name × List ℕ)
name_by (Some quoting) text = delimited_at (quoted 34 quoting)
name_by None text = regular_in text

-- the name that a text begins with, and what comes after it
abbrev pub name_in : List ℕ → Option (Name × List ℕ)
name_in text = name_by (behind 34 text) text

-- a label, if `=` comes after it
abbrev pub labelled : Label → Option (List ℕ) → Option (Label × List ℕ)
labelled l None = None
labelled l (Some rest) = Some (l, rest)

-- the label of the rest, by what comes after `*`
abbrev pub rest_by : Option (List ℕ) → Option (Label × List ℕ)
rest_by None = None
rest_by (Some rest) = labelled label.Rest (behind 61 rest)

-- a label, by the name that a text begins with
abbrev pub label_by : Option (Name × List ℕ) → List ℕ → Option (Label × List ℕ)
label_by (Some p) text = labelled (label.Name p.0) (behind 61 p.1)
label_by None text = rest_by (behind 42 text)

-- the label that a text begins with, and what comes after it
abbrev pub label_in : List ℕ → Option (Label × List ℕ)
label_in text = label_by (name_in text) text

-- the same, or none
abbrev pub or_place : Option (Label × List ℕ) → List ℕ → Label × List ℕ
or_place (Some p) text = p
or_place None text = (label.Place, text)

-- a column of a table, by what its qualifier means and by its name
abbrev pub qualified : Option Source → Option (Name × List ℕ) → Option ((Source × Name) × List ℕ)
qualified None found = None
qualified (Some s) None = None
qualified (Some s) (Some p) = Some ((s, p.0), p.1)

-- a column, by a name and what comes after the point behind it
abbrev pub column_by : Name × List ℕ → Option (List ℕ) → Option ((Source × Name) × List ℕ)
column_by p None = Some ((source.Joined, p.0), p.1)
column_by p (Some rest) = qualified (source_of p.0) (name_in rest)

abbrev pub column_of : Option (Name × List ℕ) → Option ((Source × Name) × List ℕ)
column_of None = None
column_of (Some p) = column_by p (behind 46 p.1)

-- the column that a text begins with, and what comes after it
abbrev pub column_in : List ℕ → Option ((Source × Name) × List ℕ)
column_in text = column_of (name_in text)

-- a new name, if it is one of a table
abbrev pub renamed : Option (Name × List ℕ) → Option (Option Name × List ℕ)
renamed None = None
renamed (Some p) = if is_name p.0.text then Some (Some p.0, p.1) else None

-- the same, by what comes after `=`
abbrev pub written_by : Option (List ℕ) → List ℕ → Option (Option Name × List ℕ)
written_by None text = Some (None, text)
written_by (Some rest) text = renamed (name_in rest)

-- what a text begins with behind a column, and what comes after that
abbrev pub written_in : List ℕ → Option (Option Name × List ℕ)
written_in text = written_by (behind 61 text) text

-- an entry, by its column and what comes behind it
abbrev pub selected_by : Source × Name → Option (Option Name × List ℕ) → Option (SelectedColumn × List ℕ)
selected_by c None = None
selected_by c (Some p) = Some (record { source = c.0; name = c.1; written = p.0 }, p.1)

abbrev pub selected_of : Option ((Source × Name) × List ℕ) → Option (SelectedColumn × List ℕ)
selected_of None = None
selected_of (Some p) = selected_by p.0 (written_in p.1)

-- the entry that a text begins with, and what comes after it
abbrev pub selected_in : List ℕ → Option (SelectedColumn × List ℕ)
selected_in text = selected_of (column_in text)
