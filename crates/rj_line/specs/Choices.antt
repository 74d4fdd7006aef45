-- What the words of the command line choose of a joined table.
use Rattle.std.specs.Prelude.{◌≡◌, ◌≢◌, ◌≤◌, ◌==◌, ◌||◌, ◌&&◌, length, if◌then◌else◌, Bool, true, false, List, Option, Some, None, codes, is_some}
use Rattle.std.specs.List.{count_by, list_all, slice_split}
use Rattle.std.specs.Str.{bytes_eq}
use Rattle.clap.specs.Words.{Text}
use Rattle.rj_line.specs.declared.fault.Fault.{Fault}
use Rattle.rj_line.specs.declared.fault.Fault.TheVariants as fault
use Rattle.rj_settings.specs.declared.choice.Choice.{Choice}
use Rattle.rj_settings.specs.declared.choice.ColumnChoice.{ColumnChoice}
use Rattle.rj_settings.specs.declared.choice.ColumnChoice.TheVariants as column
use Rattle.rj_settings.specs.declared.choice.Repeated.{Repeated}
use Rattle.rj_settings.specs.declared.choice.Repeated.TheVariants as repeated
use Rattle.rj_settings.specs.declared.choice.RowKinds.{RowKinds}
use Rattle.rj_settings.specs.declared.choice.RowOrder.{RowOrder}
use Rattle.rj_settings.specs.declared.choice.RowOrder.TheVariants as order
use Rattle.rj_settings.specs.Selected.{IsSelectList}
use Rattle.rj_line.specs.Forms.{default_repeated}
use Rattle.rj_line.specs.Named.{IsNamedOr, is_true}
use Rattle.rj_line.specs.declared.form.Form.{Form}

-- the name of an order
abbrev pub order_name : RowOrder → Text
order_name order.PairsFirst = codes "pairs"
order_name order.LeftFirst = codes "left"

-- a word names these columns: all, or those of a table
abbrev pub NamesColumns : Text → ColumnChoice → Type 0
NamesColumns word column.All = word ≡ codes "all"
NamesColumns word column.Left = word ≡ codes "left"
NamesColumns word column.Right = word ≡ codes "right"
NamesColumns word (column.Selected list) = ⊥

-- a text lists these columns
abbrev pub ListsColumns : Text → ColumnChoice → Type 0
ListsColumns text (column.Selected list) = IsSelectList text list.items
ListsColumns text _ = ⊥

-- the word is the name of a kind of rows
abbrev pub is_kind : Text → Bool
is_kind word =
    bytes_eq word (codes "pairs") || (bytes_eq word (codes "matched-left") || (bytes_eq word (codes "lone-left") || bytes_eq word (codes "lone-right")))

-- if the flag is set, a word occurs once among words, and else not at all
abbrev pub StandsWhere : Text → List Text → Bool → Type 0
StandsWhere word words says = count_by (λ w. bytes_eq w word) words ≡ (if says then 1 else 0)

-- these words name these kinds of rows, each once, and not both matches and matched left rows
pub record AreKinds (words : List Text) (k : RowKinds) : Type 0 where
  pub known : list_all is_kind words ≡ true
  pub pairs : StandsWhere (codes "pairs") words k.pairs
  pub matched_left : StandsWhere (codes "matched-left") words k.matched_left
  pub lone_left : StandsWhere (codes "lone-left") words k.lone_left
  pub lone_right : StandsWhere (codes "lone-right") words k.lone_right
  pub apart : (k.pairs && k.matched_left) ≡ false

-- rows are asked for by a word for what is looked for: left rows without a match, or those with one
abbrev pub is_looked_for : (Text → Option Text) → Bool
is_looked_for word = is_true (word (codes "anti")) || is_true (word (codes "semi"))

-- the same is asked for by two options: by both words, or by one of them and by what it stands for
abbrev pub is_chosen_twice : (Text → Option Text) → Bool
is_chosen_twice word =
    (is_true (word (codes "anti")) && is_true (word (codes "semi")))
    || (is_looked_for word && (is_some (word (codes "rows")) || is_some (word (codes "columns"))))

-- columns are named by a list, and so is what the list is in place of
abbrev pub is_selected_twice : (Text → Option Text) → Bool
is_selected_twice word = is_some (word (codes "select")) && (is_some (word (codes "columns")) || is_some (word (codes "repeated")))

-- nothing is asked for twice
abbrev pub IsAskedOnce : (Text → Option Text) → Type 0
IsAskedOnce word = (is_chosen_twice word ≡ false) × (is_selected_twice word ≡ false)

-- what the kinds of rows are named by: unmatched left rows by `--anti`, matched left rows by `--semi`,
-- and others by `--rows`
abbrev pub rows_word : (Text → Option Text) → Option Text
rows_word word =
    if is_true (word (codes "anti")) then Some (codes "lone-left")
    else (if is_true (word (codes "semi")) then Some (codes "matched-left") else word (codes "rows"))

-- what the columns are named by: those of the left table by `--anti` and by `--semi`, and others by
-- `--columns`
abbrev pub columns_word : (Text → Option Text) → Option Text
columns_word word = if is_looked_for word then Some (codes "left") else word (codes "columns")

-- the default kinds of rows: all members of the joined table
abbrev pub members : RowKinds
members = record { pairs = true; matched_left = false; lone_left = true; lone_right = true }

-- the kinds of rows that an option's value names, separated by commas, or the members of the joined
-- table if it has none
abbrev pub AreRowsOf : Option Text → RowKinds → Type 0
AreRowsOf None k = k ≡ members
AreRowsOf (Some text) k = AreKinds (slice_split (λ b. b == 44) text) k

-- an option's value names no kinds of rows
abbrev pub GivesNoRows : Option Text → Type 0
GivesNoRows word = (k : RowKinds) → AreRowsOf word k → ⊥

-- the columns that an option's value names, or all if it has none
abbrev pub AreNamedColumns : Option Text → ColumnChoice → Type 0
AreNamedColumns None c = c ≡ column.All
AreNamedColumns (Some word) c = NamesColumns word c

-- an option's value names columns
abbrev pub GivesSide : Option Text → Type 0
GivesSide word = (c : ColumnChoice) × AreNamedColumns word c

-- the columns that a list names, or where none is given, an option's value
abbrev pub AreColumnsBy : Option Text → Option Text → ColumnChoice → Type 0
AreColumnsBy None named c = AreNamedColumns named c
AreColumnsBy (Some text) named c = ListsColumns text c

-- the columns that the values of the options name
abbrev pub AreColumnsOf : (Text → Option Text) → ColumnChoice → Type 0
AreColumnsOf word c = AreColumnsBy (word (codes "select")) (columns_word word) c

-- they name none, since what is given as a list of columns is none
abbrev pub GivesNoColumns : (Text → Option Text) → Type 0
GivesNoColumns word = (c : ColumnChoice) → AreColumnsOf word c → ⊥

-- what becomes of names that occur twice where no option says it: in a list of columns they are as
-- the list has them
abbrev pub unsaid_repeated : Form → Option Text → Repeated
unsaid_repeated f None = default_repeated f
unsaid_repeated f (Some text) = repeated.Kept

-- what an option's value says of names that occur twice: the words `keep` and `qualify`, and any
-- other text of 1 to 16 bytes, which is added; or as here if it has none
abbrev pub IsRepeatedOr : Repeated → Option Text → Repeated → Type 0
IsRepeatedOr other None r = r ≡ other
IsRepeatedOr other (Some text) repeated.Kept = text ≡ codes "keep"
IsRepeatedOr other (Some text) repeated.Qualified = text ≡ codes "qualify"
IsRepeatedOr other (Some text) (repeated.Suffixed suffix) =
    (suffix.now ≡ text) × (text ≢ codes "keep") × (text ≢ codes "qualify") × (1 ≤ length text) × (length text ≤ 16)

-- what the values of the options say of names that occur twice, in a line of this form
abbrev pub IsRepeatedOf : Form → (Text → Option Text) → Repeated → Type 0
IsRepeatedOf f word r = IsRepeatedOr (unsaid_repeated f (word (codes "select"))) (word (codes "repeated")) r

-- what the values of the options choose; matched left rows are chosen only with the columns of the
-- left table alone
pub record IsChoiceOf (f : Form) (word : Text → Option Text) (c : Choice) : Type 0 where
  pub once : IsAskedOnce word
  pub rows : AreRowsOf (rows_word word) c.rows
  pub order : IsNamedOr order_name order.PairsFirst (word (codes "order")) c.order
  pub columns : AreColumnsOf word c.columns
  pub of_left : c.rows.matched_left ≡ true → c.columns ≡ column.Left
  pub repeated : IsRepeatedOf f word c.repeated

-- kinds of rows are named
abbrev pub GivesRows : (Text → Option Text) → Type 0
GivesRows word = (k : RowKinds) × AreRowsOf (rows_word word) k

-- matched left rows are asked for, but not only the columns of the left table
abbrev pub AreColumnsMissing : (Text → Option Text) → Type 0
AreColumnsMissing word =
    (k : RowKinds) × (c : ColumnChoice) × AreRowsOf (rows_word word) k × AreColumnsOf word c × (k.matched_left ≡ true) × (c ≢ column.Left)

-- the kinds of rows are named, and the columns go with them
abbrev pub AreRowsChosen : (Text → Option Text) → Type 0
AreRowsChosen word =
    (k : RowKinds) × (c : ColumnChoice) × AreRowsOf (rows_word word) k × AreColumnsOf word c × (k.matched_left ≡ true → c ≡ column.Left)

-- why the values of the options choose nothing that can be written: the same is asked for twice,
-- then no kinds of rows, then no list of columns, then columns that don't go with the rows, then a
-- text that can't be added to a name; or memory ran out
abbrev pub IsChoiceFault : Form → (Text → Option Text) → Fault → Type 0
IsChoiceFault form word fault.ChosenTwice = is_chosen_twice word ≡ true
IsChoiceFault form word fault.SelectedTwice = (is_chosen_twice word ≡ false) × (is_selected_twice word ≡ true)
IsChoiceFault form word fault.BadRows = IsAskedOnce word × GivesNoRows (rows_word word)
IsChoiceFault form word fault.BadSelect = IsAskedOnce word × GivesRows word × GivesNoColumns word
IsChoiceFault form word fault.MatchedLeftColumns = IsAskedOnce word × AreColumnsMissing word
IsChoiceFault form word fault.BadSuffix = IsAskedOnce word × AreRowsChosen word × ((r : Repeated) → IsRepeatedOf form word r → ⊥)
IsChoiceFault form word fault.Memory = Unit {0}
IsChoiceFault form word _ = ⊥
