-- The bytes at which the tokens of a text begin, and the first column name among them that is
-- refused.
use Rattle.std.specs.Prelude.{ℕ, suc, ◌≡◌, ◌+◌, ◌-◌, ◌<◌, ◌==◌, Bool, true, false, List, [], ◌∷◌, length, Option, Some, None, option_map, option_and_then, Result, Ok, Err, if◌then◌else◌, slice_get, take}
use Rattle.std.specs.List.{list_any}
use Rattle.rj_condition.specs.declared.bound.BoundOperand.{BoundOperand}
use Rattle.rj_condition.specs.declared.refused.BindRefused.{BindRefused}
use Rattle.rj_condition.specs.declared.refused.BindRefused.TheVariants as refused
use Rattle.rj_condition.specs.declared.token.Keyword.TheVariants as keyword
use Rattle.rj_condition.specs.declared.refusals.RefusedColumn.{RefusedColumn}
use Rattle.rj_condition.specs.declared.token.Sign.TheVariants as sign
use Rattle.rj_condition.specs.declared.token.Token.{Token}
use Rattle.rj_condition.specs.declared.token.Token.TheVariants as token
use Rattle.rj_condition.specs.declared.tree.ColumnName.{ColumnName}
use Rattle.rj_condition.specs.declared.tree.Name.{Name}
use Rattle.rj_condition.specs.Lexing.{Lexes}
use Rattle.rj_condition.specs.Names.{place, qualified}
use Rattle.rj_condition.specs.Tokens.{is_blank, IsToken}

-- The bytes that are left of a text are these tokens, and they begin at these bytes of it, counted from 0.
pub data BeginAt (text : List ℕ) : List ℕ → List Token → List ℕ → Type 0 where
  nothing : BeginAt text [] [] []
  blank : (b : ℕ) (bs : List ℕ) (ts : List Token) (starts : List ℕ) → is_blank b ≡ true → BeginAt text bs ts starts → BeginAt text (b ∷ bs) ts starts
  next : (bytes : List ℕ) (t : Token) (rest : List ℕ) (ts : List Token) (starts : List ℕ) → IsToken bytes t rest → BeginAt text rest ts starts
      → BeginAt text bytes (t ∷ ts) ((length text - length bytes) ∷ starts)
  unreadable : (bytes : List ℕ) → Lexes bytes (token.Unreadable ∷ []) → BeginAt text bytes (token.Unreadable ∷ []) ((length text - length bytes) ∷ [])

-- the name that a token is
abbrev pub name_of : Option Token → Option Name
name_of (Some (token.Name n)) = Some n
name_of _ = None

abbrev pub is_point : Option Token → Bool
is_point (Some (token.Sign sign.Point)) = true
is_point _ = false

-- the name before the point before a token
abbrev pub qualifier_at : List Token → ℕ → Option Name
qualifier_at ts (suc (suc i)) = if is_point (slice_get ts (suc i)) then name_of (slice_get ts i) else None
qualifier_at ts _ = None

-- the column that a token names: a name that no point follows, and its qualifier (SQL-92, 6.4)
abbrev pub column_at : List Token → ℕ → Option ColumnName
column_at ts i =
    if is_point (slice_get ts (i + 1)) then None else option_map (λ n. record { qualifier = qualifier_at ts i; name = n }) (name_of (slice_get ts i))

-- the clause is one of USING
abbrev pub is_using : Token → Bool
is_using (token.Keyword keyword.Using) = true
is_using _ = false

-- a name of an ON clause (SQL-92, 6.4)
abbrev pub reference_refusal : List (List ℕ) → List (List ℕ) → ColumnName → Option BindRefused
reference_refusal left right column = refusal_of (qualified left right column.qualifier column.name)
  where
    refusal_of : Result BoundOperand BindRefused → Option BindRefused
    refusal_of (Ok x) = None
    refusal_of (Err e) = Some e

abbrev pub is_same_place : ℕ → Option ℕ → Bool
is_same_place i None = false
is_same_place i (Some j) = i == j

-- one of the tokens names this column of the left table
abbrev pub is_named_in : List (List ℕ) → List Token → ℕ → Bool
is_named_in left ts i = list_any (λ t. is_same_place i (option_and_then (place left) (name_of (Some t)))) ts

-- a name of USING, by its places in the two tables and the tokens before it (SQL-92, 7.5)
abbrev pub using_refusal : List (List ℕ) → List Token → Option ℕ → Option ℕ → Option BindRefused
using_refusal left ts None b = Some refused.UnknownColumn
using_refusal left ts (Some i) None = Some refused.UnknownColumn
using_refusal left ts (Some i) (Some j) = if is_named_in left ts i then Some refused.RepeatedUsing else None

-- why a column name is refused, over the names of the left and the right table and the tokens
-- before it
abbrev pub refusal : Bool → List (List ℕ) → List (List ℕ) → List Token → ColumnName → Option BindRefused
refusal true left right before column = using_refusal left before (place left column.name) (place right column.name)
refusal false left right before column = reference_refusal left right column

-- the same of the column that a token names, if it names one
abbrev pub refusal_at : Bool → List (List ℕ) → List (List ℕ) → List Token → ℕ → Option BindRefused
refusal_at using left right ts i = option_and_then (refusal using left right (take i ts)) (column_at ts i)

-- the first token that names a column which is refused
pub record IsFirstRefused (left right : List (List ℕ)) (ts : List Token) (i : ℕ) (column : ColumnName) (e : BindRefused) : Type 0 where
  pub names : column_at ts i ≡ Some column
  pub refused : refusal (list_any is_using ts) left right (take i ts) column ≡ Some e
  pub first : (k : ℕ) → k < i → refusal_at (list_any is_using ts) left right ts k ≡ None

-- the refused column is the first refused column name among the tokens: the byte at which it
-- begins, the name, and why
pub record IsToldOf (left right : List (List ℕ)) (ts : List Token) (starts : List ℕ) (found : RefusedColumn) : Type 0 where
  pub place : ℕ
  pub column : ColumnName
  pub first : IsFirstRefused left right ts place column found.refused
  pub at : slice_get starts place ≡ Some found.at
  pub name : found.name ≡ column.name.text
  pub qualifier : found.qualifier ≡ option_map (λ n. n.text) column.qualifier

-- no column name among the tokens is refused
abbrev pub AreTaken : List (List ℕ) → List (List ℕ) → List Token → Type 0
AreTaken left right ts = (i : ℕ) → i < length ts → refusal_at (list_any is_using ts) left right ts i ≡ None

-- the same of the tokens of a text
abbrev pub IsRefusedColumn : List ℕ → List (List ℕ) → List (List ℕ) → RefusedColumn → Type 0
IsRefusedColumn text left right found = (ts : List Token) × (starts : List ℕ) × BeginAt text text ts starts × IsToldOf left right ts starts found

abbrev pub IsTaken : List ℕ → List (List ℕ) → List (List ℕ) → Type 0
IsTaken text left right = (ts : List Token) × (starts : List ℕ) × BeginAt text text ts starts × AreTaken left right ts
