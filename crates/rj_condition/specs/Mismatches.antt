-- The first comparison of a clause that can't be made, since one operand is a number and the other a text (SQL-92, 8.2).
use Rattle.std.specs.Prelude.{ℕ, suc, zero, ◌≡◌, ◌<◌, ◌+◌, Bool, true, false, List, [], ◌∷◌, length, Option, Some, None, option_map, option_and_then, Result, Ok, Err, if◌then◌else◌, drop, slice_get}
use Rattle.std.specs.List.{list_any, position_from}
use Rattle.std.specs.Option.{option_or}
use Rattle.std.specs.Str.{str_eq_ignore_ascii_case}
use Rattle.rj_columns.specs.Tables.{TableValue}
use Rattle.rj_condition.specs.declared.bound.BoundOperand.{BoundOperand}
use Rattle.rj_condition.specs.declared.bound.BoundOperand.TheVariants as bound
use Rattle.rj_condition.specs.declared.mismatches.Mismatch.{Mismatch}
use Rattle.rj_condition.specs.declared.refused.BindRefused.{BindRefused}
use Rattle.rj_condition.specs.declared.token.Keyword.TheVariants as keyword
use Rattle.rj_condition.specs.declared.token.Token.{Token}
use Rattle.rj_condition.specs.declared.token.Token.TheVariants as token
use Rattle.rj_condition.specs.declared.tree.Condition.{Condition}
use Rattle.rj_condition.specs.declared.tree.Condition.TheFolds.{fold-Condition}
use Rattle.rj_condition.specs.declared.tree.Condition.TheOpen.{Condition-F}
use Rattle.rj_condition.specs.declared.tree.Name.{Name}
use Rattle.rj_condition.specs.declared.tree.Operand.{Operand}
use Rattle.rj_condition.specs.Fits.{are_one_family, family_of}
use Rattle.rj_condition.specs.Names.{place, resolved_operand}
use Rattle.rj_condition.specs.Internal.Reading.{Read, predicate_at}
use Rattle.rj_condition.specs.Refusals.{BeginAt, is_point, is_using, name_of}

-- two operands
abbrev pub Pair : Type 0
Pair = BoundOperand × BoundOperand

-- the first answer that is one
abbrev pub first_of : {A : Type 0} → (A → Option Pair) → List A → Option Pair
first_of f [] = None
first_of f (x ∷ xs) = option_or (f x) (first_of f xs)

-- two operands that are of two families, over the left and the right table
abbrev pub apart : TableValue → TableValue → Option BoundOperand → Option BoundOperand → Option Pair
apart l r None y = None
apart l r (Some x) None = None
apart l r (Some x) (Some y) = if are_one_family (family_of l.types r.types x) (family_of l.types r.types y) then None else Some (x, y)

-- what is meant, if it can be resolved
abbrev pub taken : Result BoundOperand BindRefused → Option BoundOperand
taken (Ok x) = Some x
taken (Err e) = None

-- the operands of a comparison, if they differ in family
abbrev pub differ : TableValue → TableValue → Operand → Operand → Option Pair
differ l r a b = apart l r (taken (resolved_operand l.names r.names a)) (taken (resolved_operand l.names r.names b))

-- those of a predicate: BETWEEN compares its operand with each bound, IN with each member (SQL-92, 8.2 to 8.4)
abbrev pub differ_at : TableValue → TableValue → Condition-F (Option Pair) → Option Pair
differ_at l r (Condition-F.Compare a op b) = differ l r a b
differ_at l r (Condition-F.Between a b c negated) = option_or (differ l r a b) (differ l r a c)
differ_at l r (Condition-F.In a members negated) = first_of (differ l r a) members
differ_at l r _ = None

abbrev pub differ_in : TableValue → TableValue → Condition → Option Pair
differ_in l r c = fold-Condition (Option Pair) (differ_at l r) c

-- those of the predicate that the tokens begin with
abbrev pub differ_read : TableValue → TableValue → Read Condition → Option Pair
differ_read l r (Err left) = None
differ_read l r (Ok p) = differ_in l r p.0

-- the columns of a name of USING
abbrev pub differ_by_name : TableValue → TableValue → Name → Option Pair
differ_by_name l r n = apart l r (option_map bound.Left (place l.names n)) (option_map bound.Right (place r.names n))

-- the first columns of NATURAL, the left ones from this one on with this name, and the right ones
-- of the same name
abbrev pub first_common : TableValue → TableValue → ℕ → List (List ℕ) → Option Pair
first_common l r i [] = None
first_common l r i (n ∷ names) =
    option_or (apart l r (Some (bound.Left i)) (option_map bound.Right (position_from (str_eq_ignore_ascii_case n) 0 r.names))) (first_common l r (i + 1) names)

abbrev pub is_natural : Option Token → Bool
is_natural (Some (token.Keyword keyword.Natural)) = true
is_natural _ = false

-- the token before is a point, so that a predicate doesn't begin here
abbrev pub is_behind_point : List Token → ℕ → Bool
is_behind_point ts zero = false
is_behind_point ts (suc i) = is_point (slice_get ts i)

-- what a token begins in a clause without USING: NATURAL, or a predicate
abbrev pub differ_on : TableValue → TableValue → List Token → ℕ → Option Pair
differ_on l r ts i =
    if is_natural (slice_get ts i) then first_common l r 0 l.names
    else if is_behind_point ts i then None
    else differ_read l r (predicate_at (drop i ts))

-- the first operands that are compared at a token and differ in family
abbrev pub differ_from : Bool → TableValue → TableValue → List Token → ℕ → Option Pair
differ_from true l r ts i = option_and_then (differ_by_name l r) (name_of (slice_get ts i))
differ_from false l r ts i = differ_on l r ts i

-- the first token at which operands differ in family
pub record IsFirstApart (l r : TableValue) (ts : List Token) (i : ℕ) (operands : Pair) : Type 0 where
  pub differ : differ_from (list_any is_using ts) l r ts i ≡ Some operands
  pub first : (k : ℕ) → k < i → differ_from (list_any is_using ts) l r ts k ≡ None

-- its mismatch: the byte at which it begins, and the operands
pub record IsToldApart (l r : TableValue) (ts : List Token) (starts : List ℕ) (found : Mismatch) : Type 0 where
  pub place : ℕ
  pub first : IsFirstApart l r ts place (found.first, found.second)
  pub at : slice_get starts place ≡ Some found.at

-- all operands that are compared are of one family
abbrev pub AreOneFamily : TableValue → TableValue → List Token → Type 0
AreOneFamily l r ts = (i : ℕ) → i < length ts → differ_from (list_any is_using ts) l r ts i ≡ None

-- the same of the tokens of a text
abbrev pub IsMismatch : List ℕ → TableValue → TableValue → Mismatch → Type 0
IsMismatch text l r found = (ts : List Token) × (starts : List ℕ) × BeginAt text text ts starts × IsToldApart l r ts starts found

abbrev pub HasNoMismatch : List ℕ → TableValue → TableValue → Type 0
HasNoMismatch text l r = (ts : List Token) × (starts : List ℕ) × BeginAt text text ts starts × AreOneFamily l r ts
