-- How two cells compare (SQL-92 8.2): numbers by their exact values, whatever their types and
-- scales, texts by their UTF-8 bytes. A NULL compares with nothing.
use Rattle.std.specs.Prelude.{ℕ, List, Bool, true, false, Option, None, Some}
use Rattle.std.specs.Str.{bytes_eq}
use Rattle.std.specs.declared.cmp.Ordering.{Ordering}
use Rattle.std.specs.Ordering.{nat_cmp}
use Rattle.std.specs.Cmp.Lexicographic.{slice_cmp}
use Rattle.rj_columns.specs.Numbers.{Number, number_of, whole_number}
use Rattle.rj_columns.specs.NumberOrder.{ordered, are_same}
use Rattle.rj_columns.specs.declared.comparison.Value.{Value}
use Rattle.rj_columns.specs.declared.comparison.Value.TheVariants as value
use Rattle.rj_columns.specs.Contents.{Content, nothing, whole, decimal, word, IsInLimits}

-- a cell as a comparison sees it: no value, a number or a text
pub data Comparand : Type 0 where
  absent : Comparand
  number : Number → Comparand
  text : List ℕ → Comparand

abbrev pub seen : Content → Comparand
seen nothing = absent
seen (whole n) = number (whole_number n)
seen (decimal units scale) = number (record { units = units; scale = scale })
seen (word s) = text s

-- the same of a cell as the code sees it
abbrev pub comparand_of : Value → Comparand
comparand_of value.Null = absent
comparand_of (value.Number d) = number (number_of d)
comparand_of (value.Text s) = text s.now

-- the order of two comparands of one kind; none if either is absent
abbrev pub order_of : Comparand → Comparand → Option Ordering
order_of absent y = None
order_of (number m) absent = None
order_of (number m) (number n) = Some (ordered m n)
order_of (number m) (text t) = None
order_of (text s) absent = None
order_of (text s) (number n) = None
order_of (text s) (text t) = Some (slice_cmp nat_cmp s t)

-- both present, of one kind, and equal
abbrev pub are_one : Comparand → Comparand → Bool
are_one absent y = false
are_one (number m) absent = false
are_one (number m) (number n) = are_same m n
are_one (number m) (text t) = false
are_one (text s) absent = false
are_one (text s) (number n) = false
are_one (text s) (text t) = bytes_eq s t

-- either is absent, or both are numbers or both texts
abbrev pub AreOneKind : Comparand → Comparand → Type 0
AreOneKind absent y = Unit {0}
AreOneKind (number m) absent = Unit {0}
AreOneKind (number m) (number n) = Unit {0}
AreOneKind (number m) (text t) = ⊥
AreOneKind (text s) absent = Unit {0}
AreOneKind (text s) (number n) = ⊥
AreOneKind (text s) (text t) = Unit {0}

-- the order of two cells, both numbers or both texts; none if either is NULL
abbrev pub compared : Content → Content → Option Ordering
compared x y = order_of (seen x) (seen y)

-- neither is NULL, both are numbers or both texts, and they are equal
abbrev pub are_equal : Content → Content → Bool
are_equal x y = are_one (seen x) (seen y)

-- either is NULL, or both are numbers or both texts; decimals are within their limits
abbrev pub AreComparable : Content → Content → Type 0
AreComparable x y = IsInLimits x × IsInLimits y × AreOneKind (seen x) (seen y)

-- a cell that is NULL
abbrev pub is_null : Content → Bool
is_null nothing = true
is_null (whole n) = false
is_null (decimal units scale) = false
is_null (word s) = false
