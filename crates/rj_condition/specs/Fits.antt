-- Whether a bound join fits the types of two tables: each column exists, and what is compared is of
-- one family, numbers or texts.
use Rattle.std.specs.Prelude.{ℕ, ◌==◌, Bool, true, false, ◌&&◌, List, map, length, Option, None, Some, slice_get}
use Rattle.std.specs.List.{list_all}
use Rattle.rj_columns.specs.Contents.{Content, whole, decimal, word, IsInLimits}
use Rattle.rj_columns.specs.declared.cell.ColumnType.{ColumnType}
use Rattle.rj_columns.specs.declared.cell.ColumnType.TheVariants as kind
use Rattle.rj_condition.specs.Joins.{pairs_of}
use Rattle.rj_condition.specs.declared.tree.Literal.{Literal}
use Rattle.rj_condition.specs.declared.tree.Literal.TheVariants as literal
use Rattle.rj_condition.specs.declared.bound.BoundOperand.{BoundOperand}
use Rattle.rj_condition.specs.declared.bound.BoundOperand.TheVariants as operand
use Rattle.rj_condition.specs.declared.bound.BoundCondition.{BoundCondition}
use Rattle.rj_condition.specs.declared.bound.BoundCondition.TheFolds.{fold-BoundCondition}
use Rattle.rj_condition.specs.declared.bound.BoundCondition.TheOpen.{BoundCondition-F}
use Rattle.rj_condition.specs.declared.typing.TypeFamily.{TypeFamily}
use Rattle.rj_condition.specs.declared.typing.TypeFamily.TheVariants as family
use Rattle.rj_condition.specs.declared.bound.Rule.{Rule}
use Rattle.rj_condition.specs.declared.bound.Rule.TheVariants as rule
use Rattle.rj_condition.specs.declared.bound.BoundJoin.{BoundJoin}

abbrev pub family_of_type : ColumnType → TypeFamily
family_of_type kind.Int = family.Number
family_of_type (kind.Num t) = family.Number
family_of_type kind.Text = family.Text

abbrev pub family_in : Option ColumnType → Option TypeFamily
family_in (Some t) = Some (family_of_type t)
family_in None = None

abbrev pub literal_family : Literal → TypeFamily
literal_family (literal.Integer n) = family.Number
literal_family (literal.Decimal d) = family.Number
literal_family (literal.Text text) = family.Text

-- the family of an operand over these types of columns; None if there is no such column
abbrev pub family_of : List ColumnType → List ColumnType → BoundOperand → Option TypeFamily
family_of left right (operand.Left col) = family_in (slice_get left col)
family_of left right (operand.Right col) = family_in (slice_get right col)
family_of left right (operand.Literal x) = Some (literal_family x)

-- a number with a text is refused
abbrev pub are_one_family : Option TypeFamily → Option TypeFamily → Bool
are_one_family (Some family.Number) (Some family.Number) = true
are_one_family (Some family.Text) (Some family.Text) = true
are_one_family a b = false

-- types differ if one is text and the other is not
abbrev pub are_one_type : Option ColumnType → Option ColumnType → Bool
are_one_type a b = are_one_family (family_in a) (family_in b)

abbrev pub has_family : Option TypeFamily → Bool
has_family (Some f) = true
has_family None = false

-- NULL, or of this family
abbrev pub IsOfFamily : TypeFamily → Content → Type 0
IsOfFamily family.Number (word s) = ⊥
IsOfFamily family.Number x = Unit {0}
IsOfFamily family.Text (whole n) = ⊥
IsOfFamily family.Text (decimal units scale) = ⊥
IsOfFamily family.Text x = Unit {0}

-- the same of what may be compared
abbrev pub FitsFamily : Option TypeFamily → Content → Type 0
FitsFamily None x = ⊥
FitsFamily (Some f) x = IsInLimits x × IsOfFamily f x

-- the comparisons of BETWEEN and IN are those of their meaning; IS NULL takes any type
abbrev pub fits_at : List ColumnType → List ColumnType → BoundCondition-F Bool → Bool
fits_at left right (BoundCondition-F.Compare a op b) = are_one_family (family_of left right a) (family_of left right b)
fits_at left right (BoundCondition-F.Between x a b negated) =
    are_one_family (family_of left right x) (family_of left right a) && are_one_family (family_of left right x) (family_of left right b)
fits_at left right (BoundCondition-F.In x members negated) =
    has_family (family_of left right x) && list_all (λ m. are_one_family (family_of left right x) (family_of left right m)) members
fits_at left right (BoundCondition-F.IsNull x negated) = has_family (family_of left right x)
fits_at left right (BoundCondition-F.Is b truth negated) = b
fits_at left right (BoundCondition-F.Not b) = b
fits_at left right (BoundCondition-F.All bs) = list_all (λ b. b) bs
fits_at left right (BoundCondition-F.Any bs) = list_all (λ b. b) bs

abbrev pub condition_fits : List ColumnType → List ColumnType → BoundCondition → Bool
condition_fits left right c = fold-BoundCondition Bool (fits_at left right) c

abbrev pub all_fit : List ColumnType → List ColumnType → List BoundCondition → Bool
all_fit left right cs = list_all (λ b. b) (map (condition_fits left right) cs)

abbrev pub pair_fits : List ColumnType → List ColumnType → ℕ × ℕ → Bool
pair_fits left right p = are_one_type (slice_get left p.0) (slice_get right p.1)

-- each join column and its partner exist and are of one family
abbrev pub pairs_fit : List ColumnType → List ColumnType → List (Option ℕ) → Bool
pairs_fit left right partners = list_all (pair_fits left right) (pairs_of partners)

abbrev pub rule_fits : List ColumnType → List ColumnType → Rule → Bool
rule_fits left right rule.AllPairs = true
rule_fits left right rule.EqualPartners = true
rule_fits left right (rule.Condition c) = condition_fits left right c

-- one entry for each left column, partners that fit, and a condition that fits
abbrev pub fits : BoundJoin → List ColumnType → List ColumnType → Bool
fits join left right = (length join.partners == length left) && pairs_fit left right join.partners && rule_fits left right join.rule
