-- Joins that fit two tables, and operands that may be compared.
use Rattle.std.proofs.Common.{◌≡◌, ℕ, zero, suc, List, [], ◌∷◌, length, Option, Some, None, true, refl, replicate, eq-eqb}
use Rattle.std.specs.Prelude.{◌<◌, ◌≤◌, ◌^◌, ℤ, nat_lt, unsigned_abs, slice_get}
use Rattle.std.proofs.lemmas.Bool.Decides.{nat_tests}
use Rattle.std.proofs.lemmas.Grind.{common_steps}
use Rattle.std.proofs.Common.{arith}
use Rattle.std.proofs.lemmas.Bool.{and_parts}
use Rattle.rj_columns.specs.Contents.{Content, nothing, whole, decimal, word, FitsType, IsInLimits}
use Rattle.rj_columns.specs.Compare.{seen, AreOneKind, AreComparable}
use Rattle.rj_columns.proofs.LimitFacts.{FitsType-limits}
use Rattle.rj_columns.specs.Tables.{FitsAt}
use Rattle.rj_columns.specs.declared.cell.ColumnType.{ColumnType}
use Rattle.rj_columns.specs.declared.cell.ColumnType.TheVariants as kind
use Rattle.rj_condition.specs.declared.tree.JoinKind.{JoinKind}
use Rattle.rj_condition.specs.declared.bound.Rule.{Rule}
use Rattle.rj_condition.specs.Fits.{family_of_type, family_in, are_one_family, has_family, IsOfFamily, FitsFamily, rule_fits, fits}
use Rattle.rj_condition.specs.Sizes.{is_short}
use Rattle.rj_condition.specs.declared.typing.TypeFamily.{TypeFamily}
use Rattle.rj_condition.specs.declared.typing.TypeFamily.TheVariants as family
use Rattle.rj_condition.proofs.PairFacts.{both, fit_none}

length_none : (n : ℕ) (x : Option ℕ) → length (replicate n x) ≡ n
length_none n x = grind (arith, common_steps)

pub fits_alone : (kind : JoinKind) (rule : Rule) (l r : List ColumnType) → rule_fits l r rule ≡ true → fits record { kind = kind; partners = replicate (length l) None; rule = rule } l r ≡ true
fits_alone kind rule l r h =
    let ps : List (Option ℕ) = replicate (length l) None in
    both _ _ (both _ _ (eq-eqb (length ps) (length l) (length_none (length l) None)) (fit_none l r (length l))) h

-- the family of a cell that fits its column
of_family : (t : ColumnType) (x : Content) → FitsType t x → IsOfFamily (family_of_type t) x
of_family kind.Int nothing h = tt
of_family kind.Int (whole n) h = tt
of_family kind.Int (decimal units scale) h = absurd h
of_family kind.Int (word s) h = absurd h
of_family (kind.Num t) nothing h = tt
of_family (kind.Num t) (whole n) h = absurd h
of_family (kind.Num t) (decimal units scale) h = tt
of_family (kind.Num t) (word s) h = absurd h
of_family kind.Text nothing h = tt
of_family kind.Text (whole n) h = absurd h
of_family kind.Text (decimal units scale) h = absurd h
of_family kind.Text (word s) h = tt

pub fits_kind : (types : List ColumnType) (i : ℕ) (x : Content) → FitsAt types i x → FitsFamily (family_in (slice_get types i)) x
unfolding FitsAt
fits_kind [] i x h = absurd h
fits_kind (t ∷ types) zero x h = (FitsType-limits t x h, of_family t x h)
fits_kind (t ∷ types) (suc i) x h = fits_kind types i x h

-- a decimal of a clause is within the limits of a comparison
pub short_limits : (units : ℤ) (scale : ℕ) → is_short units scale ≡ true → IsInLimits (decimal units scale)
short_limits units scale e = let h = and_parts (nat_lt scale 19) (nat_lt (unsigned_abs units) (10 ^ 18)) e in (limit scale h.0, below (unsigned_abs units) (10 ^ 18) h.1)
  where
    below : (a b : ℕ) → nat_lt a b ≡ true → a < b
    below a b e = grind (arith, nat_tests)

    limit : (scale : ℕ) → nat_lt scale 19 ≡ true → scale ≤ 18
    limit scale e = omega (arith, below scale 19 e)

-- contents of one family
numbers : (x y : Content) → IsOfFamily family.Number x → IsOfFamily family.Number y → AreOneKind (seen x) (seen y)
numbers nothing y f g = tt
numbers (whole m) nothing f g = tt
numbers (whole m) (whole n) f g = tt
numbers (whole m) (decimal u s) f g = tt
numbers (whole m) (word b) f g = absurd g
numbers (decimal v t) nothing f g = tt
numbers (decimal v t) (whole n) f g = tt
numbers (decimal v t) (decimal u s) f g = tt
numbers (decimal v t) (word b) f g = absurd g
numbers (word a) y f g = absurd f

texts : (x y : Content) → IsOfFamily family.Text x → IsOfFamily family.Text y → AreOneKind (seen x) (seen y)
texts nothing y f g = tt
texts (whole m) y f g = absurd f
texts (decimal v t) y f g = absurd f
texts (word a) nothing f g = tt
texts (word a) (whole n) f g = absurd g
texts (word a) (decimal u s) f g = absurd g
texts (word a) (word b) f g = tt

pub comparable : (s t : Option TypeFamily) (x y : Content) → are_one_family s t ≡ true → FitsFamily s x → FitsFamily t y → AreComparable x y
comparable None t x y h f g = absurd f
comparable (Some s) None x y h f g = absurd g
comparable (Some family.Number) (Some family.Number) x y h f g = (f.0, g.0, numbers x y f.1 g.1)
comparable (Some family.Number) (Some family.Text) x y h f g = cc
comparable (Some family.Text) (Some family.Number) x y h f g = cc
comparable (Some family.Text) (Some family.Text) x y h f g = (f.0, g.0, texts x y f.1 g.1)

pub known_left : (s t : Option TypeFamily) → are_one_family s t ≡ true → has_family s ≡ true
known_left None t h = h
known_left (Some s) t h = refl

pub known_right : (s t : Option TypeFamily) → are_one_family s t ≡ true → has_family t ≡ true
known_right None t h = cc
known_right (Some s) (Some t) h = refl
known_right (Some family.Number) None h = h
known_right (Some family.Text) None h = h

-- a pair of columns that fit can be compared
pub ruleset pair_comparable = (fits_kind, comparable, known_left, known_right)
