-- Equal cells, and the order of equal cells.
use Rattle.std.proofs.Common.{◌≡◌, Bool, ℕ, ℤ, List, true, false, Some, refl, sym, ap, ◌∙◌}
use Rattle.std.specs.Prelude.{◌↔◌}
use Rattle.std.specs.Str.{bytes_eq}
use Rattle.std.specs.Ordering.{int_eq, nat_cmp, is_eq}
use Rattle.std.specs.Cmp.Lexicographic.{slice_cmp}
use Rattle.std.specs.Cmp.{Equal-is}
use Rattle.std.specs.declared.cmp.Ordering.TheVariants.{Equal}
use Rattle.std.proofs.lemmas.Slice.Eq.{bytes_eq-Decides}
use Rattle.std.proofs.lemmas.Map.Text.{is_eq-slice_cmp}
use Rattle.rj_columns.specs.Numbers.{Number}
use Rattle.rj_columns.specs.NumberOrder.{ordered, are_same}
use Rattle.rj_columns.proofs.NumberLaws.{ordered-equal, same-symmetric, same-whole}
use Rattle.rj_columns.specs.Contents.{Content, nothing, whole, decimal, word}
use Rattle.rj_columns.specs.Compare.{Comparand, absent, number, text, seen, order_of, are_one, compared, are_equal, is_null}

-- cells are equal exactly where their order says so
pub equal_texts : (s t : List ℕ) → (Some (slice_cmp nat_cmp s t) ≡ Some Equal) ↔ (bytes_eq s t ≡ true)
equal_texts s t =
    let e = is_eq-slice_cmp s t in
    (λ o. let same : slice_cmp nat_cmp s t ≡ Equal = cc in sym e ∙ ap is_eq same, λ b. ap (λ r. Some r) ((Equal-is (slice_cmp nat_cmp s t)).0 (e ∙ b)))

equal_numbers : (m n : Number) → (Some (ordered m n) ≡ Some Equal) ↔ (are_same m n ≡ true)
equal_numbers m n = (λ o. let same : ordered m n ≡ Equal = cc in (ordered-equal m n).0 same, λ b. ap (λ r. Some r) ((ordered-equal m n).1 b))

order_of-equal : (x y : Comparand) → (order_of x y ≡ Some Equal) ↔ (are_one x y ≡ true)
order_of-equal absent y = (λ e. cc, λ e. cc)
order_of-equal (number m) absent = (λ e. cc, λ e. cc)
order_of-equal (number m) (number n) = equal_numbers m n
order_of-equal (number m) (text t) = (λ e. cc, λ e. cc)
order_of-equal (text s) absent = (λ e. cc, λ e. cc)
order_of-equal (text s) (number n) = (λ e. cc, λ e. cc)
order_of-equal (text s) (text t) = equal_texts s t

pub compared-equal : (x y : Content) → (compared x y ≡ Some Equal) ↔ (are_equal x y ≡ true)
compared-equal x y = order_of-equal (seen x) (seen y)

-- whole numbers are equal by themselves
pub are_equal-whole : (m n : ℤ) → are_equal (whole m) (whole n) ≡ int_eq m n
are_equal-whole m n = same-whole m n

-- equal cells are equal either way
are_one-turned : (x y : Comparand) → are_one x y ≡ true → are_one y x ≡ true
are_one-turned absent y e = cc
are_one-turned (number m) absent e = cc
are_one-turned (number m) (number n) e = same-symmetric m n e
are_one-turned (number m) (text t) e = cc
are_one-turned (text s) absent e = cc
are_one-turned (text s) (number n) e = cc
are_one-turned (text s) (text t) e = let same = (bytes_eq-Decides s t).0 e in (bytes_eq-Decides t s).1 (sym same)

pub are_equal-turned : (x y : Content) → are_equal x y ≡ true → are_equal y x ≡ true
are_equal-turned x y e = are_one-turned (seen x) (seen y) e

pub are_equal-symmetric : (x y : Content) → are_equal x y ≡ are_equal y x
are_equal-symmetric x y = by (are_equal x y) (are_equal y x) refl refl
  where
    by : (a b : Bool) → are_equal x y ≡ a → are_equal y x ≡ b → are_equal x y ≡ are_equal y x
    by true b e f = e ∙ sym (are_equal-turned x y e)
    by false true e f = are_equal-turned y x f ∙ sym f
    by false false e f = e ∙ sym f

-- equal cells are not null
pub are_equal-left : (x y : Content) → are_equal x y ≡ true → is_null x ≡ false
are_equal-left nothing y e = cc
are_equal-left (whole n) y e = refl
are_equal-left (decimal units scale) y e = refl
are_equal-left (word s) y e = refl

pub are_equal-right : (x y : Content) → are_equal x y ≡ true → is_null y ≡ false
are_equal-right x y e = are_equal-left y x (are_equal-turned x y e)
