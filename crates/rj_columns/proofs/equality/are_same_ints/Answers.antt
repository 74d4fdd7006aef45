use Rattle.std.proofs.Common.{◌≡◌, ◌∙◌, ℤ, false, map, get_or, nat_eq, sym, ap, rules, w64}
use Rattle.std.specs.Ordering.{int_eq}
use Rattle.std.proofs.Math.Facts.{to_z-of_z}
use Rattle.std.proofs.lemmas.Bool.Decides.{Decides-eqb, Decides-int_eq, same_from_decides}
use mir.Val.{SFits, of_z, to_z}
use Rattle.rj_columns.specs.Contents.{Content, nothing, whole}
use Rattle.rj_columns.specs.Compare.{are_equal}
use Rattle.rj_columns.specs.Internal.Stores.{number_content}
use Rattle.rj_columns.proofs.CompareFacts.{are_equal-whole, are_equal-symmetric}
use Rattle.rj_columns.proofs.HashFacts.{shown-at}
use Rattle.rj_columns.proofs.equality.are_same_ints.Goals as goal

-- two numbers of 64 bits are equal exactly where their bits are
same_bits : (m n : ℤ) → SFits w64 m → SFits w64 n → nat_eq (of_z w64 m) (of_z w64 n) ≡ int_eq m n
same_bits m n f g =
    same_from_decides (nat_eq (of_z w64 m) (of_z w64 n)) (int_eq m n)
    (λ e. sym (to_z-of_z f) ∙ (ap (to_z w64) ((Decides-eqb (of_z w64 m) (of_z w64 n)).0 e) ∙ to_z-of_z g), λ e. (Decides-eqb (of_z w64 m) (of_z w64 n)).1 (ap (of_z w64) e))
    (Decides-int_eq m n)

-- a null equals nothing
null_equals : (x y : Content) → x ≡ nothing → false ≡ are_equal x y
null_equals x y e = ap (λ (z : Content). are_equal z y) (sym e)

-- two whole numbers that are shown
both_shown : (x y : Content) (m n : ℤ) → x ≡ whole m → y ≡ whole n → int_eq m n ≡ are_equal x y
both_shown x y m n e f = sym (are_equal-whole m n) ∙ (ap (λ z. are_equal z (whole n)) (sym e) ∙ ap (are_equal x) (sym f))

pub returns-in-None : goal.returns-in-None
returns-in-None c =
    let at = shown-at number_content c.args.left.now c.args.i c.get.result c.requires.left c.get.ensures in
    null_equals (get_or (map number_content c.args.left.now) c.args.i nothing) (get_or (map number_content c.args.right.now) c.args.j nothing) (at ∙ ap number_content c.in-None.is)

pub returns-in-None-get : goal.returns-in-None-get
returns-in-None-get c =
    let x = get_or (map number_content c.args.left.now) c.args.i nothing in
    let y = get_or (map number_content c.args.right.now) c.args.j nothing in
    let at = shown-at number_content c.args.right.now c.args.j c.get-in-Some.result c.requires.right c.get-in-Some.ensures in
    null_equals y x (at ∙ ap number_content c.in-None-get.is) ∙ are_equal-symmetric y x

pub returns-in-Some-get : goal.returns-in-Some-get
returns-in-Some-get c =
    let f : SFits w64 c.in-Some.m = search rules in
    let g : SFits w64 c.in-Some-get.n = search rules in
    let x = get_or (map number_content c.args.left.now) c.args.i nothing in
    let y = get_or (map number_content c.args.right.now) c.args.j nothing in
    let left = shown-at number_content c.args.left.now c.args.i c.get.result c.requires.left c.get.ensures in
    let right = shown-at number_content c.args.right.now c.args.j c.get-in-Some.result c.requires.right c.get-in-Some.ensures in
    same_bits c.in-Some.m c.in-Some-get.n f g ∙ both_shown x y c.in-Some.m c.in-Some-get.n (left ∙ ap number_content c.in-Some.is) (right ∙ ap number_content c.in-Some-get.is)
