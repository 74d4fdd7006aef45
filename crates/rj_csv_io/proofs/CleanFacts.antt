-- Walks over a text, piece by piece.
use Rattle.std.specs.Prelude.{ℕ, zero, suc, ◌==◌, ◌≡◌, ◌+◌, ◌-◌, ◌<◌, ◌≤◌, ◌&&◌, ◌||◌, not, Bool, true, false, List, [], ◌∷◌, ◌++◌, length, get_or, take, drop, Option, Some, IfSome, option_and_then}
use Rattle.std.proofs.Common.{refl, sym, ap, subst, ◌∙◌, arith}
use Rattle.std.proofs.lemmas.Bool.{and_from, not_from_false, false≢true}
use Rattle.std.proofs.lemmas.List.{take_all, take_more, take-append-drop, drop-drop, at_drop_more}
use Rattle.rj_csv_io.specs.Grammar.{dquote, cr, lf}
use Rattle.rj_csv_io.specs.Internal.StrictWalk.{walk, over_quote, place_after, may_not_follow, all_follow}
use Rattle.rj_csv_io.specs.declared.strict.standing.Place.{Place}
use Rattle.rj_csv_io.specs.declared.strict.standing.Place.TheVariants as place
use Rattle.rj_csv_io.proofs.WalkFacts.{last_of, follow-none, follow-more, follow-walk, walk-none, walk-append, walk-quote, closed-walk}

pub follow-empty : (before : ℕ) (text : List ℕ) → length text ≡ 0 → all_follow before text ≡ true
follow-empty before [] e = follow-none before
follow-empty before (c ∷ text) e = absurd (omega arith)

pub follow-one : (before : ℕ) (text : List ℕ) → (length text == 0) ≡ false → may_not_follow before (get_or text 0 0) ≡ false → all_follow before (take 1 text) ≡ true
unfolding all_follow
follow-one before [] e f = absurd (false≢true (sym e))
follow-one before (c ∷ text) e f = and_from (not (may_not_follow before c)) true (not_from_false (may_not_follow before c) f) refl

last-take : (before i : ℕ) (text : List ℕ) → i < length text → last_of before (take (suc i) text) ≡ get_or text i 0
last-take before i [] h = absurd (omega arith)
last-take before zero (c ∷ text) h = refl
last-take before (suc i) (c ∷ text) h = last-take c i text (omega arith)

follow-step : (before : ℕ) (text : List ℕ) (j : ℕ) → suc j < length text → all_follow before (take (suc j) text) ≡ true
    → may_not_follow (get_or text j 0) (get_or text (suc j) 0) ≡ false → all_follow before (take (suc j + 1) text) ≡ true
follow-step before text j h e f =
    let last = last-take before j text (omega arith) in
    let bad : may_not_follow (last_of before (take (suc j) text)) (get_or text (suc j) 0) ≡ false = ap (λ (x : ℕ). may_not_follow x (get_or text (suc j) 0)) last ∙ f in
    ap (λ (t : List ℕ). all_follow before t) (take_more text (suc j) 0 h) ∙ follow-more before (take (suc j) text) (get_or text (suc j) 0) e bad

-- one byte more
pub follow-at : (before : ℕ) (text : List ℕ) (i : ℕ) → 1 ≤ i → i < length text → all_follow before (take i text) ≡ true
    → may_not_follow (get_or text (i - 1) 0) (get_or text i 0) ≡ false → all_follow before (take (i + 1) text) ≡ true
follow-at before text i low =
    let next : suc (i - 1) ≡ i = omega arith in
    subst (λ (x : ℕ). x < length text → all_follow before (take x text) ≡ true → may_not_follow (get_or text (i - 1) 0) (get_or text x 0) ≡ false → all_follow before (take (x + 1) text) ≡ true)
    next (follow-step before text (i - 1))

pub follow-whole : (d before : ℕ) (text : List ℕ) → 0 < length text → all_follow before text ≡ true → walk d (place_after d before) text ≡ Some (place_after d (get_or text (length text - 1) 0))
follow-whole d before text h e =
    let i = length text - 1 in
    let whole : take (suc i) text ≡ text = take_all (suc i) text (omega arith) in
    let last : last_of before text ≡ get_or text i 0 = sym (ap (λ (t : List ℕ). last_of before t) whole) ∙ last-take before i text (omega arith) in
    follow-walk d before text e ∙ ap (λ (b : ℕ). Some (place_after d b)) last

pub walk-empty : (d : ℕ) (p : Place) (text : List ℕ) → length text ≡ 0 → walk d p text ≡ Some p
walk-empty d p [] e = walk-none d p
walk-empty d p (c ∷ text) e = absurd (omega arith)

pub not-empty : (text : List ℕ) → (length text == 0) ≡ false → 0 < length text
not-empty [] e = absurd (false≢true (sym e))
not-empty (c ∷ text) e = omega arith

pub closed-head : (d : ℕ) (text : List ℕ) → (length text == 0) ≡ false
    → (get_or text 0 0 == dquote) ≡ false → ((get_or text 0 0 == d) || (get_or text 0 0 == lf) || (get_or text 0 0 == cr)) ≡ true → walk d place.Closed text ≡ walk d place.Inside text
closed-head d [] e q f = absurd (false≢true (sym e))
closed-head d (c ∷ text) e q f = closed-walk d c text q f

pub some-is : {X : Type 0} (o : Option X) (x : X) (P : X → Type 0) → o ≡ Some x → IfSome o P → P x
some-is {X = X} o x P e = subst (λ (r : Option X). IfSome r P → P x) (sym e) (λ p. p)

-- from one quote to behind the next one
pub turn : (d : ℕ) (text : List ℕ) (at k : ℕ) (p p2 p3 : Place) → at + k < length text → get_or text (at + k) 0 ≡ dquote
    → walk d p (take (at + k - at) (drop at text)) ≡ Some p2 → over_quote p2 ≡ Some p3
    → walk d p (drop at text) ≡ walk d p3 (drop (at + (k + 1)) text)
turn d text at k p p2 p3 h quote e f =
    let size : at + k - at ≡ k = omega arith in
    let parts : drop at text ≡ take k (drop at text) ++ drop (at + k) text =
    sym (take-append-drop k (drop at text)) ∙ ap (λ (t : List ℕ). take k (drop at text) ++ t) (drop-drop k at text) in
    let here : drop (at + k) text ≡ get_or text (at + k) 0 ∷ drop (at + k + 1) text = at_drop_more (λ (t : List ℕ). t) text (at + k) 0 h in
    let more : at + k + 1 ≡ at + (k + 1) = omega arith in
    let quoted : drop (at + k) text ≡ dquote ∷ drop (at + (k + 1)) text = here ∙ ap (λ (b : ℕ). b ∷ drop (at + k + 1) text) quote ∙ ap (λ (n : ℕ). dquote ∷ drop n text) more in
    let first : walk d p (take k (drop at text)) ≡ Some p2 = sym (ap (λ (n : ℕ). walk d p (take n (drop at text))) size) ∙ e in
    ap (λ (t : List ℕ). walk d p t) parts
    ∙ walk-append d p (take k (drop at text)) (drop (at + k) text)
    ∙ ap (λ (o : Option Place). option_and_then (λ q. walk d q (drop (at + k) text)) o) first
    ∙ ap (λ (t : List ℕ). walk d p2 t) quoted
    ∙ walk-quote d p2 (drop (at + (k + 1)) text)
    ∙ ap (λ (o : Option Place). option_and_then (λ q. walk d q (drop (at + (k + 1)) text)) o) f

-- over the first part of a text
pub over-part : (d : ℕ) (p q : Place) (text part rest : List ℕ) → text ≡ part ++ rest → walk d p part ≡ Some q → walk d p text ≡ walk d q rest
over-part d p q text part rest e f =
    ap (λ (t : List ℕ). walk d p t) e ∙ walk-append d p part rest ∙ ap (λ (o : Option Place). option_and_then (λ r. walk d r rest) o) f

-- where neither is a return and the second is no quote, only a line feed behind another one may not follow
pub plain-pair : (before c : ℕ) → (c == dquote) ≡ false → (c == cr) ≡ false → (before == cr) ≡ false → ((before == lf) && (c == lf)) ≡ false
    → may_not_follow before c ≡ false
plain-pair before c q r k e = rw (q, r, k) (go (before == lf) (c == lf) e)
  where
    go : (n m : Bool) → (n && m) ≡ false → (n && (m || false) || false) ≡ false
    go true true e = absurd (false≢true (sym e))
    go true false e = refl
    go false m e = refl
