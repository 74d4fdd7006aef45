-- What a walk over a text says of its verdict.
use Rattle.std.specs.Prelude.{ℕ, ◌==◌, ◌≡◌, ◌&&◌, ◌||◌, not, if◌then◌else◌, Bool, true, false, List, [], ◌∷◌, ◌++◌, ◌<◌, length, get_or, suc, Option, Some, None, option_and_then, Result, Ok, Err}
use Rattle.std.specs.List.{list_all}
use Rattle.std.proofs.Common.{refl, sym, ap, ◌∙◌, arith}
use Rattle.std.proofs.lemmas.Bool.{and_parts, and_from, or_parts, not-true, not_from_false, false≢true}
use Rattle.rj_csv_io.specs.Grammar.{dquote, cr, lf}
use Rattle.rj_csv_io.specs.Internal.StrictSteps.{initial_standing, step_of, end_of, step_then, verdict}
use Rattle.rj_csv_io.specs.Internal.StrictWalk.{by_byte, walk_byte, walk, over_quote, place_after, may_not_follow, all_follow, may_end}
use Rattle.rj_csv_io.specs.declared.strict.header.HeaderPlace.{HeaderPlace}
use Rattle.rj_csv_io.specs.declared.strict.fault.StrictFault.{StrictFault}
use Rattle.rj_csv_io.specs.declared.strict.standing.Place.{Place}
use Rattle.rj_csv_io.specs.declared.strict.standing.Place.TheVariants as place
use Rattle.rj_csv_io.specs.declared.strict.standing.Standing.{Standing}
use Rattle.rj_csv_io.proofs.Lawful.{Lawful}

-- the step stands at this place
abbrev StandsAt : Place → Result Standing StrictFault → Type 0
StandsAt p (Ok s) = s.place ≡ p
StandsAt p (Err e) = ⊥

abbrev Goes : Option Place → Result Standing StrictFault → Type 0
Goes None r = Unit {0}
Goes (Some p) r = StandsAt p r

goes-if : (b : Bool) (o o2 : Option Place) (r r2 : Result Standing StrictFault) → Goes o r → Goes o2 r2 → Goes (if b then o else o2) (if b then r else r2)
goes-if true o o2 r r2 g g2 = g
goes-if false o o2 r r2 g g2 = g2

goes-by : (d c : ℕ) (n r q k x : Option Place) (n2 r2 q2 k2 x2 : Result Standing StrictFault) → Goes n n2 → Goes r r2 → Goes q q2 → Goes k k2 → Goes x x2
    → Goes (by_byte d c n r q k x) (by_byte d c n2 r2 q2 k2 x2)
goes-by d c n r q k x n2 r2 q2 k2 x2 a b e f g =
    goes-if (c == lf) _ _ _ _ a (goes-if (c == cr) _ _ _ _ b (goes-if (c == dquote) _ _ _ _ e (goes-if (c == d) _ _ _ _ f g)))

walk-step : (d : ℕ) (s : Standing) (c : ℕ) → Goes (walk_byte d s.place c) (step_of d s c)
walk-step d s c = elim s.place as (λ p. Goes (walk_byte d p c) (step_of d (record s { place = p }) c)) [
  | place.Start ↦ goes-by d c _ _ _ _ _ _ _ _ _ _ tt tt refl refl refl
  | place.Fresh ↦ goes-by d c _ _ _ _ _ _ _ _ _ _ refl refl refl refl refl
  | place.Inside ↦ goes-by d c _ _ _ _ _ _ _ _ _ _ refl refl tt refl refl
  | place.Open ↦ goes-by d c _ _ _ _ _ _ _ _ _ _ refl refl refl refl refl
  | place.Closed ↦ goes-by d c _ _ _ _ _ _ _ _ _ _ refl refl refl refl tt
  | place.Blank ↦ tt
  | place.Return ↦ goes-by d c _ _ _ _ _ _ _ _ _ _ refl tt tt tt tt
]

end-goes : (full : Bool) (s : Standing) → may_end full s.place ≡ true → end_of full s ≡ Ok tt
end-goes full s = elim s.place as (λ p. may_end full p ≡ true → end_of full (record s { place = p }) ≡ Ok tt) [
  | place.Start ↦ λ e. refl
  | place.Fresh ↦ λ e. rw (not-true full e) refl
  | place.Inside ↦ λ e. rw (not-true full e) refl
  | place.Open ↦ λ e. absurd (false≢true e)
  | place.Closed ↦ λ e. rw (not-true full e) refl
  | place.Blank ↦ λ e. absurd (false≢true e)
  | place.Return ↦ λ e. absurd (false≢true e)
]

abbrev MayEnd : Bool → Option Place → Type 0
MayEnd full None = ⊥
MayEnd full (Some p) = may_end full p ≡ true

walk-verdict : (d : ℕ) (full : Bool) (text : List ℕ) (s : Standing) (p : Place) → s.place ≡ p → MayEnd full (walk d p text) → verdict d full s text ≡ Ok tt
unfolding verdict walk
walk-verdict d full [] s p e m = end-goes full s (rw e m)
walk-verdict d full (c ∷ text) s p e m = go (walk_byte d s.place c) (step_of d s c) (walk-step d s c) (rw e m) (λ s2 q f n. walk-verdict d full text s2 q f n)
  where
    go : (o : Option Place) (r : Result Standing StrictFault) → Goes o r → MayEnd full (option_and_then (λ q. walk d q text) o)
        → ((s2 : Standing) (q : Place) → s2.place ≡ q → MayEnd full (walk d q text) → verdict d full s2 text ≡ Ok tt)
        → step_then r (λ s2. verdict d full s2 text) ≡ Ok tt
    go None r g n more = absurd n
    go (Some q) (Ok s2) g n more = more s2 q g n
    go (Some q) (Err f) g n more = absurd g

-- a text that is walked over is derived under any header
pub clean : (d : ℕ) (h : HeaderPlace) (full : Bool) (text : List ℕ) (p : Place) → walk d place.Start text ≡ Some p → may_end full p ≡ true → verdict d full (initial_standing h) text ≡ Ok tt
clean d h full text p e m = walk-verdict d full text (initial_standing h) place.Start refl (rw e m)

-- the tests of a byte: LF, CR, a quote and the delimiter
abbrev by_tests : {X : Type 0} → Bool → Bool → Bool → Bool → X → X → X → X → X → X
by_tests b r q k n m o w x = if b then n else if r then m else if q then o else if k then w else x

abbrev after_tests : Bool → Bool → Bool → Place
after_tests b r k = if b then place.Start else if r then place.Return else if k then place.Fresh else place.Inside

fresh-row : (b r q k : Bool) → q ≡ false
    → by_tests b r q k (Some place.Start) (Some place.Return) (Some place.Open) (Some place.Fresh) (Some place.Inside) ≡ Some (after_tests b r k)
fresh-row true r q k e = refl
fresh-row false true q k e = refl
fresh-row false false q true e = rw e refl
fresh-row false false q false e = rw e refl

inside-row : (b r q k : Bool) → q ≡ false
    → by_tests b r q k (Some place.Start) (Some place.Return) None (Some place.Fresh) (Some place.Inside) ≡ Some (after_tests b r k)
inside-row true r q k e = refl
inside-row false true q k e = refl
inside-row false false q true e = rw e refl
inside-row false false q false e = rw e refl

start-row : (b r q k : Bool) → q ≡ false → (b || r) ≡ false
    → by_tests b r q k None None (Some place.Open) (Some place.Fresh) (Some place.Inside) ≡ Some (after_tests b r k)
start-row true r q k e f = absurd (false≢true (sym f))
start-row false true q k e f = absurd (false≢true (sym f))
start-row false false q true e f = rw e refl
start-row false false q false e f = rw e refl

return-row : (b r q k : Bool) → not b ≡ false
    → by_tests b r q k (Some place.Start) None None None None ≡ Some (after_tests b r k)
return-row false r q k f = absurd (false≢true (sym f))
return-row true r q k f = refl

rows : (d : ℕ) (x z y b r q k : Bool) (c : ℕ) → b ≡ (c == lf) → r ≡ (c == cr) → q ≡ (c == dquote) → k ≡ (c == d)
    → (q || (x && (b || r)) || (z && not b)) ≡ false → walk_byte d (after_tests x z y) c ≡ Some (after_tests b r k)
rows d true z y b r q k c e f g h bad =
    let two = or_parts (q || (b || r)) (z && not b) bad in
    let one = or_parts q (b || r) two.0 in
    rw (sym e, sym f, sym g, sym h) (start-row b r q k one.0 one.1)
rows d false true y b r q k c e f g h bad =
    let two = or_parts (q || false) (not b) bad in
    rw (sym e, sym f, sym g, sym h) (return-row b r q k two.1)
rows d false false true b r q k c e f g h bad =
    let two = or_parts (q || false) false bad in
    let one = or_parts q false two.0 in
    rw (sym e, sym f, sym g, sym h) (fresh-row b r q k one.0)
rows d false false false b r q k c e f g h bad =
    let two = or_parts (q || false) false bad in
    let one = or_parts q false two.0 in
    rw (sym e, sym f, sym g, sym h) (inside-row b r q k one.0)

-- what may follow leads to its place
follows : (d before c : ℕ) → may_not_follow before c ≡ false → walk_byte d (place_after d before) c ≡ Some (place_after d c)
follows d before c e =
    rows d (before == lf) (before == cr) (before == d) (c == lf) (c == cr) (c == dquote) (c == d) c refl refl refl refl e

-- the places after the delimiter, and after a letter
pub after-delimiter : (d : ℕ) → Lawful d → place_after d d ≡ place.Fresh
after-delimiter d law = rw (law.no-lf, law.no-cr, law.is-self) refl

pub after-letter : (d : ℕ) → Lawful d → place_after d 97 ≡ place.Inside
after-letter d law = rw law.letter-not refl

abbrev pub last_of : ℕ → List ℕ → ℕ
last_of before [] = before
last_of before (c ∷ text) = last_of c text

pub follow-walk : (d before : ℕ) (text : List ℕ) → all_follow before text ≡ true → walk d (place_after d before) text ≡ Some (place_after d (last_of before text))
unfolding walk all_follow
follow-walk d before [] e = refl
follow-walk d before (c ∷ text) e =
    let parts = and_parts (not (may_not_follow before c)) (all_follow c text) e in
    let step = follows d before c (not-true (may_not_follow before c) parts.0) in
    ap (λ (o : Option Place). option_and_then (λ q. walk d q text) o) step ∙ follow-walk d c text parts.1

pub follow-more : (before : ℕ) (text : List ℕ) (c : ℕ) → all_follow before text ≡ true → may_not_follow (last_of before text) c ≡ false → all_follow before (text ++ c ∷ []) ≡ true
unfolding all_follow
follow-more before [] c e f = and_from (not (may_not_follow before c)) true (not_from_false (may_not_follow before c) f) refl
follow-more before (b ∷ text) c e f =
    let parts = and_parts (not (may_not_follow before b)) (all_follow b text) e in
    and_from (not (may_not_follow before b)) (all_follow b (text ++ c ∷ [])) parts.0 (follow-more b text c parts.1 f)

pub follow-none : (before : ℕ) → all_follow before [] ≡ true
unfolding all_follow
follow-none before = refl

-- a walk in two parts
pub walk-append : (d : ℕ) (p : Place) (a b : List ℕ) → walk d p (a ++ b) ≡ option_and_then (λ q. walk d q b) (walk d p a)
unfolding walk
walk-append d p [] b = refl
walk-append d p (c ∷ a) b = go (walk_byte d p c) (λ q. walk-append d q a b)
  where
    go : (o : Option Place) → ((q : Place) → walk d q (a ++ b) ≡ option_and_then (λ s. walk d s b) (walk d q a))
        → option_and_then (λ q. walk d q (a ++ b)) o ≡ option_and_then (λ s. walk d s b) (option_and_then (λ q. walk d q a) o)
    go None more = refl
    go (Some q) more = more q

pub walk-quote : (d : ℕ) (p : Place) (text : List ℕ) → walk d p (dquote ∷ text) ≡ option_and_then (λ q. walk d q text) (over_quote p)
unfolding walk
walk-quote d place.Start text = refl
walk-quote d place.Fresh text = refl
walk-quote d place.Inside text = refl
walk-quote d place.Open text = refl
walk-quote d place.Closed text = refl
walk-quote d place.Blank text = refl
walk-quote d place.Return text = refl

-- between quotes
open-byte : (d c : ℕ) → (c == dquote) ≡ false → walk_byte d place.Open c ≡ Some place.Open
open-byte d c e = go (c == lf) (c == cr) (c == dquote) (c == d) e
  where
    go : (b r q k : Bool) → q ≡ false → by_tests b r q k (Some place.Open) (Some place.Open) (Some place.Closed) (Some place.Open) (Some place.Open) ≡ Some place.Open
    go true r q k e = refl
    go false true q k e = refl
    go false false q true e = rw e refl
    go false false q false e = rw e refl

pub open-walk : (d : ℕ) (text : List ℕ) → list_all (λ c. not (c == dquote)) text ≡ true → walk d place.Open text ≡ Some place.Open
unfolding walk
open-walk d [] e = refl
open-walk d (c ∷ text) e =
    let parts = and_parts (not (c == dquote)) (list_all (λ x. not (x == dquote)) text) e in
    ap (λ (o : Option Place). option_and_then (λ q. walk d q text) o) (open-byte d c (not-true (c == dquote) parts.0)) ∙ open-walk d text parts.1

pub all-plain : (text : List ℕ) → ((i : ℕ) → i < length text → (get_or text i 0 == dquote) ≡ false) → list_all (λ c. not (c == dquote)) text ≡ true
all-plain [] h = refl
all-plain (c ∷ text) h =
    and_from (not (c == dquote)) (list_all (λ x. not (x == dquote)) text) (not_from_false (c == dquote) (h 0 (omega arith))) (all-plain text (λ i l. h (suc i) (omega arith)))

-- behind a closing quote the delimiter, LF and CR do what they do in a field
pub closed-walk : (d c : ℕ) (text : List ℕ) → (c == dquote) ≡ false → ((c == d) || (c == lf) || (c == cr)) ≡ true → walk d place.Closed (c ∷ text) ≡ walk d place.Inside (c ∷ text)
unfolding walk
closed-walk d c text none e = ap (λ (o : Option Place). option_and_then (λ q. walk d q text) o) (go (c == lf) (c == cr) (c == dquote) (c == d) none e)
  where
    go : (b r q k : Bool) → q ≡ false → (k || b || r) ≡ true
        → by_tests b r q k (Some place.Start) (Some place.Return) (Some place.Open) (Some place.Fresh) None
        ≡ by_tests b r q k (Some place.Start) (Some place.Return) None (Some place.Fresh) (Some place.Inside)
    go true r q k none e = refl
    go false true q k none e = refl
    go false false q true none e = rw none refl
    go false false q false none e = absurd (false≢true e)

pub walk-none : (d : ℕ) (p : Place) → walk d p [] ≡ Some p
unfolding walk
walk-none d p = refl
