-- How places in a text follow its bytes.
use Rattle.std.proofs.Common.{◌≡◌, ◌<◌, ◌≤◌, ◌+◌, ◌-◌, ℕ, zero, suc, List, [], ◌∷◌, ◌++◌, length, take, drop, get_or, true, false, Bool, refl, sym, ap, arith, inl, inr, ◌∙◌, subst}
use Rattle.std.specs.Prelude.{if◌then◌else◌, ◌==◌}
use Rattle.std.proofs.lemmas.Bool.{cases_Bool, eq-eqb, eqb-true, false_from_ne_true}
use Rattle.std.proofs.Math.Seq.{take-add}
use Rattle.std.proofs.lemmas.List.{take_more, take_rest, get_or-drop}
use Rattle.rj_csv_io.proofs.CutFacts.{line-closes}
use Rattle.rj_csv_io.proofs.DelimiterFacts.{delimiter-other, no-delimiter}
use Rattle.csv.specs.declared.parser.State.{State}
use Rattle.csv.specs.declared.parser.State.TheVariants as st
use Rattle.csv.specs.Machine.{step}
use Rattle.rj_csv_io.specs.Grammar.{may_delimit}
use Rattle.rj_csv_io.specs.StrictReading.{config_of}
use Rattle.rj_csv_io.specs.declared.place.ReaderPlace.{ReaderPlace}
use Rattle.rj_csv_io.specs.declared.place.ReaderPlace.TheVariants as place
use Rattle.rj_csv_io.specs.Cuts.{state_after, is_open, is_separator, after_plain, after_run, after_quote, after_byte, place_after, place_of, is_open_place}

-- a state that csv's defaults lead to
abbrev Usual : State → Type 0
Usual st.StartRecord = Unit {0}
Usual st.StartField = Unit {0}
Usual st.InField = Unit {0}
Usual st.InQuoted = Unit {0}
Usual st.AfterQuote = Unit {0}
Usual st.InEscape = ⊥
Usual st.InComment = ⊥
Usual st.AfterCr = Unit {0}

module _ (d : ℕ) (lawful : may_delimit d ≡ true) where
  abbrev Follows : State → ℕ → Type 0
  Follows s c = (place_of (step (config_of d) s c).0 ≡ after_byte d (place_of s) c) × Usual (step (config_of d) s c).0

  at-quote : (s : State) → Usual s → Follows s 34
  at-quote st.StartRecord u = (refl, tt)
  at-quote st.StartField u = (refl, tt)
  at-quote st.InField u = rw (no-delimiter d lawful 34 refl) (refl, tt)
  at-quote st.InQuoted u = (refl, tt)
  at-quote st.AfterQuote u = (refl, tt)
  at-quote st.InEscape u = absurd u
  at-quote st.InComment u = absurd u
  at-quote st.AfterCr u = (refl, tt)

  at-delimiter : (s : State) → Usual s → Follows s d
  at-delimiter s u =
      go s u (delimiter-other d lawful 34 refl) (eq-eqb d d refl) (delimiter-other d lawful 13 refl) (delimiter-other d lawful 10 refl)
    where
      go : (s : State) → Usual s → (d == 34) ≡ false → (d == d) ≡ true → (d == 13) ≡ false → (d == 10) ≡ false → Follows s d
      go st.StartRecord u q k r n = rw (q, k, r, n) (refl, tt)
      go st.StartField u q k r n = rw (q, k) (refl, tt)
      go st.InField u q k r n = rw (q, k) (refl, tt)
      go st.InQuoted u q k r n = rw q (refl, tt)
      go st.AfterQuote u q k r n = rw (q, k) (refl, tt)
      go st.InEscape u q k r n = absurd u
      go st.InComment u q k r n = absurd u
      go st.AfterCr u q k r n = rw (q, k, r, n) (refl, tt)

  at-cr : (s : State) → Usual s → Follows s 13
  at-cr s u = go s u (no-delimiter d lawful 13 refl)
    where
      go : (s : State) → Usual s → (13 == d) ≡ false → Follows s 13
      go st.StartRecord u k = rw k (refl, tt)
      go st.StartField u k = rw k (refl, tt)
      go st.InField u k = rw k (refl, tt)
      go st.InQuoted u k = (refl, tt)
      go st.AfterQuote u k = rw k (refl, tt)
      go st.InEscape u k = absurd u
      go st.InComment u k = absurd u
      go st.AfterCr u k = rw k (refl, tt)

  at-lf : (s : State) → Usual s → Follows s 10
  at-lf s u = go s u (no-delimiter d lawful 10 refl)
    where
      go : (s : State) → Usual s → (10 == d) ≡ false → Follows s 10
      go st.StartRecord u k = rw k (refl, tt)
      go st.StartField u k = rw k (refl, tt)
      go st.InField u k = rw k (refl, tt)
      go st.InQuoted u k = (refl, tt)
      go st.AfterQuote u k = rw k (refl, tt)
      go st.InEscape u k = absurd u
      go st.InComment u k = absurd u
      go st.AfterCr u k = rw k (refl, tt)

  at-other : (s : State) (c : ℕ) → Usual s → (c == 34) ≡ false → (c == d) ≡ false → (c == 13) ≡ false → (c == 10) ≡ false → Follows s c
  at-other st.StartRecord c u q k r n = rw (q, k, r, n) (refl, tt)
  at-other st.StartField c u q k r n = rw (q, k, r, n) (refl, tt)
  at-other st.InField c u q k r n = rw (q, k, r, n) (refl, tt)
  at-other st.InQuoted c u q k r n = rw q (refl, tt)
  at-other st.AfterQuote c u q k r n = rw (q, k, r, n) (refl, tt)
  at-other st.InEscape c u q k r n = absurd u
  at-other st.InComment c u q k r n = absurd u
  at-other st.AfterCr c u q k r n = rw (q, k, r, n) (refl, tt)

  place-step : (s : State) (c : ℕ) → Usual s → Follows s c
  place-step s c u = elim (cases_Bool (c == 34)) [
    | inl e ↦ subst (λ z. Follows s z) (sym (eqb-true c 34 e)) (at-quote s u)
    | inr q ↦ elim (cases_Bool (c == d)) [
      | inl e ↦ subst (λ z. Follows s z) (sym (eqb-true c d e)) (at-delimiter s u)
      | inr k ↦ elim (cases_Bool (c == 13)) [
        | inl e ↦ subst (λ z. Follows s z) (sym (eqb-true c 13 e)) (at-cr s u)
        | inr r ↦ elim (cases_Bool (c == 10)) [
          | inl e ↦ subst (λ z. Follows s z) (sym (eqb-true c 10 e)) (at-lf s u)
          | inr n ↦ at-other s c u q k r n
        ]
      ]
    ]
  ]

  -- the machine's state stands at the place that the text leads to
  places-follow : (s : State) (text : List ℕ) → Usual s → (place_of (state_after d s text) ≡ place_after d (place_of s) text) × Usual (state_after d s text)
  unfolding state_after place_after
  places-follow s [] u = (refl, u)
  places-follow s (c ∷ text) u =
      let one = place-step s c u in
      let more = places-follow (step (config_of d) s c).0 text one.1 in
      (more.0 ∙ ap (λ p. place_after d p text) one.0, more.1)

open-place : (s : State) → Usual s → is_open s ≡ is_open_place (place_of s)
open-place st.StartRecord u = refl
open-place st.StartField u = refl
open-place st.InField u = refl
open-place st.InQuoted u = refl
open-place st.AfterQuote u = refl
open-place st.InEscape u = absurd u
open-place st.InComment u = absurd u
open-place st.AfterCr u = refl

pub open-after : (d : ℕ) → may_delimit d ≡ true → (text : List ℕ) → is_open (state_after d st.StartRecord text) ≡ is_open_place (place_after d place.Fresh text)
open-after d lawful text =
    let follow = places-follow d lawful st.StartRecord text tt in
    open-place (state_after d st.StartRecord text) follow.1 ∙ ap is_open_place follow.0

pub places-append : (d : ℕ) (p : ReaderPlace) (a b : List ℕ) → place_after d p (a ++ b) ≡ place_after d (place_after d p a) b
unfolding place_after
places-append d p [] b = refl
places-append d p (c ∷ a) b = places-append d (after_byte d p c) a b

pub place-one : (d : ℕ) (p : ReaderPlace) (c : ℕ) → place_after d p (c ∷ []) ≡ after_byte d p c
unfolding place_after
place-one d p c = refl

pub place-none : (d : ℕ) (p : ReaderPlace) → place_after d p [] ≡ p
unfolding place_after
place-none d p = refl

run-run : (d : ℕ) (p : ReaderPlace) (c e : ℕ) → after_run d (after_run d p c) e ≡ after_run d p e
run-run d place.Fresh c e = go (is_separator d c)
  where
    go : (b : Bool) → after_run d (if b then place.Fresh else place.Inside) e ≡ after_plain d e
    go true = refl
    go false = refl
run-run d place.Inside c e = go (is_separator d c)
  where
    go : (b : Bool) → after_run d (if b then place.Fresh else place.Inside) e ≡ after_plain d e
    go true = refl
    go false = refl
run-run d place.Open c e = refl
run-run d place.Closed c e = go (is_separator d c)
  where
    go : (b : Bool) → after_run d (if b then place.Fresh else place.Inside) e ≡ after_plain d e
    go true = refl
    go false = refl

-- bytes without a quote
pub run-plain : (d : ℕ) (p : ReaderPlace) (text : List ℕ) (from n : ℕ) → from + suc n ≤ length text
    → ((i : ℕ) → from ≤ i → i < from + suc n → (get_or text i 0 == 34) ≡ false)
    → place_after d p (take (from + suc n) text) ≡ after_run d (place_after d p (take from text)) (get_or text (from + n) 0)
run-plain d p text from zero h plain =
    let last = plain from (omega arith) (omega arith) in
    let none : from + 0 ≡ from = omega arith in
    rw (none, take_more text from 0 (omega arith), places-append d p (take from text) (get_or text from 0 ∷ []), place-one d (place_after d p (take from text)) (get_or text from 0), last) refl
run-plain d p text from (suc n) h plain =
    let last = plain (from + suc n) (omega arith) (omega arith) in
    let before = run-plain d p text from n (omega arith) (λ i a b. plain i a (omega arith)) in
    let more = take_more text (from + suc n) 0 (omega arith) in
    let again = run-run d (place_after d p (take from text)) (get_or text (from + n) 0) (get_or text (from + suc n) 0) in
    let e : from + suc (suc n) ≡ (from + suc n) + 1 = omega arith in
    rw (e, more, places-append d p (take (from + suc n) text) (get_or text (from + suc n) 0 ∷ []), place-one d (place_after d p (take (from + suc n) text)) (get_or text (from + suc n) 0), last, before) again

pub run-to : (d : ℕ) (p : ReaderPlace) (text : List ℕ) (from to : ℕ) → from < to → to ≤ length text
    → ((i : ℕ) → from ≤ i → i < to → (get_or text i 0 == 34) ≡ false)
    → place_after d p (take to text) ≡ after_run d (place_after d p (take from text)) (get_or text (to - 1) 0)
run-to d p text from to some within plain =
    let e : from + suc (to - from - 1) ≡ to = omega arith in
    let f : from + (to - from - 1) ≡ to - 1 = omega arith in
    let run = run-plain d p text from (to - from - 1) (omega arith) (λ i a b. plain i a (omega arith)) in
    rw (e, f) at run

-- and then a quote
pub run-quote : (d : ℕ) (p : ReaderPlace) (text : List ℕ) (at : ℕ) → at < length text → (get_or text at 0 == 34) ≡ true
    → place_after d p (take (at + 1) text) ≡ after_quote (place_after d p (take at text))
run-quote d p text at h q = rw (take_more text at 0 h, places-append d p (take at text) (get_or text at 0 ∷ []), place-one d (place_after d p (take at text)) (get_or text at 0), q) refl

pub rest-at : (text : List ℕ) (at k : ℕ) → get_or (take (length text - at) (drop at text)) k 0 ≡ get_or text (at + k) 0
rest-at text at k = ap (λ t. get_or t k 0) (take_rest text at) ∙ get_or-drop at text k 0

-- a search that found no quote
pub no-quote : (text : List ℕ) (at n : ℕ) → ((k : ℕ) → 0 ≤ k → k < n → (get_or (take (length text - at) (drop at text)) k 0 == 34) ≡ true → ⊥)
    → (i : ℕ) → at ≤ i → i < at + n → (get_or text i 0 == 34) ≡ false
no-quote text at n h i a b =
    let e = rest-at text at (i - at) in
    let f : at + (i - at) ≡ i = omega arith in
    let g = rw f at e in
    false_from_ne_true (get_or text i 0 == 34) (λ t. h (i - at) (omega arith) (omega arith) (rw g t))

-- a line's end outside quotes ends a record
pub line-ends : (d : ℕ) → may_delimit d ≡ true → (text : List ℕ) (at : ℕ) → at < length text → (get_or text at 0 == 10) ≡ true
    → is_open_place (place_after d place.Fresh (take (at + 1) text)) ≡ false
    → state_after d st.StartRecord (take (at + 1) text) ≡ st.StartRecord
line-ends d lawful text at h lf closed =
    let more : take (at + 1) text ≡ take at text ++ 10 ∷ [] = take_more text at 0 h ∙ ap (λ c. take at text ++ c ∷ []) (eqb-true (get_or text at 0) 10 lf) in
    let still = open-after d lawful (take (at + 1) text) ∙ closed in
    rw more (line-closes d lawful st.StartRecord (take at text) (rw more at still))

-- the place after the bytes up to the next place
pub next-place : (d : ℕ) (p q r : ReaderPlace) (text : List ℕ) (at next : ℕ) → at ≤ next → q ≡ place_after d p (take at text)
    → r ≡ place_after d q (take (next - at) (drop at text)) → r ≡ place_after d p (take next text)
next-place d p q r text at next h e f =
    let size : at + (next - at) ≡ next = omega arith in
    let whole = sym (take-add at (next - at) text) in
    let joined = rw size at whole in
    f ∙ (ap (λ x. place_after d x (take (next - at) (drop at text))) e
    ∙ (sym (places-append d p (take at text) (take (next - at) (drop at text))) ∙ ap (λ t. place_after d p t) joined))
