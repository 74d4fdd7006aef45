-- The last cut of a text, and the records of texts that follow each other.
use Rattle.std.proofs.Common.{◌≡◌, ◌<◌, ◌≤◌, ◌+◌, ◌-◌, ℕ, List, ◌∷◌, ◌++◌, length, take, drop, get_or, true, false, Bool, refl, sym, ap, arith, inl, inr, ◌∙◌, append_assoc}
use Rattle.std.specs.Prelude.{if◌then◌else◌, ◌==◌}
use Rattle.std.proofs.lemmas.Bool.{cases_lt, eq-eqb, eqb-true, false≢true}
use Rattle.std.proofs.lemmas.List.{get_or-drop, get_or-take, take-append-drop, length-take, length-drop}
use Rattle.csv.specs.declared.parser.State.TheVariants as st
use Rattle.csv.specs.Reading.{records, strip_bom}
use Rattle.rj_csv_io.specs.Grammar.{may_delimit}
use Rattle.rj_csv_io.specs.StrictReading.{config_of}
use Rattle.rj_csv_io.specs.declared.place.ReaderPlace.{ReaderPlace}
use Rattle.rj_csv_io.specs.declared.place.ReaderPlace.TheVariants as place
use Rattle.rj_csv_io.specs.Cuts.{state_after, is_open, is_separator, after_run, place_after, is_open_place, has_bom, records_in}
use Rattle.rj_csv_io.specs.Parts.{row_records}
use Rattle.rj_csv_io.specs.Pieces.{IsLastEnd, piece_records}
use Rattle.rj_csv_io.proofs.CutFacts.{records-split, strip-plain}
use Rattle.rj_csv_io.proofs.PlaceFacts.{line-ends, open-after, run-to}

-- a text of which no byte was looked at
pub no-end : (d : ℕ) (text : List ℕ) → IsLastEnd d text 0 0
no-end d text = record { within = omega arith; here = inl refl; none = λ at a b e. absurd (omega arith) }

-- a record ends there, or none began
pub last-ends : (d : ℕ) (text : List ℕ) (end last : ℕ) → IsLastEnd d text end last → state_after d st.StartRecord (take last text) ≡ st.StartRecord
unfolding state_after
last-ends d text end last h = elim h.here [
  | inl none ↦ rw none refl
  | inr e ↦ e.ends
]

-- there is one last place
pub one-last : (d : ℕ) (text : List ℕ) (end last other : ℕ) → IsLastEnd d text end last → IsLastEnd d text end other → other ≡ last
one-last d text end last other h o = elim (cases_lt last other) [
  | inl later ↦ elim o.here [ inl none ↦ absurd (omega arith) | inr e ↦ absurd (h.none other later o.within e) ]
  | inr before ↦ elim (cases_lt other last) [
    | inl sooner ↦ elim h.here [ inl none ↦ absurd (omega arith) | inr e ↦ absurd (o.none last sooner h.within e) ]
    | inr same ↦ omega arith
  ]
]

still-closed : (d : ℕ) (p : ReaderPlace) (c : ℕ) → is_open_place p ≡ false → is_open_place (after_run d p c) ≡ false
still-closed d place.Fresh c h = go (is_separator d c)
  where
    go : (b : Bool) → is_open_place (if b then place.Fresh else place.Inside) ≡ false
    go true = refl
    go false = refl
still-closed d place.Inside c h = go (is_separator d c)
  where
    go : (b : Bool) → is_open_place (if b then place.Fresh else place.Inside) ≡ false
    go true = refl
    go false = refl
still-closed d place.Open c h = absurd (false≢true (sym h))
still-closed d place.Closed c h = go (is_separator d c)
  where
    go : (b : Bool) → is_open_place (if b then place.Fresh else place.Inside) ≡ false
    go true = refl
    go false = refl

open-is : (p : ReaderPlace) → is_open_place p ≡ true → p ≡ place.Open
open-is place.Fresh h = absurd (false≢true h)
open-is place.Inside h = absurd (false≢true h)
open-is place.Open h = refl
open-is place.Closed h = absurd (false≢true h)

no-quote-at : (c : ℕ) → c ≡ 10 → (c == 34) ≡ false
no-quote-at c e = rw e refl

module _ (d : ℕ) (lawful : may_delimit d ≡ true) (text : List ℕ) (at next : ℕ) (order : at < next) (within : next ≤ length text)
    (plain : (i : ℕ) → at ≤ i → i < next - 1 → (get_or text i 0 == 34) ≡ false) where
  -- up to a line feed there is no quote
  plain-to : (k : ℕ) → k ≤ next → get_or text (k - 1) 0 ≡ 10 → (i : ℕ) → at ≤ i → i < k → (get_or text i 0 == 34) ≡ false
  plain-to k high feed i low less = elim (cases_lt i (next - 1)) [
    | inl before ↦ plain i low before
    | inr last ↦ (let e : i ≡ k - 1 = omega arith in no-quote-at (get_or text i 0) (ap (λ j. get_or text j 0) e ∙ feed))
  ]

  -- between quotes no record ends
  pub none-open : (last : ℕ) → is_open_place (place_after d place.Fresh (take at text)) ≡ true → IsLastEnd d text at last → IsLastEnd d text next last
  none-open last opened h = record {
    within = omega (arith, h.within);
    here = h.here;
    none = λ k a b e. elim (cases_lt at k) [
      | inr old ↦ h.none k a old e
      | inl new ↦ (
          let is = open-is (place_after d place.Fresh (take at text)) opened in
          let there = run-to d place.Fresh text at k new (omega arith) (plain-to k b e.feed) in
          let opens = ap is_open_place there ∙ ap (λ p. is_open_place (after_run d p (get_or text (k - 1) 0))) is in
          let shut = sym (open-after d lawful (take k text)) ∙ ap is_open e.ends in
          absurd (false≢true (sym shut ∙ opens)))
    ];
  }

  slice-at : (j : ℕ) → j < next - at → get_or (take (next - at) (drop at text)) j 0 ≡ get_or text (at + j) 0
  slice-at j h = get_or-take (next - at) (drop at text) j 0 h ∙ get_or-drop at text j 0

  pub slice-size : length (take (next - at) (drop at text)) ≡ next - at
  slice-size = let a = length-take (next - at) (drop at text) in let b = length-drop at text in omega (arith, a, b)

  -- a line feed that is not there
  after-all : (from k : ℕ) → at + from < k → k ≤ next
      → ((j : ℕ) → from ≤ j → j < length (take (next - at) (drop at text)) → (get_or (take (next - at) (drop at text)) j 0 == 10) ≡ true → ⊥)
      → get_or text (k - 1) 0 ≡ 10 → ⊥
  after-all from k low high absent feed =
      let size = slice-size in
      let e : at + (k - 1 - at) ≡ k - 1 = omega arith in
      let here = slice-at (k - 1 - at) (omega arith) ∙ (ap (λ j. get_or text j 0) e ∙ feed) in
      absent (k - 1 - at) (omega arith) (omega (arith, size)) (eq-eqb (get_or (take (next - at) (drop at text)) (k - 1 - at) 0) 10 here)

  -- outside quotes and without a line feed
  pub none-closed : (last : ℕ) → IsLastEnd d text at last
      → ((j : ℕ) → 0 ≤ j → j < length (take (next - at) (drop at text)) → (get_or (take (next - at) (drop at text)) j 0 == 10) ≡ true → ⊥)
      → IsLastEnd d text next last
  none-closed last h absent = record {
    within = omega (arith, h.within);
    here = h.here;
    none = λ k a b e. elim (cases_lt at k) [
      | inr old ↦ h.none k a old e
      | inl new ↦ after-all 0 k (omega arith) b absent e.feed
    ];
  }

  -- outside quotes, at the last line feed
  pub last-closed : (k : ℕ) → is_open_place (place_after d place.Fresh (take at text)) ≡ false
      → k < length (take (next - at) (drop at text)) → (get_or (take (next - at) (drop at text)) k 0 == 10) ≡ true
      → ((j : ℕ) → k + 1 ≤ j → j < length (take (next - at) (drop at text)) → (get_or (take (next - at) (drop at text)) j 0 == 10) ≡ true → ⊥)
      → IsLastEnd d text next (at + k + 1)
  last-closed k closed high feed absent =
      let size = slice-size in
      let here = slice-at k (omega (arith, size, high)) in
      let lf : (get_or text (at + k) 0 == 10) ≡ true = ap (λ c. c == 10) (sym here) ∙ feed in
      let e : at + k + 1 - 1 ≡ at + k = omega arith in
      let byte : get_or text (at + k + 1 - 1) 0 ≡ 10 = ap (λ j. get_or text j 0) e ∙ eqb-true (get_or text (at + k) 0) 10 lf in
      let run = run-to d place.Fresh text at (at + k + 1) (omega arith) (omega (arith, size, high)) (plain-to (at + k + 1) (omega (arith, size, high)) byte) in
      let shut = ap is_open_place run ∙ still-closed d (place_after d place.Fresh (take at text)) (get_or text (at + k + 1 - 1) 0) closed in
      record {
        within = omega (arith, size, high);
        here = inr record { behind = omega arith; feed = byte; ends = line-ends d lawful text (at + k) (omega (arith, size, high)) lf shut };
        none = λ j a b e. after-all (k + 1) j (omega arith) b absent e.feed;
      }

-- a text that more bytes follow, cut behind a record
pub cut-records : (d : ℕ) (text more : List ℕ) (at : ℕ) → state_after d st.StartRecord (take at text) ≡ st.StartRecord
    → records (config_of d) (text ++ more) ≡ records (config_of d) (take at text) ++ records (config_of d) (drop at text ++ more)
cut-records d text more at h =
    let parts = take-append-drop at text in
    ap (λ t. records (config_of d) (t ++ more)) (sym parts)
    ∙ (ap (records (config_of d)) (append_assoc (take at text) (drop at text) more) ∙ records-split d (take at text) (drop at text ++ more) h)

-- a text behind a byte order mark
pub marked : (text : List ℕ) → strip_bom (0xEF ∷ 0xBB ∷ 0xBF ∷ text) ≡ text
unfolding strip_bom
marked text = refl

-- a text with no byte order mark
pub plain-records : (d : ℕ) (text : List ℕ) → has_bom text ≡ false → records_in d text ≡ records (config_of d) text
plain-records d text h = ap (records (config_of d)) (strip-plain text h)

-- the records of rows in a piece
pub piece-same : (d : ℕ) (is_first : Bool) (text given : List ℕ) → records_in d given ≡ records (config_of d) text → row_records d is_first given ≡ piece_records d is_first text
piece-same d true text given e = ap (λ (r : List (List (List ℕ))). drop 1 r) e
piece-same d false text given e = e
