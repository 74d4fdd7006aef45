-- Line ends of bytes in a text, and ranges that end soon.
use Rattle.std.proofs.Common.{◌≡◌, ◌<◌, ◌≤◌, ◌+◌, ◌-◌, ◌*◌, ◌^◌, ◌⊎◌, inl, inr, ℕ, List, [], ◌∷◌, ◌++◌, refl, sym, ap, subst, ◌∙◌, arith, length, take, drop, get_or}
use Rattle.std.proofs.lemmas.Bool.{cases_lt}
use Rattle.std.proofs.lemmas.List.{append-nil, get_or-append-add, get_or-take, get_or_append_left, length-drop, length-take, length-take-le, take-append-drop, take-append-le, take-take, take_all}
use Rattle.std.proofs.Math.Seq.{drop-append_seam, take-add, take-append_seam}
use Rattle.csv.specs.declared.parser.State.TheVariants as st
use Rattle.rj_csv_io.specs.Cuts.{state_after}
use Rattle.rj_csv_io.specs.Pieces.{IsLastEnd, IsLineEnd}
use Rattle.rj_csv_io.proofs.CutFacts.{after-append}
use Rattle.rj_csv_io.proofs.InputFacts.{front-on}
use Rattle.rj_csv_io.proofs.PieceFacts.{no-end}
use Rattle.rj_shards.specs.Ranges.{AreShort, IsReadFor, IsShort, RiseTo}

-- ---- line ends

-- bytes behind others that end where a record does
module _ (d : ℕ) (taken bytes left : List ℕ) (ends : state_after d st.StartRecord taken ≡ st.StartRecord) where
  abbrev whole : List ℕ
  whole = taken ++ (bytes ++ left)

  front-is : (k : ℕ) → k ≤ length bytes → take (length taken + k) whole ≡ taken ++ take k bytes
  front-is k h =
      take-add (length taken) k whole
      ∙ ((λ i. take-append_seam taken (bytes ++ left) i ++ take k (drop-append_seam taken (bytes ++ left) i))
      ∙ ap (λ l. taken ++ l) (take-append-le k bytes left h))

  state-is : (k : ℕ) → k ≤ length bytes → state_after d st.StartRecord (take (length taken + k) whole) ≡ state_after d st.StartRecord (take k bytes)
  state-is k h = ap (state_after d st.StartRecord) (front-is k h) ∙ (after-append d st.StartRecord taken (take k bytes) ∙ ap (λ s. state_after d s (take k bytes)) ends)

  byte-is : (k : ℕ) → 0 < k → k ≤ length bytes → get_or whole (length taken + k - 1) 0 ≡ get_or bytes (k - 1) 0
  byte-is k some h =
      let e : length taken + k - 1 ≡ length taken + (k - 1) = omega (arith, some) in
      ap (λ n. get_or whole n 0) e ∙ (get_or-append-add taken (bytes ++ left) (k - 1) 0 ∙ get_or_append_left bytes left 0 (k - 1) (omega (arith, some, h)))

  pub line-in : (k : ℕ) → k ≤ length bytes → 0 < k → IsLineEnd d whole (length taken + k) → IsLineEnd d bytes k
  line-in k h some e = record { behind = some; feed = sym (byte-is k some h) ∙ e.feed; ends = sym (state-is k h) ∙ e.ends }

  pub line-out : (k : ℕ) → k ≤ length bytes → IsLineEnd d bytes k → IsLineEnd d whole (length taken + k)
  line-out k h e = record { behind = omega (arith, e.behind); feed = byte-is k e.behind h ∙ e.feed; ends = state-is k h ∙ e.ends }

-- a line end among the first bytes
line-front : (d : ℕ) (bytes next : List ℕ) (k : ℕ) → take (length bytes) next ≡ bytes → k ≤ length bytes → IsLineEnd d next k → IsLineEnd d bytes k
line-front d bytes next k front h e = record {
  behind = e.behind;
  feed = ap (λ l. get_or l (k - 1) 0) (sym front) ∙ (get_or-take (length bytes) next (k - 1) 0 (omega (arith, h, e.behind)) ∙ e.feed);
  ends = ap (λ l. state_after d st.StartRecord (take k l)) (sym front) ∙ (ap (state_after d st.StartRecord) (take-take k (length bytes) next h) ∙ e.ends);
}

pub line-back : (d : ℕ) (bytes : List ℕ) (end k : ℕ) → k ≤ end → IsLineEnd d (take end bytes) k → IsLineEnd d bytes k
line-back d bytes end k h e = record {
  behind = e.behind;
  feed = sym (get_or-take end bytes (k - 1) 0 (omega (arith, h, e.behind))) ∙ e.feed;
  ends = sym (ap (state_after d st.StartRecord) (take-take k end bytes h)) ∙ e.ends;
}

-- behind the last line end there is none
pub line-rest : (d : ℕ) (bytes : List ℕ) (end : ℕ) → end ≤ length bytes → IsLineEnd d bytes end → ((at : ℕ) → end < at → at ≤ length bytes → IsLineEnd d bytes at → ⊥)
    → (at : ℕ) → at ≤ length (drop end bytes) → IsLineEnd d (drop end bytes) at → ⊥
line-rest d bytes end within line none at h e =
    let front = length-take-le end bytes within in let back = length-drop end bytes in
    let parts : take end bytes ++ (drop end bytes ++ []) ≡ bytes = ap (λ l. take end bytes ++ l) (append-nil (drop end bytes)) ∙ take-append-drop end bytes in
    let there = line-out d (take end bytes) (drop end bytes) [] line.ends at h e in
    let is : length (take end bytes) + at ≡ end + at = omega (arith, front) in
    none (end + at) (omega (arith, e.behind)) (omega (arith, back, h, within)) (subst (λ n. IsLineEnd d bytes n) is (subst (λ l. IsLineEnd d l (length (take end bytes) + at)) parts there))

-- ---- bytes that are read for a piece

module _ (d block : ℕ) (old : List ℕ) where
  -- nothing was read
  pub read-none : IsReadFor d block old old
  read-none = record {
    front = take_all (length old) old (omega arith);
    plain = 0;
    within = omega arith;
    none = no-end d old;
    most = λ h. absurd (omega (arith, h));
  }

  -- more bytes were read
  module _ (bytes next : List ℕ) (size : ℕ) (r : IsReadFor d block old bytes) (few : size ≤ block + 2 * r.plain + 1) (front : take (length bytes) next ≡ bytes)
      (bound : length bytes < length next → length next < size + 2 ^ 16) where
    longer : length bytes ≤ length next
    longer = let a = length-take (length bytes) next in let b = ap length front in omega (arith, a, b)

    pub read-next : IsReadFor d block old next
    read-next = record {
      front = front-on old bytes next r.front front;
      plain = r.plain;
      within = omega (arith, r.within, longer);
      none = record {
        within = omega arith;
        here = inl refl;
        none = λ at low high e. r.none.none at low high (line-front d bytes next at front (omega (arith, high, r.within)) e);
      };
      most = λ h. elim (cases_lt (length bytes) (length next)) [
        | inl more ↦ let b = bound more in omega (arith, few, b)
        | inr same ↦ let m = r.most (omega (arith, h, same)) in omega (arith, m, same)
      ];
    }

    -- no record ends in them
    pub read-plain : IsLastEnd d next (length next) 0 → (all : IsReadFor d block old next) × (all.plain ≡ length next)
    read-plain none = (record { front = front-on old bytes next r.front front; plain = length next; within = omega arith; none = none; most = λ h. omega arith }, refl)

-- up to a line end, or to their end, so many of the bytes that were read for a piece are those of a block and of the first ones, in
-- which no record ends, where none ended before
pub read-bound : (d block : ℕ) (old bytes : List ℕ) → IsReadFor d block old bytes → ((at : ℕ) → at ≤ length old → IsLineEnd d old at → ⊥) → (end : ℕ) → (end ≡ length bytes) ⊎ IsLineEnd d bytes end
    → (plain : ℕ) × (plain ≤ end) × ((at : ℕ) → at ≤ plain → IsLineEnd d bytes at → ⊥) × (length bytes ≤ block + 2 * plain + 2 ^ 16)
read-bound d block old bytes r none end stops = elim (cases_lt (length old) (length bytes)) [
  | inl more ↦ go r.plain r.within (λ at h e. r.none.none at e.behind h e) (r.most more)
  | inr same ↦ (
      let all : bytes ≡ old = sym (take_all (length old) bytes same) ∙ r.front in
      go (length bytes) (omega arith) (λ at h e. none at (let size = ap length all in omega (arith, h, size)) (subst (λ l. IsLineEnd d l at) all e)) (omega arith))
]
  where
    go : (plain : ℕ) → plain ≤ length bytes → ((at : ℕ) → at ≤ plain → IsLineEnd d bytes at → ⊥) → length bytes ≤ block + 2 * plain + 2 ^ 16
        → (plain : ℕ) × (plain ≤ end) × ((at : ℕ) → at ≤ plain → IsLineEnd d bytes at → ⊥) × (length bytes ≤ block + 2 * plain + 2 ^ 16)
    go plain within clean most =
        let few : plain ≤ end = elim stops [
          | inl all ↦ omega (arith, all, within)
          | inr line ↦ elim (cases_lt end plain) [ inl less ↦ absurd (clean end (omega (arith, less)) line) | inr h ↦ h ]
        ] in
        (plain, few, clean, most)

-- ---- ranges that end soon

-- one more range
pub short-more : (d size block : ℕ) (text : List ℕ) (from : ℕ) (cuts : List ℕ) (last next : ℕ) → RiseTo size from cuts last → AreShort d size block text from cuts → IsShort d size block text last next
    → AreShort d size block text from (cuts ++ next ∷ [])
unfolding RiseTo AreShort
short-more d size block text from [] last next rise short one = (subst (λ n. IsShort d size block text n next) (sym rise) one, tt)
short-more d size block text from (cut ∷ cuts) last next rise short one = (short.0, short-more d size block text cut cuts last next rise.1 short.1 one)

pub short-none : (d size block : ℕ) (text : List ℕ) → AreShort d size block text 0 []
unfolding AreShort
short-none d size block text = tt
