-- The entries of a text, one after the other.
use Rattle.std.proofs.Common.{◌≡◌, ◌≢◌, ◌∙◌, ◌+◌, ◌%◌, ◌++◌, ◌∷◌, [], ℕ, Bool, List, Option, Some, None, true, false, inl, inr, All, refl, sym, ap, subst, arith, not, take, drop, get_or, length, length-append, zero-add}
use Rattle.std.specs.Prelude.{◌==◌, ◌&&◌, ◌||◌, MatchOption, count_by, if◌then◌else◌}
use Rattle.std.specs.Borrow.{Bor}
use Rattle.std.specs.Str.{IsCharBoundary}
use Rattle.std.proofs.lemmas.Bool.{and_parts, cases_Bool, eqb-true}
use Rattle.std.proofs.lemmas.Bool.Decides.{nat_tests}
use Rattle.std.proofs.lemmas.List.{take_all}
use Rattle.std.proofs.lemmas.List.Elements.{All-cons, All-nil, All-same}
use Rattle.std.proofs.lemmas.List.Sums.{sum_by-cons}
use Rattle.std.proofs.lemmas.Str.{IsCharBoundary-before_ascii, IsCharBoundary-end}
use Rattle.std.proofs.Math.Seq.{drop-append_seam, drop-length, take-append_seam}
use Rattle.rj_settings.specs.Words.{before, text_of}
use Rattle.rj_explain.specs.Entries.{begun, entries_behind, split_entries, entry_length, further, is_nested, is_quoted, separates}
use Rattle.rj_explain.specs.Listed.{IsFirstBad, IsList, IsNoList}

parity : (n : ℕ) → ((1 + n) % 2 == 1) ≡ not (n % 2 == 1)
parity n = grind (arith, nat_tests)

-- one byte more before a place
pub quoted-more : (b : ℕ) (place : List ℕ) → is_quoted (b ∷ place) ≡ (if b == 34 then not (is_quoted place) else is_quoted place)
quoted-more b place =
    let n = count_by (λ (x : ℕ). x == 34) place in
    ap (λ (k : ℕ). k % 2 == 1) (sum_by-cons (λ (x : ℕ). if x == 34 then 1 else 0) b place)
    ∙ by_test (b == 34) n
  where
    by_test : (t : Bool) (n : ℕ) → (((if t then 1 else 0) + n) % 2 == 1) ≡ (if t then not (n % 2 == 1) else n % 2 == 1)
    by_test true n = parity n
    by_test false n = ap (λ (k : ℕ). k % 2 == 1) (zero-add n)

-- what is before a place that is neither quoted nor nested changes nothing behind it
quoted-over : (a b : List ℕ) → is_quoted b ≡ false → is_quoted (a ++ b) ≡ is_quoted a
quoted-over [] b q = q
quoted-over (x ∷ a) b q =
    quoted-more x (a ++ b) ∙ (ap (λ (t : Bool). if x == 34 then not t else t) (quoted-over a b q) ∙ sym (quoted-more x a))

nested-over : (a b : List ℕ) → is_quoted b ≡ false → is_nested b ≡ false → is_nested (a ++ b) ≡ is_nested a
nested-over [] b q n = n
nested-over (x ∷ a) b q n =
    ap (λ (t : Bool). if (x == 40 || x == 41) && not t then x == 40 else is_nested (a ++ b)) (quoted-over a b q)
    ∙ ap (λ (t : Bool). if (x == 40 || x == 41) && not (is_quoted a) then x == 40 else t) (nested-over a b q n)

separates-over : (a b : List ℕ) (c : ℕ) → is_quoted b ≡ false → is_nested b ≡ false → separates (a ++ b) c ≡ separates a c
separates-over a b c q n =
    ap (λ (t : Bool). c == 44 && not (t || is_nested (a ++ b))) (quoted-over a b q)
    ∙ ap (λ (t : Bool). c == 44 && not (is_quoted a || t)) (nested-over a b q n)

entries-over : (a b text : List ℕ) → is_quoted b ≡ false → is_nested b ≡ false → entries_behind (a ++ b) text ≡ entries_behind a text
entries-over a b [] q n = refl
entries-over a b (c ∷ text) q n =
    ap (λ (t : Bool). if t then [] ∷ entries_behind (c ∷ (a ++ b)) text else begun c (entries_behind (c ∷ (a ++ b)) text)) (separates-over a b c q n)
    ∙ ap (λ (es : List (List ℕ)). if separates a c then [] ∷ es else begun c es) (entries-over (c ∷ a) b text q n)

-- a comma between two entries
neither : (q n : Bool) → not (q || n) ≡ true → (q ≡ false) × (n ≡ false)
neither false false e = (refl, refl)
neither false true e = cc
neither true n e = cc

pub comma-between : (place : List ℕ) (b : ℕ) → separates place b ≡ true → (b ≡ 44) × (is_quoted place ≡ false) × (is_nested place ≡ false)
comma-between place b e =
    let parts = and_parts (b == 44) (not (is_quoted place || is_nested place)) e in
    let outside = neither (is_quoted place) (is_nested place) parts.1 in
    (eqb-true b 44 parts.0, outside.0, outside.1)

-- the first entry, and what is left behind its comma
abbrev pub Cut : List ℕ → List ℕ → Type 0
Cut place text =
    (first : List ℕ) × (left : Option (List ℕ)) × (text ≡ before first left) × (length first ≡ entry_length place text)
    × (entries_behind place text ≡ first ∷ further left)

before-cons : (b : ℕ) (first : List ℕ) (left : Option (List ℕ)) → before (b ∷ first) left ≡ b ∷ before first left
before-cons b first None = refl
before-cons b first (Some text) = refl

entries-after : (place text : List ℕ) → is_quoted place ≡ false → is_nested place ≡ false → entries_behind (44 ∷ place) text ≡ split_entries text
entries-after place text q n = entries-over [] (44 ∷ place) text (quoted-more 44 place ∙ q) n

cut-here : (place : List ℕ) (b : ℕ) (text : List ℕ) → separates place b ≡ true → Cut place (b ∷ text)
cut-here place b text h =
    let comma = comma-between place b h in (
      [],
      Some text,
      ap (λ (x : ℕ). x ∷ text) comma.0,
      sym (ap (λ (t : Bool). if t then 0 else entry_length (b ∷ place) text + 1) h),
      ap (λ (t : Bool). if t then [] ∷ entries_behind (b ∷ place) text else begun b (entries_behind (b ∷ place) text)) h
          ∙ (ap (λ (x : ℕ). [] ∷ entries_behind (x ∷ place) text) comma.0 ∙ ap (λ (es : List (List ℕ)). [] ∷ es) (entries-after place text comma.1 comma.2)),
    )

cut-later : (place : List ℕ) (b : ℕ) (text : List ℕ) → separates place b ≡ false → Cut (b ∷ place) text → Cut place (b ∷ text)
cut-later place b text h cut =
    let size : entry_length place (b ∷ text) ≡ entry_length (b ∷ place) text + 1 = ap (λ (t : Bool). if t then 0 else entry_length (b ∷ place) text + 1) h in (
      b ∷ cut.0,
      cut.1,
      ap (λ (x : List ℕ). b ∷ x) cut.2 ∙ sym (before-cons b cut.0 cut.1),
      omega (arith, cut.3, size),
      ap (λ (t : Bool). if t then [] ∷ entries_behind (b ∷ place) text else begun b (entries_behind (b ∷ place) text)) h ∙ ap (begun b) cut.4,
    )

pub cut-first : (place text : List ℕ) → Cut place text
cut-first place [] = ([], None, refl, refl, refl)
cut-first place (b ∷ text) = elim (cases_Bool (separates place b)) [
  | inl h ↦ cut-here place b text h
  | inr h ↦ cut-later place b text h (cut-first (b ∷ place) text)
]

-- where a text is cut
seam : (first more : List ℕ) → get_or (first ++ 44 ∷ more) (length first) 0 ≡ 44
seam [] more = refl
seam (x ∷ first) more = seam first more

pub cut-boundary : (text first : List ℕ) (left : Option (List ℕ)) (n : ℕ) → text ≡ before first left → length first ≡ n → IsCharBoundary text n
cut-boundary text first None n whole size =
    subst (IsCharBoundary text) (ap length whole ∙ size) (IsCharBoundary-end text)
cut-boundary text first (Some more) n whole size =
    let sum : length text ≡ length first + length (44 ∷ more) = ap length whole ∙ length-append first (44 ∷ more) in
    let here : get_or text n 0 ≡ 44 =
    ap (λ (x : List ℕ). get_or x n 0) whole ∙ (ap (get_or_at first more) (sym size) ∙ seam first more) in
    IsCharBoundary-before_ascii text n (omega (arith, sum, size)) (omega (arith, here))
  where
    get_or_at : List ℕ → List ℕ → ℕ → ℕ
    get_or_at first more k = get_or (first ++ 44 ∷ more) k 0

pub cut-parts : (text first : List ℕ) (left : Option (List ℕ)) (n : ℕ) → text ≡ before first left → length first ≡ n → (take n text ≡ first) × (drop n text ≡ before [] left)
cut-parts text first None n whole size =
    subst (λ (k : ℕ). (take k text ≡ first) × (drop k text ≡ [])) (ap length whole ∙ size) (take_all (length text) text (omega arith) ∙ whole, drop-length text)
cut-parts text first (Some more) n whole size =
    subst (λ (k : ℕ). (take k text ≡ first) × (drop k text ≡ 44 ∷ more)) size (
      ap (take (length first)) whole ∙ take-append_seam first (44 ∷ more),
      ap (drop (length first)) whole ∙ drop-append_seam first (44 ∷ more),
    )

pub left-is : (left : Option (List ℕ)) (rest : List ℕ) (r : Option (Bor (List ℕ))) → rest ≡ before [] left
    → MatchOption r ((more : List ℕ) → rest ≢ 44 ∷ more) (λ more. rest ≡ 44 ∷ more.now) → text_of r ≡ left
left-is None rest None e h = refl
left-is None rest (Some x) e h = let f : ◌≡◌ {A = List ℕ} [] (44 ∷ x.now) = sym e ∙ h in cc
left-is (Some more) rest None e h = absurd (h more e)
left-is (Some more) rest (Some x) e h = ap Some (ap (drop 1) (sym h ∙ e))

-- the first entry that is no list
pub first-here : (list entry : List ℕ) (entries : List (List ℕ)) → split_entries list ≡ entry ∷ entries → IsNoList entry → IsFirstBad list entry
first-here list entry entries e none = record { before = []; behind = entries; among = e; first = All-nil IsList; bad = none }

pub first-later : (list entry more bad : List ℕ) → split_entries list ≡ entry ∷ split_entries more → IsList entry → IsFirstBad more bad → IsFirstBad list bad
first-later list entry more bad e good later = record {
  before = entry ∷ later.before;
  behind = later.behind;
  among = e ∙ ap (λ (es : List (List ℕ)). entry ∷ es) later.among;
  first = All-cons IsList entry later.before good later.first;
  bad = later.bad;
}

pub good-later : (list entry more : List ℕ) → split_entries list ≡ entry ∷ split_entries more → IsList entry → All IsList (split_entries more) → All IsList (split_entries list)
good-later list entry more e good later = All-same IsList (split_entries list) (entry ∷ split_entries more) e (All-cons IsList entry (split_entries more) good later)

pub good-last : (list entry : List ℕ) → split_entries list ≡ entry ∷ [] → IsList entry → All IsList (split_entries list)
good-last list entry e good = All-same IsList (split_entries list) (entry ∷ []) e (All-cons IsList entry [] good (All-nil IsList))
