-- Texts in one buffer, after a push, a cut, a removal and a join.
use Rattle.std.proofs.Common.{◌≡◌, ◌≢◌, ◌≤◌, ◌<◌, ◌+◌, ◌-◌, ◌∙◌, ℕ, zero, suc, List, [], ◌∷◌, ◌++◌, map, length, take, drop, refl, sym, ap, arith, append_assoc, get_or, add-one, subst}
use Rattle.std.specs.Prelude.{slice_range, IsUtf8}
use Rattle.std.specs.List.{concat, remove, remove_range}
use Rattle.std.proofs.lemmas.List.{length-append, length-map, length-drop, length-take-le, append-nil, take-append-drop, get_or-take, get_or-drop, get_or-map, get_or-append_right, ext_get_or}
use Rattle.std.proofs.lemmas.List.Elements.{All-nil, All-push, All-take, All-get_or}
use Rattle.std.proofs.lemmas.List.Folds.{concat-append}
use Rattle.std.proofs.Math.ListN.{get_or-append}
use Rattle.std.proofs.Common.{inl, inr, ◌⊎◌}
use Rattle.std.proofs.Math.Seq.{drop-append_seam, take-append_seam}
use Rattle.rj_columns.specs.Internal.Packed.{start_at, texts_from, ends_from, Packs}
use Rattle.rj_columns.proofs.RemoveFacts.{All-removed}

-- a part between two others
slice-middle : (front text back : List ℕ) → slice_range (front ++ (text ++ back)) (length front) (length front + length text) ≡ text
slice-middle front text back =
    let size : length front + length text - length front ≡ length text = omega arith in
    rw (drop-append_seam front (text ++ back), size, take-append_seam text back) refl

-- texts that were put one after another are found again
found-from : (front : List ℕ) (texts : List (List ℕ)) → texts_from (length front) (front ++ concat texts) (ends_from (length front) texts) ≡ texts
unfolding texts_from ends_from
found-from front [] = refl
found-from front (t ∷ texts) =
    let size = length-append front t in
    let rest = found-from (front ++ t) texts in
    rw (slice-middle front t (concat texts), ← append_assoc front t (concat texts), ← size) (ap (λ l. t ∷ l) rest)

pub texts-found : (bytes ends : List ℕ) (texts : List (List ℕ)) → Packs bytes ends texts → texts_from 0 bytes ends ≡ texts
texts-found bytes ends texts p = rw (p.bytes, p.ends) (found-from [] texts)

-- the texts in a buffer that has them
pub packed : (bytes ends : List ℕ) (texts : List (List ℕ)) → Packs bytes ends texts → Packs bytes ends (texts_from 0 bytes ends)
packed bytes ends texts p = rw (texts-found bytes ends texts p) p

pub length-texts : (start : ℕ) (bytes ends : List ℕ) → length (texts_from start bytes ends) ≡ length ends
unfolding texts_from
length-texts start bytes [] = refl
length-texts start bytes (e ∷ ends) = ap suc (length-texts e bytes ends)

pub length-ends : (start : ℕ) (texts : List (List ℕ)) → length (ends_from start texts) ≡ length texts
unfolding ends_from
length-ends start [] = refl
length-ends start (t ∷ texts) = ap suc (length-ends (start + length t) texts)

pub none-packed : Packs [] [] []
unfolding ends_from
none-packed = record { bytes = refl; ends = refl; utf8 = All-nil IsUtf8 }

pub no-texts : (bytes : List ℕ) → texts_from 0 bytes [] ≡ []
unfolding texts_from
no-texts bytes = refl

-- a text by its number
pub text-at : (start : ℕ) (bytes ends : List ℕ) (i : ℕ) → i < length ends → get_or (texts_from start bytes ends) i [] ≡ slice_range bytes (start_at start ends i) (get_or ends i 0)
unfolding texts_from
text-at start bytes [] i h = absurd (omega arith)
text-at start bytes (e ∷ ends) zero h = refl
text-at start bytes (e ∷ ends) (suc i) h = text-at e bytes ends i (omega arith)

-- where a text starts is the end of the one before
start-after : (start : ℕ) (ends : List ℕ) (i : ℕ) → i < length ends → start_at start ends (suc i) ≡ get_or ends i 0
start-after start [] i h = absurd (omega arith)
start-after start (e ∷ ends) zero h = refl
start-after start (e ∷ ends) (suc i) h = start-after e ends i (omega arith)

pub start-before : (ends : List ℕ) (i : ℕ) → i ≢ 0 → i ≤ length ends → get_or ends (i - 1) 0 ≡ start_at 0 ends i
start-before ends zero n h = absurd (n refl)
start-before ends (suc i) n h = let back : suc i - 1 ≡ i = omega arith in rw back (sym (start-after 0 ends i (omega arith)))

-- where a text starts is the size of those before it
starts : (start : ℕ) (texts : List (List ℕ)) (i : ℕ) → i ≤ length texts → start_at start (ends_from start texts) i ≡ start + length (concat (take i texts))
unfolding ends_from
starts start texts zero h = omega arith
starts start [] (suc i) h = absurd (omega arith)
starts start (t ∷ texts) (suc i) h = omega (arith, starts (start + length t) texts i (omega arith), length-append t (concat (take i texts)))

ends-at : (start : ℕ) (texts : List (List ℕ)) (i : ℕ) → i < length texts → get_or (ends_from start texts) i 0 ≡ start + length (concat (take i texts)) + length (get_or texts i [])
unfolding ends_from
ends-at start [] i h = absurd (omega arith)
ends-at start (t ∷ texts) zero h = omega arith
ends-at start (t ∷ texts) (suc i) h = omega (arith, ends-at (start + length t) texts i (omega arith), length-append t (concat (take i texts)))

-- a text and those before it are no longer than all
within : (texts : List (List ℕ)) (i : ℕ) → i < length texts → length (concat (take i texts)) + length (get_or texts i []) ≤ length (concat texts)
within [] i h = absurd (omega arith)
within (t ∷ texts) zero h = omega (arith, length-append t (concat texts))
within (t ∷ texts) (suc i) h = omega (arith, within texts i (omega arith), length-append t (concat (take i texts)), length-append t (concat texts))

pub bounds : (bytes ends : List ℕ) (texts : List (List ℕ)) (i : ℕ) → Packs bytes ends texts → i < length ends → (start_at 0 ends i ≤ get_or ends i 0) × (get_or ends i 0 ≤ length bytes)
bounds bytes ends texts i p h =
    let many : length ends ≡ length texts = ap length p.ends ∙ length-ends 0 texts in
    let low : start_at 0 ends i ≡ 0 + length (concat (take i texts)) = ap (λ l. start_at 0 l i) p.ends ∙ starts 0 texts i (omega arith) in
    let high : get_or ends i 0 ≡ 0 + length (concat (take i texts)) + length (get_or texts i []) = ap (λ l. get_or l i 0) p.ends ∙ ends-at 0 texts i (omega arith) in
    let all : length bytes ≡ length (concat texts) = ap length p.bytes in
    let fits = within texts i (omega arith) in
    (omega arith, omega arith)

-- one more text
ends-push : (start : ℕ) (texts : List (List ℕ)) (t : List ℕ) → ends_from start (texts ++ t ∷ []) ≡ ends_from start texts ++ (start + length (concat (texts ++ t ∷ []))) ∷ []
unfolding ends_from
ends-push start [] t = let size = append-nil t in rw size refl
ends-push start (x ∷ texts) t =
    let size : start + length x + length (concat (texts ++ t ∷ [])) ≡ start + length (x ++ concat (texts ++ t ∷ [])) = omega (arith, length-append x (concat (texts ++ t ∷ []))) in
    rw (ends-push (start + length x) texts t, size) refl

pub push-packed : (bytes ends : List ℕ) (texts : List (List ℕ)) (t : List ℕ) (end : ℕ) → Packs bytes ends texts → IsUtf8 t → end ≡ length (bytes ++ t) → Packs (bytes ++ t) (ends ++ end ∷ []) (texts ++ t ∷ [])
push-packed bytes ends texts t end p u e =
    let whole : bytes ++ t ≡ concat (texts ++ t ∷ []) = ap (λ b. b ++ t) p.bytes ∙ (ap (λ s. concat texts ++ s) (sym (append-nil t)) ∙ sym (concat-append texts (t ∷ []))) in
    let last : end ≡ 0 + length (concat (texts ++ t ∷ [])) = omega (arith, ap length whole) in
    record {
      bytes = whole;
      ends = rw (last, p.ends) (sym (ends-push 0 texts t));
      utf8 = All-push IsUtf8 texts t p.utf8 u;
    }

-- the first texts
ends-take : (start : ℕ) (texts : List (List ℕ)) (n : ℕ) → ends_from start (take n texts) ≡ take n (ends_from start texts)
unfolding ends_from
ends-take start texts zero = refl
ends-take start [] (suc n) = refl
ends-take start (t ∷ texts) (suc n) = ap (λ l. (start + length t) ∷ l) (ends-take (start + length t) texts n)

bytes-take : (texts : List (List ℕ)) (n : ℕ) → concat (take n texts) ≡ take (length (concat (take n texts))) (concat texts)
bytes-take texts n =
    let parts : concat texts ≡ concat (take n texts) ++ concat (drop n texts) = ap concat (sym (take-append-drop n texts)) ∙ concat-append (take n texts) (drop n texts) in
    rw parts (sym (take-append_seam (concat (take n texts)) (concat (drop n texts))))

pub take-packed : (bytes ends : List ℕ) (texts : List (List ℕ)) (n size : ℕ) → Packs bytes ends texts → n ≤ length ends → size ≡ start_at 0 ends n → Packs (take size bytes) (take n ends) (take n texts)
take-packed bytes ends texts n size p h e =
    let many : length ends ≡ length texts = ap length p.ends ∙ length-ends 0 texts in
    let here : size ≡ length (concat (take n texts)) = e ∙ (ap (λ l. start_at 0 l n) p.ends ∙ (starts 0 texts n (omega arith) ∙ omega arith)) in
    record {
      bytes = ap (take size) p.bytes ∙ (ap (λ k. take k (concat texts)) here ∙ sym (bytes-take texts n));
      ends = ap (take n) p.ends ∙ sym (ends-take 0 texts n);
      utf8 = All-take IsUtf8 n texts p.utf8;
    }

-- one text less
ends-lowered : (start by : ℕ) (texts : List (List ℕ)) → map (λ e. e - by) (ends_from (start + by) texts) ≡ ends_from start texts
unfolding ends_from
ends-lowered start by [] = refl
ends-lowered start by (t ∷ texts) =
    let first : start + by + length t - by ≡ start + length t = omega arith in
    let next : start + by + length t ≡ start + length t + by = omega arith in
    rw (first, next, ends-lowered (start + length t) by texts) refl

ends-remove : (start : ℕ) (texts : List (List ℕ)) (i : ℕ) → i < length texts
    → ends_from start (remove texts i) ≡ take i (ends_from start texts) ++ map (λ e. e - length (get_or texts i [])) (drop (suc i) (ends_from start texts))
unfolding ends_from
ends-remove start [] i h = absurd (omega arith)
ends-remove start (t ∷ texts) zero h = sym (ends-lowered start (length t) texts)
ends-remove start (t ∷ texts) (suc i) h = ap (λ l. (start + length t) ∷ l) (ends-remove (start + length t) texts i (omega arith))

-- the bytes of a text between those before it and those behind it
bytes-at : (texts : List (List ℕ)) (i : ℕ) → i < length texts → concat texts ≡ concat (take i texts) ++ (get_or texts i [] ++ concat (drop (suc i) texts))
bytes-at [] i h = absurd (omega arith)
bytes-at (t ∷ texts) zero h = refl
bytes-at (t ∷ texts) (suc i) h =
    ap (λ l. t ++ l) (bytes-at texts i (omega arith)) ∙ sym (append_assoc t (concat (take i texts)) (get_or texts i [] ++ concat (drop (suc i) texts)))

bytes-without : (texts : List (List ℕ)) (i : ℕ) → i < length texts → concat (remove texts i) ≡ concat (take i texts) ++ concat (drop (suc i) texts)
bytes-without [] i h = absurd (omega arith)
bytes-without (t ∷ texts) zero h = refl
bytes-without (t ∷ texts) (suc i) h =
    ap (λ l. t ++ l) (bytes-without texts i (omega arith)) ∙ sym (append_assoc t (concat (take i texts)) (concat (drop (suc i) texts)))

middle-removed : (front text back : List ℕ) → take (length front) (front ++ (text ++ back)) ++ drop (length front + length text) (front ++ (text ++ back)) ≡ front ++ back
middle-removed front text back =
    let low = take-append_seam front (text ++ back) in
    let high : drop (length front + length text) (front ++ (text ++ back)) ≡ back =
    ap (λ l. drop (length front + length text) l) (sym (append_assoc front text back))
    ∙ (ap (λ k. drop k ((front ++ text) ++ back)) (sym (length-append front text)) ∙ drop-append_seam (front ++ text) back) in
    rw (low, high) refl

pub remove-packed : (bytes ends : List ℕ) (texts : List (List ℕ)) (i start end : ℕ) → Packs bytes ends texts → i < length ends → start ≡ start_at 0 ends i → end ≡ get_or ends i 0
    → Packs (remove_range bytes start end) (take i ends ++ map (λ e. e - (end - start)) (drop (i + 1) ends)) (remove texts i)
remove-packed bytes ends texts i start end p h s e =
    let many : length ends ≡ length texts = ap length p.ends ∙ length-ends 0 texts in
    let inside : i < length texts = omega arith in
    let low : start ≡ length (concat (take i texts)) = s ∙ (ap (λ l. start_at 0 l i) p.ends ∙ (starts 0 texts i (omega arith) ∙ omega arith)) in
    let high : end ≡ length (concat (take i texts)) + length (get_or texts i []) = e ∙ (ap (λ l. get_or l i 0) p.ends ∙ (ends-at 0 texts i inside ∙ omega arith)) in
    let size : end - start ≡ length (get_or texts i []) = omega arith in
    record {
      bytes =
          ap (λ b. take start b ++ drop end b) (p.bytes ∙ bytes-at texts i inside)
          ∙ (rw (low, high) (middle-removed (concat (take i texts)) (get_or texts i []) (concat (drop (suc i) texts))) ∙ sym (bytes-without texts i inside));
      ends = rw (size, add-one, p.ends) (sym (ends-remove 0 texts i inside));
      utf8 = All-removed IsUtf8 texts i p.utf8;
    }

pub texts-utf8 : (bytes ends : List ℕ) (i : ℕ) → Packs bytes ends (texts_from 0 bytes ends) → i < length ends → IsUtf8 (slice_range bytes (start_at 0 ends i) (get_or ends i 0))
texts-utf8 bytes ends i p h =
    let size = length-texts 0 bytes ends in
    subst IsUtf8 (text-at 0 bytes ends i h) (All-get_or IsUtf8 (texts_from 0 bytes ends) i [] (omega arith) p.utf8)

-- ends that were lowered one by one
pub lowered-each : (old new : List ℕ) (from by : ℕ) → from ≤ length old → length new ≡ length old → ((k : ℕ) → k < from → get_or new k 0 ≡ get_or old k 0)
    → ((k : ℕ) → from ≤ k → k < length old → get_or new k 0 ≡ get_or old k 0 - by) → new ≡ take from old ++ map (λ e. e - by) (drop from old)
lowered-each old new from by h size low high =
    let front : length (take from old) ≡ from = length-take-le from old h in
    let back : length (map (λ e. e - by) (drop from old)) ≡ length (drop from old) = length-map (drop from old) (λ e. e - by) in
    let rest = length-drop from old in
    let all = length-append (take from old) (map (λ e. e - by) (drop from old)) in
    ext_get_or 0 new (take from old ++ map (λ e. e - by) (drop from old)) (omega arith) (λ k inside. by_place old new from by k h size low high inside (le_or_lt from k))
  where
    le_or_lt : (from k : ℕ) → (from ≤ k) ⊎ (k < from)
    le_or_lt from k = grind arith

    by_place : (old new : List ℕ) (from by k : ℕ) → from ≤ length old → length new ≡ length old → ((k : ℕ) → k < from → get_or new k 0 ≡ get_or old k 0)
        → ((k : ℕ) → from ≤ k → k < length old → get_or new k 0 ≡ get_or old k 0 - by) → k < length new → ((from ≤ k) ⊎ (k < from)) → get_or new k 0 ≡ get_or (take from old ++ map (λ e. e - by) (drop from old)) k 0
    by_place old new from by k h size low high inside (inr below) =
        let front : length (take from old) ≡ from = length-take-le from old h in
        low k below ∙ (sym (get_or-take from old k 0 below) ∙ sym (get_or-append (take from old) (map (λ e. e - by) (drop from old)) 0 k (omega arith)))
    by_place old new from by k h size low high inside (inl behind) =
        let front : length (take from old) ≡ from = length-take-le from old h in
        let rest = length-drop from old in
        let place : from + (k - from) ≡ k = omega arith in
        high k behind (omega arith)
        ∙ (ap (λ j. get_or old j 0 - by) (sym place) ∙ (ap (λ x. x - by) (sym (get_or-drop from old (k - from) 0))
        ∙ (sym (get_or-map (λ e. e - by) (drop from old) (k - from) 0 0 (omega arith)) ∙ sym (get_or-append_right (take from old) (map (λ e. e - by) (drop from old)) from k 0 front behind))))
