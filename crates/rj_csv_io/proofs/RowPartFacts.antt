-- Where the parts of rows begin, and the texts of the parts put together.
use Rattle.std.proofs.Common.{◌≡◌, ◌∙◌, ◌<◌, ◌≤◌, ◌+◌, ◌*◌, ◌++◌, ◌∷◌, [], ℕ, List, map, take, length, sym, ap, arith, drop, Vec, Global}
use Rattle.std.specs.Prelude.{◌/◌, slice_index_or}
use Rattle.std.specs.List.{concat}
use Rattle.std.proofs.Math.Nat.{mul-le-mul_left}
use Rattle.std.proofs.lemmas.List.{append-nil, get_or-drop, map-append, take_more}
use Rattle.std.proofs.lemmas.List.Folds.{concat-append}
use Rattle.rj_csv_io.specs.Internal.RowParts.{part_start}

-- the first part begins at the first row
pub start-none : (rows parts : ℕ) → 0 < parts → part_start rows parts 0 ≡ 0
start-none rows parts h = omega arith

-- the parts follow each other
pub start-order : (rows parts part : ℕ) → 0 < parts → part_start rows parts part ≤ part_start rows parts (part + 1)
start-order rows parts part h = omega arith

-- and behind the last one there are no rows
pub start-past : (rows parts part : ℕ) → 0 < parts → parts ≤ part → rows ≤ part_start rows parts part
start-past rows parts part h k =
    let more : rows / parts * parts ≤ rows / parts * part = mul-le-mul_left (rows / parts) k in
    omega arith

-- more texts
pub concat-joined : (texts more : List (Vec ℕ Global)) → concat (map (λ (t : Vec ℕ Global). t.items) (texts ++ more))
    ≡ concat (map (λ (t : Vec ℕ Global). t.items) texts) ++ concat (map (λ (t : Vec ℕ Global). t.items) more)
concat-joined texts more = rw map-append (concat-append (map (λ (t : Vec ℕ Global). t.items) texts) (map (λ (t : Vec ℕ Global). t.items) more))

-- one more text
pub concat-more : (texts : List (Vec ℕ Global)) (t : Vec ℕ Global)
    → concat (map (λ (t : Vec ℕ Global). t.items) (texts ++ t ∷ [])) ≡ concat (map (λ (t : Vec ℕ Global). t.items) texts) ++ t.items
concat-more texts t = concat-joined texts (t ∷ []) ∙ ap (λ r. concat (map (λ (t : Vec ℕ Global). t.items) texts) ++ r) (append-nil t.items)

-- the texts up to one more
pub concat-take : (texts : List (Vec ℕ Global)) (i : ℕ) (t : Vec ℕ Global) → i < length texts → t ≡ slice_index_or texts i t
    → concat (map (λ (t : Vec ℕ Global). t.items) (take (i + 1) texts)) ≡ concat (map (λ (t : Vec ℕ Global). t.items) (take i texts)) ++ t.items
concat-take texts i t h e =
    let more : take (i + 1) texts ≡ take i texts ++ t ∷ [] = take_more texts i t h ∙ ap (λ (x : Vec ℕ Global). take i texts ++ x ∷ []) (sym e) in
    rw more (concat-more (take i texts) t)

-- the first of those that are left
pub head-at : {X : Type 0} (all left : List X) (i : ℕ) (x : X) → left ≡ drop i all → x ≡ slice_index_or left 0 x → slice_index_or all i x ≡ x
head-at all left i x e h =
    let none : i + 0 ≡ i = omega arith in
    let at = get_or-drop i all 0 x in
    sym (h ∙ (ap (λ l. slice_index_or l 0 x) e ∙ (rw none at at)))
