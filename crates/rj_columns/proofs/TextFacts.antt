-- What a column of texts shows after a push, a cut, a removal and a join.
use Rattle.std.proofs.Common.{◌≡◌, ◌≤◌, ◌<◌, ◌+◌, ◌-◌, ◌∙◌, ℕ, List, Bool, [], ◌∷◌, ◌++◌, map, length, take, drop, None, Some, refl, sym, ap, arith, get_or}
use Rattle.std.specs.Prelude.{IsUtf8, true, false, slice_get, slice_index_or, slice_range}
use Rattle.std.specs.List.{remove, remove_range}
use Rattle.std.proofs.lemmas.List.{length-append, length-take, take_all, append-nil}
use Rattle.std.proofs.lemmas.Str.{IsUtf8-nil}
use Rattle.rj_columns.specs.Internal.Nulls.{with_nulls, marked_at}
use Rattle.rj_columns.specs.Internal.Packed.{start_at, texts_from, Packs, ArePacked}
use Rattle.rj_columns.proofs.NullFacts.{push-value, push-null, length-marked, length-values, take-values, remove-values, value-at}
use Rattle.rj_columns.proofs.PackFacts.{texts-found, packed, length-texts, length-ends, push-packed, take-packed, remove-packed, text-at}
use Rattle.rj_columns.proofs.RemoveFacts.{remove-none, remove-within}

-- a null
null-packs : (bytes ends : List ℕ) (nulls : List Bool) (size : ℕ) → ArePacked bytes ends nulls → size ≡ length bytes → Packs bytes (ends ++ size ∷ []) (texts_from 0 bytes ends ++ [] ∷ [])
null-packs bytes ends nulls size p e =
    let same = append-nil bytes in
    rw same at (push-packed bytes ends (texts_from 0 bytes ends) [] size p.texts IsUtf8-nil (e ∙ sym (ap length same)))

pub null-packed : (bytes ends : List ℕ) (nulls : List Bool) (size row : ℕ) → ArePacked bytes ends nulls → size ≡ length bytes → row ≡ length ends → ArePacked bytes (ends ++ size ∷ []) (marked_at nulls row)
null-packed bytes ends nulls size row p e r =
    let low : length nulls ≤ row = omega (arith, p.nulls) in
    record {
      texts = packed bytes (ends ++ size ∷ []) (texts_from 0 bytes ends ++ [] ∷ []) (null-packs bytes ends nulls size p e);
      nulls = omega (arith, length-marked nulls row low, length-append ends (size ∷ []));
    }

pub null-shown : (bytes ends : List ℕ) (nulls : List Bool) (size row : ℕ) → ArePacked bytes ends nulls → size ≡ length bytes → row ≡ length ends
    → with_nulls (texts_from 0 bytes (ends ++ size ∷ [])) (marked_at nulls row) ≡ with_nulls (texts_from 0 bytes ends) nulls ++ None ∷ []
null-shown bytes ends nulls size row p e r =
    let texts = texts-found bytes (ends ++ size ∷ []) (texts_from 0 bytes ends ++ [] ∷ []) (null-packs bytes ends nulls size p e) in
    let many = length-texts 0 bytes ends in
    let here : row ≡ length (texts_from 0 bytes ends) = omega arith in
    rw (texts, here) (push-null (texts_from 0 bytes ends) nulls [] (omega (arith, p.nulls)))

-- a text
text-packs : (bytes ends : List ℕ) (nulls : List Bool) (text : List ℕ) (end : ℕ) → ArePacked bytes ends nulls → IsUtf8 text → end ≡ length (bytes ++ text)
    → Packs (bytes ++ text) (ends ++ end ∷ []) (texts_from 0 bytes ends ++ text ∷ [])
text-packs bytes ends nulls text end p u e = push-packed bytes ends (texts_from 0 bytes ends) text end p.texts u e

pub text-packed : (bytes ends : List ℕ) (nulls : List Bool) (text : List ℕ) (end : ℕ) → ArePacked bytes ends nulls → IsUtf8 text → end ≡ length (bytes ++ text) → ArePacked (bytes ++ text) (ends ++ end ∷ []) nulls
text-packed bytes ends nulls text end p u e = record {
  texts = packed (bytes ++ text) (ends ++ end ∷ []) (texts_from 0 bytes ends ++ text ∷ []) (text-packs bytes ends nulls text end p u e);
  nulls = omega (arith, p.nulls, length-append ends (end ∷ []));
}

pub text-shown : (bytes ends : List ℕ) (nulls : List Bool) (text : List ℕ) (end : ℕ) → ArePacked bytes ends nulls → IsUtf8 text → end ≡ length (bytes ++ text)
    → with_nulls (texts_from 0 (bytes ++ text) (ends ++ end ∷ [])) nulls ≡ with_nulls (texts_from 0 bytes ends) nulls ++ Some text ∷ []
text-shown bytes ends nulls text end p u e =
    let texts = texts-found (bytes ++ text) (ends ++ end ∷ []) (texts_from 0 bytes ends ++ text ∷ []) (text-packs bytes ends nulls text end p u e) in
    rw texts (push-value (texts_from 0 bytes ends) nulls text (omega (arith, p.nulls, length-texts 0 bytes ends)))

-- the first texts
pub cut-packed : (bytes ends : List ℕ) (nulls : List Bool) (rows size : ℕ) → ArePacked bytes ends nulls → rows < length ends → size ≡ start_at 0 ends rows → ArePacked (take size bytes) (take rows ends) (take rows nulls)
cut-packed bytes ends nulls rows size p h e =
    let marks = length-take rows nulls in
    let many = length-take rows ends in
    record {
      texts = packed (take size bytes) (take rows ends) (take rows (texts_from 0 bytes ends)) (take-packed bytes ends (texts_from 0 bytes ends) rows size p.texts (omega arith) e);
      nulls = rw (marks, many) (grind (arith, p.nulls));
    }

pub cut-shown : (bytes ends : List ℕ) (nulls : List Bool) (rows size : ℕ) → ArePacked bytes ends nulls → rows < length ends → size ≡ start_at 0 ends rows
    → with_nulls (texts_from 0 (take size bytes) (take rows ends)) (take rows nulls) ≡ take rows (with_nulls (texts_from 0 bytes ends) nulls)
cut-shown bytes ends nulls rows size p h e =
    let texts = texts-found (take size bytes) (take rows ends) (take rows (texts_from 0 bytes ends)) (take-packed bytes ends (texts_from 0 bytes ends) rows size p.texts (omega arith) e) in
    rw texts (take-values (texts_from 0 bytes ends) nulls rows)

length-shown : (bytes ends : List ℕ) (nulls : List Bool) → length (with_nulls (texts_from 0 bytes ends) nulls) ≡ length ends
length-shown bytes ends nulls = length-values (texts_from 0 bytes ends) nulls ∙ length-texts 0 bytes ends

pub uncut : (bytes ends : List ℕ) (nulls : List Bool) (rows : ℕ) → length ends ≤ rows → with_nulls (texts_from 0 bytes ends) nulls ≡ take rows (with_nulls (texts_from 0 bytes ends) nulls)
uncut bytes ends nulls rows h = sym (take_all rows (with_nulls (texts_from 0 bytes ends) nulls) (omega (arith, length-shown bytes ends nulls)))

-- one text less
pub removed-packed : (bytes ends : List ℕ) (nulls : List Bool) (row start end : ℕ) → ArePacked bytes ends nulls → row < length ends → start ≡ start_at 0 ends row → end ≡ get_or ends row 0
    → ArePacked (remove_range bytes start end) (take row ends ++ map (λ e. e - (end - start)) (drop (row + 1) ends)) (remove nulls row)
removed-packed bytes ends nulls row start end p h s e =
    let less = remove-packed bytes ends (texts_from 0 bytes ends) row start end p.texts h s e in
    let many = ap length less.ends ∙ length-ends 0 (remove (texts_from 0 bytes ends) row) in
    let marks = remove-within (texts_from 0 bytes ends) nulls row (omega (arith, p.nulls, length-texts 0 bytes ends)) in
    record {
      texts = packed (remove_range bytes start end) _ (remove (texts_from 0 bytes ends) row) less;
      nulls = rw many marks;
    }

pub removed-shown : (bytes ends : List ℕ) (nulls : List Bool) (row start end : ℕ) → ArePacked bytes ends nulls → row < length ends → start ≡ start_at 0 ends row → end ≡ get_or ends row 0
    → with_nulls (texts_from 0 (remove_range bytes start end) (take row ends ++ map (λ e. e - (end - start)) (drop (row + 1) ends))) (remove nulls row) ≡ remove (with_nulls (texts_from 0 bytes ends) nulls) row
removed-shown bytes ends nulls row start end p h s e =
    let less = remove-packed bytes ends (texts_from 0 bytes ends) row start end p.texts h s e in
    ap (λ t. with_nulls t (remove nulls row)) (texts-found (remove_range bytes start end) _ (remove (texts_from 0 bytes ends) row) less) ∙ remove-values (texts_from 0 bytes ends) nulls row

pub unremoved : (bytes ends : List ℕ) (nulls : List Bool) (row : ℕ) → length ends ≤ row → with_nulls (texts_from 0 bytes ends) nulls ≡ remove (with_nulls (texts_from 0 bytes ends) nulls) row
unremoved bytes ends nulls row h = sym (remove-none (with_nulls (texts_from 0 bytes ends) nulls) row (omega (arith, length-shown bytes ends nulls)))

-- a row by its number
pub row-inside : (bytes ends : List ℕ) (nulls : List Bool) (i : ℕ) → i < length (with_nulls (texts_from 0 bytes ends) nulls) → i < length ends
row-inside bytes ends nulls i h = let size = length-shown bytes ends nulls in omega arith

pub shown-null : (bytes ends : List ℕ) (nulls : List Bool) (i : ℕ) → i < length ends → slice_index_or nulls i false ≡ true → slice_get (with_nulls (texts_from 0 bytes ends) nulls) i ≡ Some None
shown-null bytes ends nulls i h e =
    let low : i < length (texts_from 0 bytes ends) = omega (arith, length-texts 0 bytes ends) in
    rw (value-at (texts_from 0 bytes ends) nulls i [] low, e) refl

pub shown-text : (bytes ends : List ℕ) (nulls : List Bool) (i : ℕ) (text : List ℕ) → i < length ends → slice_index_or nulls i false ≡ false → text ≡ slice_range bytes (start_at 0 ends i) (get_or ends i 0)
    → slice_get (with_nulls (texts_from 0 bytes ends) nulls) i ≡ Some (Some text)
shown-text bytes ends nulls i text h e t =
    let low : i < length (texts_from 0 bytes ends) = omega (arith, length-texts 0 bytes ends) in
    rw (value-at (texts_from 0 bytes ends) nulls i [] low, e, t, text-at 0 bytes ends i h) refl
