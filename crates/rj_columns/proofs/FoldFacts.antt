-- A look-up by the form in lower case finds the names that are alike when ASCII case is ignored.
use Rattle.std.proofs.Common.{◌≡◌, ℕ, zero, suc, List, [], ◌∷◌, ◌++◌, Bool, false, map, Option, None, Some, String, Global, refl, sym, ap, ◌∙◌}
use Rattle.std.specs.Prelude.{string_bytes, slice_get}
use Rattle.std.specs.List.{list_any}
use Rattle.std.specs.Str.{bytes_eq, str_eq_ignore_ascii_case, str_to_ascii_lowercase}
use Rattle.std.specs.Map.{keys_of, values_of, lookup}
use Rattle.std.specs.Option.{is_some}
use Rattle.std.specs.String.{string_eq}
use Rattle.std.specs.List.{AllZip}
use Rattle.std.proofs.lemmas.List.Elements.{All-head, All-tail, All-cons, All-nil, All-push}
use Rattle.std.proofs.lemmas.Map.Made.{is_some-lookup}
use Rattle.indexmap.specs.IndexMap.{IndexMap, insert_entry}
use Rattle.indexmap.proofs.CallerLemmas.{insert_entry-new}
use Rattle.rj_columns.specs.Internal.Folded.{AreFolded}

abbrev Entry : Type 0
Entry = String Global × String Global

abbrev Folded : Entry → Type 0
Folded e = string_bytes e.0 ≡ str_to_ascii_lowercase (string_bytes e.1)

pub alike : (name : List ℕ) (entries : List Entry) → AreFolded entries
    → list_any (λ k. bytes_eq (str_to_ascii_lowercase name) (string_bytes k)) (keys_of entries) ≡ list_any (str_eq_ignore_ascii_case name) (map string_bytes (values_of entries))
alike name [] h = refl
alike name (e ∷ entries) h =
    rw (All-head Folded e entries h, alike name entries (All-tail Folded e entries h)) refl

pub AreFolded-push : (entries : List Entry) (k v : String Global) → AreFolded entries → string_bytes k ≡ str_to_ascii_lowercase (string_bytes v) → AreFolded (entries ++ (k, v) ∷ [])
AreFolded-push entries k v h e = All-push Folded entries (k, v) h e

pub values-push : (entries : List Entry) (k v : String Global) → map string_bytes (values_of (entries ++ (k, v) ∷ [])) ≡ map string_bytes (values_of entries) ++ string_bytes v ∷ []
values-push [] k v = refl
values-push (e ∷ entries) k v = ap (λ t. string_bytes e.1 ∷ t) (values-push entries k v)

-- the name of the entry at a place
pub name-at : (entries : List Entry) (i : ℕ) (e : Entry) → slice_get entries i ≡ Some e → slice_get (map string_bytes (values_of entries)) i ≡ Some (string_bytes e.1)
name-at [] i e h = cc
name-at (x ∷ entries) zero e h = let same : x ≡ e = cc in rw same refl
name-at (x ∷ entries) (suc i) e h = name-at entries i e h

-- what a look-up says of the names
pub found : (entries : List Entry) (name : List ℕ) (folded : String Global) (r : Bool) → AreFolded entries → string_bytes folded ≡ str_to_ascii_lowercase name
    → r ≡ is_some (lookup (string_eq folded) entries) → r ≡ list_any (str_eq_ignore_ascii_case name) (map string_bytes (values_of entries))
found entries name folded r h e t =
    t ∙ is_some-lookup (string_eq folded) entries
    ∙ ap (λ b. list_any (λ k. bytes_eq b (string_bytes k)) (keys_of entries)) e
    ∙ alike name entries h

none_of : {A : Type 0} (x : Option A) → is_some x ≡ false → x ≡ None
none_of None e = refl
none_of (Some a) e = cc

-- a new name goes last
pub added : {S : Type 0} (m : IndexMap (String Global) (String Global) S) (now : List Entry) (k v : String Global) (r : Bool) → r ≡ is_some (lookup (string_eq k) m.entries) → r ≡ false
    → now ≡ insert_entry string_eq m.entries k v → now ≡ m.entries ++ (k, v) ∷ []
added m now k v r t f e = e ∙ insert_entry-new string_eq m k v (none_of (lookup (string_eq k) m.entries) (sym t ∙ f))

-- a copy has the same names
abbrev AreCopies : List Entry → List Entry → Type 0
AreCopies entries copies = AllZip (λ (p q : Entry). (string_bytes q.0 ≡ string_bytes p.0) × (string_bytes q.1 ≡ string_bytes p.1)) entries copies

pub copied-names : (entries copies : List Entry) → AreCopies entries copies → map string_bytes (values_of copies) ≡ map string_bytes (values_of entries)
copied-names [] [] h = refl
copied-names [] (q ∷ copies) h = absurd h
copied-names (p ∷ entries) [] h = absurd h
copied-names (p ∷ entries) (q ∷ copies) h = rw (h.0.1, copied-names entries copies h.1) refl

pub copied-folded : (entries copies : List Entry) → AreCopies entries copies → AreFolded entries → AreFolded copies
copied-folded [] [] h f = All-nil Folded
copied-folded [] (q ∷ copies) h f = absurd h
copied-folded (p ∷ entries) [] h f = absurd h
copied-folded (p ∷ entries) (q ∷ copies) h f =
    All-cons Folded q copies (h.0.0 ∙ (All-head Folded p entries f ∙ ap str_to_ascii_lowercase (sym h.0.1))) (copied-folded entries copies h.1 (All-tail Folded p entries f))
