-- The copies that the entries of a list give.
use Rattle.std.proofs.Common.{◌≡◌, ◌∙◌, ◌<◌, ℕ, zero, suc, List, [], ◌∷◌, length, map, Option, None, Some, Bor, ap, arith, subst, sym}
use Rattle.std.specs.Prelude.{◌==◌}
use Rattle.std.specs.List.{Contains, slice_index_or, slice_split}
use Rattle.std.proofs.lemmas.Simd.{map-map}
use Rattle.merges.specs.Copies.{copies_of}
use Rattle.rj_shards.specs.declared.merge.copies.Copies.{Copies}

none_among : (all : List Copies) (k : ℕ) → k < length (map Some all) → slice_index_or (map Some all) k None ≡ None → ⊥
none_among [] k lt is = absurd (omega arith)
none_among (x ∷ all) zero lt is = cc
none_among (x ∷ all) (suc k) lt is = none_among all k (omega arith) is

-- the copies that were read entry by entry are those of the list
pub listed : (entries : List (Bor (List ℕ))) (list : List ℕ) (all : List Copies) → map (λ (e : Bor (List ℕ)). e.now) entries ≡ slice_split (λ b. b == 44) list
    → map (λ (e : Bor (List ℕ)). copies_of e.now) entries ≡ map Some all → map copies_of (slice_split (λ b. b == 44) list) ≡ map Some all
listed entries list all split read = ap (map copies_of) (sym split) ∙ (map-map copies_of (λ (e : Bor (List ℕ)). e.now) entries ∙ read)

-- a list with an entry that gives none gives none
pub unlisted : (entries : List (Bor (List ℕ))) (list : List ℕ) (all : List Copies) → map (λ (e : Bor (List ℕ)). e.now) entries ≡ slice_split (λ b. b == 44) list
    → Contains (map (λ (e : Bor (List ℕ)). copies_of e.now) entries) None → map copies_of (slice_split (λ b. b == 44) list) ≡ map Some all → ⊥
unlisted entries list all split bad is =
    let same : map (λ (e : Bor (List ℕ)). copies_of e.now) entries ≡ map Some all =
    sym (map-map copies_of (λ (e : Bor (List ℕ)). e.now) entries) ∙ (ap (map copies_of) split ∙ is) in
    let found = subst (λ (xs : List (Option Copies)). Contains xs None) same bad in
    none_among all found.0 found.1 found.2
