-- Facts on cutting.
use Rattle.std.proofs.Common.{◌≡◌, Bool, false, ◌==◌, ℕ, zero, suc, ◌+◌, ◌<◌, ◌≤◌, min, List, [], ◌∷◌, ◌++◌, map, length, drop, take, refl, ap, sym, ◌∙◌, arith, append_assoc, length-drop, inl, inr, ◌⊎◌}
use Rattle.std.proofs.lemmas.Bool.Decides.{nat_tests}
use Rattle.std.proofs.lemmas.List.{drop_all, take_min}
use Rattle.rj_exchange.specs.declared.ledger.parcel.Body.{Body}
use Rattle.rj_exchange.specs.declared.ledger.parcel.Body.TheVariants.{Rows, Close}
use Rattle.rj_exchange.specs.declared.ledger.parcel.Parcel.{Parcel}
use Rattle.rj_exchange.specs.Cutting.{blocks_within, blocks, bodies, numbered}

no_blocks : (f block : ℕ) → blocks_within f block [] ≡ []
no_blocks zero block = refl
no_blocks (suc f) block = refl

-- more room than rows changes nothing
pub blocks_enough : (f g block : ℕ) (rows : List ℕ) → 0 < block → length rows ≤ f → length rows ≤ g → blocks_within f block rows ≡ blocks_within g block rows
blocks_enough f g block [] b p q = no_blocks f block ∙ sym (no_blocks g block)
blocks_enough zero g block (row ∷ rows) b p q = absurd (omega arith)
blocks_enough (suc f) zero block (row ∷ rows) b p q = absurd (omega arith)
blocks_enough (suc f) (suc g) block (row ∷ rows) b p q =
    ap (λ (t : List (List ℕ)). take block (row ∷ rows) ∷ t) (blocks_enough f g block (drop block (row ∷ rows)) b (simp length-drop (omega arith)) (simp length-drop (omega arith)))

pub blocks_step : (block : ℕ) (row : ℕ) (rows : List ℕ) → 0 < block → blocks block (row ∷ rows) ≡ take block (row ∷ rows) ∷ blocks block (drop block (row ∷ rows))
blocks_step block row rows b = ap (λ (t : List (List ℕ)). take block (row ∷ rows) ∷ t) (blocks_enough (length rows) (length (drop block (row ∷ rows))) block (drop block (row ∷ rows)) b (simp length-drop (omega arith)) (omega arith))

pub bodies_step : (block : ℕ) (rows : List ℕ) → 0 < block → 0 < length rows → bodies block rows ≡ Rows (take block rows) ∷ bodies block (drop block rows)
bodies_step block [] b h = absurd (omega arith)
bodies_step block (row ∷ rows) b h = ap (λ (t : List (List ℕ)). map Rows t ++ Close ∷ []) (blocks_step block row rows b)

pub cut_goes_on : (ps whole : List Parcel) (s p n block : ℕ) (rows : List ℕ) → 0 < block → 0 < length rows → ps ++ numbered s p n (bodies block rows) ≡ whole
    → (ps ++ record { sender = s; partition = p; number = n; body = Rows (take block rows) } ∷ []) ++ numbered s p (n + 1) (bodies block (drop block rows)) ≡ whole
cut_goes_on ps whole s p n block rows b h e =
    append_assoc ps _ _
    ∙ sym (ap (λ (bs : List Body). ps ++ numbered s p n bs) (bodies_step block rows b h))
    ∙ e

least_ways : (a b : ℕ) → ((a ≤ b) × (min a b ≡ a)) ⊎ ((b ≤ a) × (min a b ≡ b))
least_ways a b = grind arith

pub drop_min : (n : ℕ) (xs : List ℕ) → drop (min n (length xs)) xs ≡ drop n xs
drop_min n xs = elim (least_ways n (length xs)) [
  | inl h ↦ ap (λ (m : ℕ). drop m xs) h.1
  | inr h ↦ ap (λ (m : ℕ). drop m xs) h.1 ∙ drop_all (length xs) xs (omega arith) ∙ sym (drop_all n xs h.0)
]

-- one turn of the loop that cuts
pub cut_one : (ps qs whole : List Parcel) (s p n block count : ℕ) (rows front others body : List ℕ) → 0 < block → 0 < length rows → ps ++ numbered s p n (bodies block rows) ≡ whole
    → qs ≡ ps ++ record { sender = s; partition = p; number = n; body = Rows body } ∷ [] → body ≡ front → front ≡ take count rows → others ≡ drop count rows → count ≡ min block (length rows)
    → qs ++ numbered s p (n + 1) (bodies block others) ≡ whole
cut_one ps qs whole s p n block count rows front others body b h e q r f o m =
    let body_is : body ≡ take block rows = r ∙ f ∙ ap (λ (k : ℕ). take k rows) m ∙ take_min block rows in
    let others_is : others ≡ drop block rows = o ∙ ap (λ (k : ℕ). drop k rows) m ∙ drop_min block rows in
    ap (λ (t : List Parcel). t ++ numbered s p (n + 1) (bodies block others)) q
    ∙ ap (λ (t : List ℕ). (ps ++ record { sender = s; partition = p; number = n; body = Rows t } ∷ []) ++ numbered s p (n + 1) (bodies block others)) body_is
    ∙ ap (λ (t : List ℕ). (ps ++ record { sender = s; partition = p; number = n; body = Rows (take block rows) } ∷ []) ++ numbered s p (n + 1) (bodies block t)) others_is
    ∙ cut_goes_on ps whole s p n block rows b h e

pub nonzero : (t : Bool) (n : ℕ) → t ≡ (n == 0) → t ≡ false → 0 < n
nonzero t n e h = none_or_some n (sym e ∙ h)
  where
    none_or_some : (n : ℕ) → (n == 0) ≡ false → 0 < n
    none_or_some n h = grind (arith, nat_tests)
