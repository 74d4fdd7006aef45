-- What is told of a joined table, by whether it was found to be as expected.
use Rattle.std.proofs.Common.{◌≡◌, ◌⊎◌, inl, inr, Bool, true, false, true≢false, Result, Ok, Err, refl, sym}
use Rattle.std.specs.Prelude.{◌↔◌, IfErr, IfOk, IsTrue, OnOk}
use Rattle.std.specs.declared.alloc.AllocError.{AllocError}
use Rattle.rj_command.specs.Expected.{refusal_of}
use Rattle.rj_line.specs.declared.fault.Fault.TheVariants as fault

pub expected_told : (P : Type 0) (r : Result Bool AllocError) → IfOk r (λ b. IsTrue b ↔ P) → OnOk (refusal_of r) P
expected_told P (Ok true) h = h.0 refl
expected_told P (Ok false) h = tt
expected_told P (Err e) h = tt

pub unexpected_told : (P : Type 0) (r : Result Bool AllocError) → IfOk r (λ b. IsTrue b ↔ P)
    → IfErr (refusal_of r) (λ f. (f ≡ fault.Memory) ⊎ ((f ≡ fault.NotAsExpected) × (P → ⊥)))
unexpected_told P (Ok true) h = tt
unexpected_told P (Ok false) h = inr (refl, λ p. true≢false (sym (h.1 p)))
unexpected_told P (Err e) h = inl refl
