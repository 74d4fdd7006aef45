-- What is known of a file by the device that tells its bytes.
use Rattle.std.proofs.Common.{◌≡◌, ℕ, List, [], Option, None, Some, Bool, true, false, true≢false, inl, inr, refl, sym, ap, subst, ◌∙◌, ◌≢◌, ◌<◌, ◌≤◌, arith, length}
use Rattle.std.specs.Prelude.{IfSome, ◌^◌}
use Rattle.std.specs.Io.KnownBytes.{Consumes, IsAtEnd}
use Rattle.rj_csv_io.specs.declared.refused.ReadRefused.{ReadRefused}
use Rattle.rj_csv_io.specs.declared.refused.ReadRefused.TheVariants as read
use Rattle.rj_line.specs.Faults.{read_fault}
use Rattle.rj_line.specs.declared.fault.Fault.{Fault}
use Rattle.rj_line.specs.declared.fault.Side.{Side}
use Rattle.rj_line.specs.declared.request.Strictness.{Strictness}
use Rattle.shards.specs.Heads.{Begins, HasHead, HasHeadFault}
use Rattle.shards.specs.Ranges.{IsFileFault}
use Rattle.shards.specs.declared.head.Head.{Head}
use Rattle.shards.proofs.HeadFacts.{some-text}

-- what holds of each text holds of one that is told
pub if-told : (file : Option (List ℕ)) (P : List ℕ → Type 0) → ((text : List ℕ) → P text) → IfSome file P
if-told None P holds = tt
if-told (Some text) P holds = holds text

-- what holds of the bytes that a device tells holds of those of the file
pub told-if : (file tells : Option (List ℕ)) (bytes : List ℕ → List ℕ) (P : List ℕ → Type 0) → IfSome file (λ text. tells ≡ Some (bytes text)) → IfSome tells P
    → IfSome file (λ text. P (bytes text))
told-if None tells bytes P is holds = tt
told-if (Some text) tells bytes P is holds = subst (λ o. IfSome o P) is holds

pub told-head : (how : Strictness) (d : ℕ) (file tells : Option (List ℕ)) (h : Head) → IfSome file (λ text. tells ≡ Some text) → HasHead how d tells h → HasHead how d file h
told-head how d None tells h is head = (head.0, tt, head.2)
told-head how d (Some text) tells h is head = subst (λ o. HasHead how d o h) is head

pub told-fault : (how : Strictness) (d : ℕ) (s : Side) (file tells : Option (List ℕ)) (f : Fault) → IfSome file (λ text. tells ≡ Some text)
    → HasHeadFault how d s tells f → HasHeadFault how d s file f
told-fault how d s None tells f is told = (told.0, tt, told.2)
told-fault how d s (Some text) tells f is told = subst (λ o. HasHeadFault how d s o f) is told

-- a file that can't be opened has no header to tell
pub unopened : (how : Strictness) (d : ℕ) (s : Side) (file : Option (List ℕ)) (f : Fault) → IsFileFault s f → HasHeadFault how d s file f
unopened how d s file f (inl device) = let text = some-text file in (text.0, text.1, λ memory other. absurd (other device))
unopened how d s file f (inr out) = let text = some-text file in (text.0, text.1, λ memory other. absurd (memory out))

-- nothing was taken
pub none-taken : (tells : Option (List ℕ)) → Consumes tells tells []
none-taken None = tt
none-taken (Some text) = refl

-- a device that was read up to a mebibyte, or to its end
pub whole-or-long : (whole : Bool) (size : ℕ) (left : Option (List ℕ)) → (whole ≡ true → IsAtEnd left) → (whole ≡ false → 2 ^ 20 ≤ size) → size < 2 ^ 20 → IsAtEnd left
whole-or-long true size left end full few = end refl
whole-or-long false size left end full few = absurd (omega (arith, full refl, few))

-- bytes that were taken from the beginning of a file
pub taken-first : (file tells left : Option (List ℕ)) (bytes : List ℕ) → IfSome file (λ text. tells ≡ Some text) → Consumes tells left bytes
    → (length bytes < 2 ^ 20 → IsAtEnd left) → Begins file bytes
taken-first None tells left bytes is taken end = tt
taken-first (Some text) tells left bytes is taken end = go left (subst (λ o. Consumes o left bytes) is taken) end
  where
    go : (left : Option (List ℕ)) → Consumes (Some text) left bytes → (length bytes < 2 ^ 20 → IsAtEnd left) → Begins (Some text) bytes
    go None taken end = absurd taken
    go (Some rest) taken end = (rest, taken, end)

abbrev is_memory : ReadRefused → Bool
is_memory read.Memory = true
is_memory _ = false

-- a device that failed while it was read
pub read-fault : (s : Side) (e : ReadRefused) (f : Fault) → (e ≢ read.Memory → e ≡ read.ReadDevice) → f ≡ read_fault s e → IsFileFault s f
read-fault s read.Memory f why is = inr is
read-fault s e f why is = inl (is ∙ ap (read_fault s) (why (λ memory. true≢false (sym (ap is_memory memory)))))
