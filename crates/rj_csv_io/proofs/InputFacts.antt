-- Bytes that a device gives, piece by piece.
use Rattle.std.proofs.Common.{◌≡◌, ◌≤◌, ◌+◌, ◌∙◌, ℕ, List, ◌++◌, length, take, drop, Option, Result, Ok, Err, sym, ap, subst, arith}
use Rattle.std.specs.Prelude.{IfOk}
use Rattle.std.specs.Io.KnownBytes.{Consumes}
use Rattle.std.proofs.KnownBytes.{Consumes-trans}
use Rattle.std.proofs.Math.Seq.{drop-append_seam, take-add, take-append_seam}
use Rattle.std.proofs.lemmas.List.{length-take, take-append-le, take-take, take_all}

-- what was got into a part of a buffer stands behind the bytes before it
pub consumes-behind : {E : Type 0} (a b : Option (List ℕ)) (r : Result ℕ E) (front part rest : List ℕ) (at : ℕ) → length front ≡ at → IfOk r (λ n. n ≤ length part)
    → IfOk r (λ n. Consumes a b (take n part)) → IfOk r (λ n. Consumes a b (take n (drop at (front ++ (part ++ rest)))))
consumes-behind a b (Ok n) front part rest at size fits read =
    let behind : drop at (front ++ (part ++ rest)) ≡ part ++ rest = ap (λ m. drop m (front ++ (part ++ rest))) (sym size) ∙ drop-append_seam front (part ++ rest) in
    subst (Consumes a b) (sym (ap (take n) behind ∙ take-append-le n part rest fits)) read
consumes-behind a b (Err e) front part rest at size fits read = tt

-- a list after more room was made
pub room-front : (old more : List ℕ) (f n : ℕ) → f ≡ length old → f ≤ n → take f (take n old ++ more) ≡ old
room-front old more f n e h =
    let all = take_all n old (omega (arith, e, h)) in
    rw (all, e) (take-append_seam old more)

-- what begins so still begins so after more was added
pub front-on : (old mid next : List ℕ) → take (length old) mid ≡ old → take (length mid) next ≡ mid → take (length old) next ≡ old
front-on old mid next h more =
    let a = length-take (length old) mid in let b = ap length h in
    let less : length old ≤ length mid = omega (arith, a, b) in
    sym (take-take (length old) (length mid) next less) ∙ (ap (λ l. take (length old) l) more ∙ h)

-- a list that was cut behind the bytes that were got
module _ (old room buffer : List ℕ) (n f k : ℕ) (e : take f room ≡ old) (g : take f buffer ≡ take f room) (h : f + k ≤ length buffer) (long : length buffer ≤ n) where
  cut-off : take (f + k) (take n (buffer ++ drop (length buffer) room)) ≡ old ++ take k (drop f buffer)
  cut-off =
      take-take (f + k) n (buffer ++ drop (length buffer) room) (omega (arith, h, long))
      ∙ (take-append-le (f + k) buffer (drop (length buffer) room) h
      ∙ (take-add f k buffer ∙ ap (λ t. t ++ take k (drop f buffer)) (g ∙ e)))

  pub consumes-cut : (start a b : Option (List ℕ)) → Consumes start a old → Consumes a b (take k (drop f buffer)) → Consumes start b (take (f + k) (take n (buffer ++ drop (length buffer) room)))
  consumes-cut start a b before read = subst (Consumes start b) (sym cut-off) (Consumes-trans start a b old (take k (drop f buffer)) before read)

  -- it begins as before
  pub front-cut : take (length old) (take (f + k) (take n (buffer ++ drop (length buffer) room))) ≡ old
  front-cut = ap (λ l. take (length old) l) cut-off ∙ take-append_seam old (take k (drop f buffer))
