use Rattle.std.proofs.Common.{◌≡◌, ◌∙◌, Bor, List, None, Option, Some, ap, refl, take, ℕ}
use Rattle.std.specs.Prelude.{is_some, option_and_then}
use Rattle.std.specs.Option.{option_copied}
use Rattle.std.proofs.lemmas.List.{take_min}
use Rattle.rj_explain.specs.Unknown.{before_sign}
use Rattle.rj_explain.proofs.clause.is_behind_delimited.Goals as goal

there : (o : Option (Bor (List ℕ))) → is_some o ≡ is_some (option_copied o)
there None = refl
there (Some x) = refl

-- the text before a byte, or the whole text if there are fewer bytes
before : (at n : ℕ) (bytes clause : List ℕ) → take n bytes ≡ take at bytes → bytes ≡ clause → before_sign 46 (take n bytes) ≡ before_sign 46 (take at clause)
before at n bytes clause e whole = ap (before_sign 46) (e ∙ ap (take at) whole)

pub returns-in-Some : goal.returns-in-Some
returns-in-Some c =
    let bytes = c.as_bytes-bytes.result.now in
    let fewer = ap (λ (n : ℕ). take n bytes) c.min.ensures ∙ take_min c.args.at bytes in
    let point = c.in-Some.ensures ∙ before c.args.at c.min.result bytes c.args.clause.now fewer c.as_bytes-bytes.ensures.value in
    c.is_some.ensures
    ∙ (there c.before_sign-in-Some.result
    ∙ (ap (λ (o : Option (List ℕ)). is_some o) c.before_sign-in-Some.ensures ∙ ap (λ (o : Option (List ℕ)). is_some (option_and_then (before_sign 34) o)) point))

pub returns-in-None : goal.returns-in-None
returns-in-None c =
    let bytes = c.as_bytes-bytes.result.now in
    let fewer = ap (λ (n : ℕ). take n bytes) c.min.ensures ∙ take_min c.args.at bytes in
    ap (λ (o : Option (List ℕ)). is_some (option_and_then (before_sign 34) o))
    (c.in-None.ensures ∙ before c.args.at c.min.result bytes c.args.clause.now fewer c.as_bytes-bytes.ensures.value)
