use Rattle.std.proofs.Common.{◌≡◌, ◌∙◌, ◌&&◌, ◌∷◌, [], ℕ, Bool, List, true, false, refl, sym, ap, subst, arith, length, nat_lt}
use Rattle.std.specs.Prelude.{◌==◌, nat_le}
use Rattle.std.specs.Str.{is_utf8}
use Rattle.std.proofs.lemmas.Bool.Decides.{nat_tests}
use Rattle.std.proofs.lemmas.Str.{is_utf8-from_IsUtf8}
use Rattle.rj_columns.specs.Names.{is_name}
use Rattle.rj_settings.proofs.types.selected.is_lawful.Goals as goal

and_true : (t : Bool) → t ≡ (t && true)
and_true true = refl
and_true false = refl

-- a text that isn't empty is a name if it isn't too long
lawful : (name : List ℕ) → is_utf8 name ≡ true → (length name == 0) ≡ false → nat_le (length name) 128 ≡ is_name name
lawful [] valid some = cc
lawful (b ∷ name) valid some =
    let few = nat_le (length (b ∷ name)) 128 in
    let more : nat_lt 0 (length (b ∷ name)) ≡ true = grind (arith, nat_tests) in
    and_true few ∙ (ap (λ (t : Bool). few && t) (sym valid) ∙ ap (λ (t : Bool). (t && few) && is_utf8 (b ∷ name)) (sym more))

pub returns-then-not-is_empty : goal.returns-then-not-is_empty
returns-then-not-is_empty c =
    let P : List ℕ → Type 0 = λ name. nat_le (length c.as_str-text.result.now) 128 ≡ is_name name in
    subst P c.as_str-text.ensures (lawful c.as_str-text.result.now (is_utf8-from_IsUtf8 c.as_str-text.result.now c.as_str-text.utf8) (sym c.is_empty.ensures ∙ c.if-not-is_empty.true))
