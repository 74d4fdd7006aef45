use Rattle.std.proofs.Common.{◌≡◌, ◌∙◌, ◌∷◌, ◌-◌, Bool, List, [], ℕ, None, Some, ap, false, length, nat_eq, sym, take, true}
use Rattle.std.specs.Prelude.{if◌then◌else◌}
use Rattle.std.specs.List.{ends_with}
use Rattle.std.proofs.lemmas.Str.Ascii.{trim_ascii_end_is}
use Rattle.rj_explain.specs.Unknown.{before_end, trimmed}
use Rattle.rj_explain.proofs.clause.before_sign.Goals as goal

-- what comes before a sign, by whether a text ends with it
ending : (sign : ℕ) (text : List ℕ) (ends : Bool) → ends_with nat_eq text (sign ∷ []) ≡ ends → before_end sign text ≡ (if ends then Some (take (length text - 1) text) else None)
ending sign text ends e = ap (λ (b : Bool). if b then Some (take (length text - 1) text) else None) e

pub returns-then-ends_with : goal.returns-then-ends_with
returns-then-ends_with c =
    let text = c.trim_ascii_end-text.result.now in
    let whole : text ≡ trimmed c.args.text.now = trim_ascii_end_is _ _ c.trim_ascii_end-text.ensures.value in
    sym (ap (before_end c.args.sign) (sym whole) ∙ ending c.args.sign text true (sym c.ends_with.ensures.value ∙ c.if-ends_with.true))

pub returns : goal.returns
returns c =
    let text = c.trim_ascii_end-text.result.now in
    let whole : text ≡ trimmed c.args.text.now = trim_ascii_end_is _ _ c.trim_ascii_end-text.ensures.value in
    sym (ap (before_end c.args.sign) (sym whole) ∙ ending c.args.sign text false (sym c.ends_with.ensures.value ∙ c.if-ends_with.false))
