use Rattle.std.proofs.Common.{◌≡◌, ◌++◌, ◌∷◌, [], List, ℕ, ◌-◌, ap, ◌∙◌, subst, sym, append_assoc, arith, Some, length, rules, drop}
use Rattle.std.specs.Prelude.{slice_index}
use Rattle.rj_condition.specs.declared.token.Token.{Token}
use Rattle.rj_condition.specs.declared.token.Token.TheVariants as token
use Rattle.rj_condition.specs.Tokens.{is_blank}
use Rattle.rj_condition.specs.Lexing.{Lexes}
use Rattle.rj_condition.specs.Refusals.{BeginAt}
use Rattle.rj_condition.specs.Refusals as refusals
use Rattle.rj_condition.specs.Internal.Scanning.{view, token_at}
use Rattle.rj_condition.proofs.Lexemes.{blank_begun, blank_step, token_begun, token_step, end_step, shorter, nothing_begun, nothing_step, none_after, first_of, first_byte, empty_of}
use Rattle.rj_condition.proofs.lexer.lex.Goals as goal

pub loop-first-preserved-then-blank : goal.loop-first-preserved-then-blank
loop-first-preserved-then-blank c =
    let first = first_byte c.as_bytes.result.now c.loop-first.rest.now c.in-Some.first.now c.in-Some.ensures.item.3.1 c.as_bytes.ensures.value in
    record {
      text = c.tail-rest.utf8;
      within = let le = c.loop-first.invariant.within in let e = ap length c.tail-rest.ensures in omega arith;
      done = λ ts l.
          c.loop-first.invariant.done ts
          (blank_step c.loop-first.rest.now c.tail-rest.result.now (slice_index c.loop-first.rest.now 0) ts c.tail-rest.ensures (sym (ap is_blank first) ∙ sym c.blank.ensures ∙ c.if-blank.true) l);
      begun = λ ts starts l.
          c.loop-first.invariant.begun ts starts
          (blank_begun c.args.text.now c.loop-first.rest.now c.tail-rest.result.now (slice_index c.loop-first.rest.now 0) ts starts c.tail-rest.ensures (sym (ap is_blank first) ∙ sym c.blank.ensures ∙ c.if-blank.true) l);
    }

pub loop-first-preserved : goal.loop-first-preserved
loop-first-preserved c =
    let e : token_at c.loop-first.rest.now ≡ Some (c.in-Some-2.token, c.in-Some-2.more.now) = sym c.in_ok-token.ensures ∙ ap view c.in-Some-2.is in
    record {
      text = search rules;
      within = let le = c.loop-first.invariant.within in let lt = shorter c.loop-first.rest.now c.in-Some-2.more.now c.in-Some-2.token e in omega arith;
      done = λ ts l.
          subst (λ z. Lexes c.args.text.now z) (sym (ap (λ z. z ++ ts) c.in_ok-push-in-Some-2.ensures.ok ∙ append_assoc c.loop-first.tokens (c.in-Some-2.token ∷ []) ts))
          (c.loop-first.invariant.done (c.in-Some-2.token ∷ ts) (token_step c.loop-first.rest.now c.in-Some-2.more.now c.in-Some-2.token ts e l));
      begun = λ ts starts l.
          let pushed = c.in_ok-push.ensures.items in
          subst (λ (z : List Token). BeginAt c.args.text.now c.args.text.now z (c.push.new.self.items ++ starts)) (sym (ap (λ z. z ++ ts) c.in_ok-push-in-Some-2.ensures.ok ∙ append_assoc c.loop-first.tokens (c.in-Some-2.token ∷ []) ts))
          (subst (λ (z : List ℕ). BeginAt c.args.text.now c.args.text.now (c.loop-first.tokens ++ c.in-Some-2.token ∷ ts) z) (sym (ap (λ (z : List ℕ). z ++ starts) pushed ∙ append_assoc c.loop-first.starts.items ((length c.args.text.now - length c.loop-first.rest.now) ∷ []) starts))
          (c.loop-first.invariant.begun (c.in-Some-2.token ∷ ts) ((length c.args.text.now - length c.loop-first.rest.now) ∷ starts)
          (token_begun c.args.text.now c.loop-first.rest.now c.in-Some-2.more.now c.in-Some-2.token ts starts e l)));
    }

pub loop-first-smaller : goal.loop-first-smaller
loop-first-smaller c =
    let e : token_at c.loop-first.rest.now ≡ Some (c.in-Some-2.token, c.in-Some-2.more.now) = sym c.in_ok-token.ensures ∙ ap view c.in-Some-2.is in
    shorter c.loop-first.rest.now c.in-Some-2.more.now c.in-Some-2.token e

pub returns-in-None-clause-tokens : goal.returns-in-None-clause-tokens
returns-in-None-clause-tokens c =
    let item = c.in-Some.ensures.item in
    let first = first_of c.as_bytes.result.now c.loop-first.rest.now c.in-Some.first.now item.3.0 item.3.1 c.as_bytes.ensures.value in
    subst (λ z. Lexes c.args.text.now z) (sym c.in_ok-push-in-None.ensures.ok)
    (c.loop-first.invariant.done (token.Unreadable ∷ [])
    (end_step c.loop-first.rest.now (drop 1 c.loop-first.rest.now) c.in-Some.first.now first (sym c.blank.ensures ∙ c.if-blank.false) (sym c.in_ok-token.ensures ∙ ap view c.in-None.is)))

pub returns-in-None-clause-starts : goal.returns-in-None-clause-starts
returns-in-None-clause-starts c =
    let item = c.in-Some.ensures.item in
    let first = first_of c.as_bytes.result.now c.loop-first.rest.now c.in-Some.first.now item.3.0 item.3.1 c.as_bytes.ensures.value in
    let none = end_step c.loop-first.rest.now (drop 1 c.loop-first.rest.now) c.in-Some.first.now first (sym c.blank.ensures ∙ c.if-blank.false) (sym c.in_ok-token.ensures ∙ ap view c.in-None.is) in
    subst (λ (z : List Token). BeginAt c.args.text.now c.args.text.now z c.push.new.self.items) (sym c.in_ok-push-in-None.ensures.ok)
    (subst (λ (z : List ℕ). BeginAt c.args.text.now c.args.text.now (c.loop-first.tokens ++ token.Unreadable ∷ []) z) (sym c.in_ok-push.ensures.items)
    (c.loop-first.invariant.begun (token.Unreadable ∷ []) ((length c.args.text.now - length c.loop-first.rest.now) ∷ []) (refusals.unreadable c.loop-first.rest.now none)))

pub returns-clause-tokens : goal.returns-clause-tokens
returns-clause-tokens c =
    let none : length c.loop-first.rest.now ≡ 0 = empty_of c.as_bytes.result.now c.loop-first.rest.now c.in_default.ensures.item.3 c.as_bytes.ensures.value in
    subst (λ (z : List Token). Lexes c.args.text.now z) (none_after {A = Token} c.loop-first.tokens) (c.loop-first.invariant.done [] (nothing_step c.loop-first.rest.now none))

pub returns-clause-starts : goal.returns-clause-starts
returns-clause-starts c =
    let none : length c.loop-first.rest.now ≡ 0 = empty_of c.as_bytes.result.now c.loop-first.rest.now c.in_default.ensures.item.3 c.as_bytes.ensures.value in
    subst (λ (z : List Token). BeginAt c.args.text.now c.args.text.now z c.loop-first.starts.items) (none_after {A = Token} c.loop-first.tokens)
    (subst (λ (z : List ℕ). BeginAt c.args.text.now c.args.text.now (c.loop-first.tokens ++ []) z) (none_after {A = ℕ} c.loop-first.starts.items)
    (c.loop-first.invariant.begun [] [] (nothing_begun c.args.text.now c.loop-first.rest.now none)))
