-- What stands behind a keyword, a sign or an operator.
use Rattle.std.proofs.Common.{◌≡◌, inl, inr, ℕ, List, [], ◌∷◌, Bool, Option, Some, None, option_map, true, cond, refl, sym, ap, ◌∙◌}
use Rattle.std.specs.List.{find}
use Rattle.std.specs.Str.{bytes_eq, str_to_ascii_lowercase}
use Rattle.std.proofs.lemmas.Slice.Eq.{bytes_eq-Decides}
use Rattle.rj_condition.proofs.Quotes.{some_same}
use Rattle.rj_condition.specs.declared.token.Keyword.{Keyword}
use Rattle.rj_condition.specs.declared.token.Sign.{Sign}
use Rattle.rj_condition.specs.declared.token.Sign.TheVariants as sign
use Rattle.rj_condition.specs.declared.token.Token.{Token}
use Rattle.rj_condition.specs.declared.token.Token.TheVariants as token
use Rattle.rj_condition.specs.declared.tree.Comparison.{Comparison}
use Rattle.rj_condition.specs.declared.tree.Comparison.TheVariants as comparison
use Rattle.rj_condition.specs.Tokens.{spelling_of, sign_text}
use Rattle.rj_condition.specs.Internal.Scanning.{all_keywords}
use Rattle.rj_condition.specs.Grammar.{sign_of}
use Rattle.rj_condition.specs.Internal.Reading.{same_keyword, same_sign, after, behind, comparison_of, operator_at}
use Rattle.rj_condition.proofs.Words.{spelled_once}
use Rattle.rj_condition.proofs.TokenLaws.{chosen}

keyword_is : (j k : Keyword) → same_keyword j k ≡ true → j ≡ k
keyword_is j k e =
    let same : spelling_of j ≡ spelling_of k = (bytes_eq-Decides (spelling_of j) (spelling_of k)).0 e in
    some_same _ _
    (sym (spelled_once j) ∙ ap (λ (z : List ℕ). find (λ i. bytes_eq (str_to_ascii_lowercase z) (str_to_ascii_lowercase (spelling_of i))) all_keywords) same ∙ spelled_once k)

keyword_next : (k j : Keyword) (ts us : List Token) → cond (same_keyword j k) (Some ts) None ≡ Some us → token.Keyword j ∷ ts ≡ token.Keyword k ∷ us
keyword_next k j ts us e = elim (chosen (same_keyword j k) _ _ us e) [
  | inl h ↦ ap (λ (z : Keyword). token.Keyword z ∷ ts) (keyword_is j k h.0) ∙ ap (λ (z : List Token). token.Keyword k ∷ z) (some_same _ _ h.1)
  | inr h ↦ let f = h.1 in cc
]

pub after_next : (k : Keyword) (ts us : List Token) → after k ts ≡ Some us → ts ≡ token.Keyword k ∷ us
unfolding after
after_next k (token.Keyword j ∷ ts) us e = keyword_next k j ts us e
after_next k _ us e = cc

pub after_here : (k : Keyword) (us : List Token) → after k (token.Keyword k ∷ us) ≡ Some us
unfolding after
after_here k us = ap (λ (b : Bool). cond b (Some us) None) ((bytes_eq-Decides (spelling_of k) (spelling_of k)).1 refl)

-- signs
all_signs : List Sign
all_signs = sign.Equal ∷ sign.NotEqual ∷ sign.Less ∷ sign.Greater ∷ sign.LessOrEqual ∷ sign.GreaterOrEqual ∷ sign.Open ∷ sign.Close ∷ sign.Comma ∷ sign.Point ∷ []

-- no two signs are spelled alike
sign_once : (s : Sign) → find (λ r. bytes_eq (sign_text s) (sign_text r)) all_signs ≡ Some s
unfolding all_signs
sign_once sign.Equal = refl
sign_once sign.NotEqual = refl
sign_once sign.Less = refl
sign_once sign.Greater = refl
sign_once sign.LessOrEqual = refl
sign_once sign.GreaterOrEqual = refl
sign_once sign.Open = refl
sign_once sign.Close = refl
sign_once sign.Comma = refl
sign_once sign.Point = refl

sign_is : (r s : Sign) → same_sign r s ≡ true → r ≡ s
sign_is r s e =
    let same : sign_text r ≡ sign_text s = (bytes_eq-Decides (sign_text r) (sign_text s)).0 e in
    some_same _ _ (sym (sign_once r) ∙ ap (λ (z : List ℕ). find (λ i. bytes_eq z (sign_text i)) all_signs) same ∙ sign_once s)

sign_next : (s r : Sign) (ts us : List Token) → cond (same_sign r s) (Some ts) None ≡ Some us → token.Sign r ∷ ts ≡ token.Sign s ∷ us
sign_next s r ts us e = elim (chosen (same_sign r s) _ _ us e) [
  | inl h ↦ ap (λ (z : Sign). token.Sign z ∷ ts) (sign_is r s h.0) ∙ ap (λ (z : List Token). token.Sign s ∷ z) (some_same _ _ h.1)
  | inr h ↦ let f = h.1 in cc
]

pub behind_next : (s : Sign) (ts us : List Token) → behind s ts ≡ Some us → ts ≡ token.Sign s ∷ us
unfolding behind
behind_next s (token.Sign r ∷ ts) us e = sign_next s r ts us e
behind_next s _ us e = cc

pub behind_here : (s : Sign) (us : List Token) → behind s (token.Sign s ∷ us) ≡ Some us
unfolding behind
behind_here s us = ap (λ (b : Bool). cond b (Some us) None) ((bytes_eq-Decides (sign_text s) (sign_text s)).1 refl)

-- operators
comparison_is : (s : Sign) (op : Comparison) → comparison_of s ≡ Some op → s ≡ sign_of op
comparison_is sign.Equal op e = ap sign_of (some_same _ _ e)
comparison_is sign.NotEqual op e = ap sign_of (some_same _ _ e)
comparison_is sign.Less op e = ap sign_of (some_same _ _ e)
comparison_is sign.Greater op e = ap sign_of (some_same _ _ e)
comparison_is sign.LessOrEqual op e = ap sign_of (some_same _ _ e)
comparison_is sign.GreaterOrEqual op e = ap sign_of (some_same _ _ e)
comparison_is sign.Open op e = cc
comparison_is sign.Close op e = cc
comparison_is sign.Comma op e = cc
comparison_is sign.Point op e = cc

operator_of : (s : Sign) (ts : List Token) (p : Comparison × List Token) (o : Option Comparison) → comparison_of s ≡ o → option_map (λ op. (op, ts)) o ≡ Some p
    → token.Sign s ∷ ts ≡ token.Sign (sign_of p.0) ∷ p.1
operator_of s ts p (Some op) f e =
    ap (λ (z : Sign). token.Sign z ∷ ts) (comparison_is s op f) ∙ ap (λ (z : Comparison × List Token). token.Sign (sign_of z.0) ∷ z.1) (some_same _ _ e)
operator_of s ts p None f e = cc

pub operator_next : (ts : List Token) (p : Comparison × List Token) → operator_at ts ≡ Some p → ts ≡ token.Sign (sign_of p.0) ∷ p.1
unfolding operator_at
operator_next (token.Sign s ∷ ts) p e = operator_of s ts p (comparison_of s) refl e
operator_next _ p e = cc

pub operator_here : (op : Comparison) (ts : List Token) → operator_at (token.Sign (sign_of op) ∷ ts) ≡ Some (op, ts)
unfolding operator_at
operator_here comparison.Equal ts = refl
operator_here comparison.NotEqual ts = refl
operator_here comparison.Less ts = refl
operator_here comparison.Greater ts = refl
operator_here comparison.LessOrEqual ts = refl
operator_here comparison.GreaterOrEqual ts = refl

pub operator_no_point : (op : Comparison) (ts : List Token) → behind sign.Point (token.Sign (sign_of op) ∷ ts) ≡ None
unfolding behind
operator_no_point comparison.Equal ts = refl
operator_no_point comparison.NotEqual ts = refl
operator_no_point comparison.Less ts = refl
operator_no_point comparison.Greater ts = refl
operator_no_point comparison.LessOrEqual ts = refl
operator_no_point comparison.GreaterOrEqual ts = refl
