-- Each token is found, and a text has one list of tokens.
use Rattle.std.proofs.Common.{◌≡◌, ◌≢◌, inl, inr, ℕ, ℤ, suc, ◌+◌, ◌-◌, ◌<◌, ◌≤◌, ◌&&◌, List, [], ◌∷◌, ◌++◌, Bool, true, false, cond, take, drop, length, length-append, Some, None, refl, sym, ap, ◌∙◌, subst, arith, append_assoc, get_or}
use Rattle.std.specs.Prelude.{◌==◌, ◌||◌, nat_lt, FitsSigned}
use Rattle.std.specs.Int.{w64}
use Rattle.std.specs.Char.{is_ascii_alphabetic, is_ascii_digit}
use Rattle.std.specs.List.{prefix_len, list_all}
use Rattle.std.specs.Str.{all_ascii_digits}
use Rattle.std.specs.Str.Parse.{IsNumeral, AllDigits, without_leading_sign, signed_digits_value}
use Rattle.std.proofs.lemmas.Bool.Decides.{nat_tests}
use Rattle.std.proofs.Math.Seq.{drop-append_seam}
use Rattle.std.proofs.lemmas.Bool.{and_parts, cases_Bool, eqb-true}
use Rattle.rj_condition.specs.declared.decimal.DecimalLiteral.{DecimalLiteral}
use Rattle.rj_condition.specs.declared.token.Sign.{Sign}
use Rattle.rj_condition.specs.declared.token.Sign.TheVariants as sign
use Rattle.rj_condition.specs.declared.token.Token.{Token}
use Rattle.rj_condition.specs.declared.token.Token.TheVariants as token
use Rattle.rj_condition.specs.Tokens.{is_blank, is_name_byte, begins, begins_fraction, doubled, in_quotes, sign_text, IsSign, IsIdentifier, IsNamed, IsDecimal, IsSpelled, EndsSign, Ends, IsToken}
use Rattle.rj_condition.specs.Lexing.{Lexes, nothing, blank, next, unreadable}
use Rattle.rj_condition.specs.Refusals.{BeginAt}
use Rattle.rj_condition.specs.Refusals as refusals
use Rattle.rj_condition.specs.Internal.Scanning.{quoted, text_at, delimited_at, word_at, named, number_len, is_sign_of_number, is_integer, judged, as_integer, decimal_parts, with_rest, judged_decimal, fraction_at, as_decimal, number_behind, number_at, less_at, greater_at, not_equal_at, mark_of, sign_at, as_sign, begins_number, token_at}
use Rattle.rj_condition.proofs.Runs.{run_is}
use Rattle.rj_condition.proofs.Words.{keyword_word, name_word, take_seam}
use Rattle.rj_condition.proofs.Quotes.{some_same, quoted_complete}
use Rattle.rj_condition.proofs.Integers.{integer-Decides, digits-Decides}
use Rattle.rj_condition.proofs.DecimalParts.{parts_found}
use Rattle.rj_condition.proofs.TokenLaws.{token_sound}

-- words
letter_at : (b : ℕ) (bs : List ℕ) → is_ascii_alphabetic b ≡ true → token_at (b ∷ bs) ≡ Some (word_at (b ∷ bs))
unfolding token_at
letter_at b bs e = ap (λ c. cond c (Some (word_at (b ∷ bs)))
    (cond (b == 39) (text_at (quoted 39 bs)) (cond (b == 34) (delimited_at (quoted 34 bs)) (cond (begins_number b) (number_at (b ∷ bs)) (as_sign (sign_at (b ∷ bs))))))) e

word_found : (w rest : List ℕ) (t : Token) → IsIdentifier w → word_at (w ++ rest) ≡ (t, rest) → token_at (w ++ rest) ≡ Some (t, rest)
word_found [] rest t name e = absurd name
word_found (b ∷ w) rest t name e = letter_at b (w ++ rest) name.0 ∙ ap Some e

-- quoted texts
literal_found : (t rest : List ℕ) → begins (λ b. b == 39) rest ≡ false → token_at (in_quotes 39 t ++ rest) ≡ Some (token.Text t, rest)
unfolding token_at
literal_found t rest e = ap (λ z. text_at (quoted 39 z)) (append_assoc (doubled 39 t) (39 ∷ []) rest) ∙ ap text_at (quoted_complete 39 t rest e)

filled : (t : List ℕ) → t ≢ [] → nat_lt 0 (length t) ≡ true
filled [] n = absurd (n refl)
filled (b ∷ t) n = grind (arith, nat_tests)

delimited_found : (t rest : List ℕ) → t ≢ [] → begins (λ b. b == 34) rest ≡ false → token_at (in_quotes 34 t ++ rest) ≡ Some (named true t, rest)
unfolding token_at
delimited_found t rest n e =
    ap (λ z. delimited_at (quoted 34 z)) (append_assoc (doubled 34 t) (34 ∷ []) rest)
    ∙ ap delimited_at (quoted_complete 34 t rest e)
    ∙ ap (λ c. cond c (Some (named true t, rest)) None) (filled t n)

-- numbers
not_letter : (b : ℕ) → begins_number b ≡ true → (is_ascii_alphabetic b ≡ false) × ((b == 39) ≡ false) × ((b == 34) ≡ false)
not_letter b e = (grind (arith, nat_tests), grind (arith, nat_tests), grind (arith, nat_tests))

number_first : (b : ℕ) (bs : List ℕ) → begins_number b ≡ true → token_at (b ∷ bs) ≡ number_at (b ∷ bs)
unfolding token_at
number_first b bs e =
    let n = not_letter b e in
    ap (λ c. cond c (Some (word_at (b ∷ bs)))
    (cond (b == 39) (text_at (quoted 39 bs)) (cond (b == 34) (delimited_at (quoted 34 bs)) (cond (begins_number b) (number_at (b ∷ bs)) (as_sign (sign_at (b ∷ bs))))))) n.0
    ∙ ap (λ c. cond c (text_at (quoted 39 bs)) (cond (b == 34) (delimited_at (quoted 34 bs)) (cond (begins_number b) (number_at (b ∷ bs)) (as_sign (sign_at (b ∷ bs)))))) n.1
    ∙ ap (λ c. cond c (delimited_at (quoted 34 bs)) (cond (begins_number b) (number_at (b ∷ bs)) (as_sign (sign_at (b ∷ bs))))) n.2
    ∙ ap (λ c. cond c (number_at (b ∷ bs)) (as_sign (sign_at (b ∷ bs)))) e

digits_all : (ds : List ℕ) → all_ascii_digits ds ≡ true → list_all is_ascii_digit ds ≡ true
digits_all [] e = refl
digits_all (d ∷ ds) e = let h = and_parts (is_ascii_digit d) (all_ascii_digits ds) e in
    ap (λ c. c && list_all is_ascii_digit ds) h.0 ∙ digits_all ds h.1

no_digit : (rest : List ℕ) → begins is_name_byte rest ≡ false → begins is_ascii_digit rest ≡ false
no_digit [] e = refl
no_digit (b ∷ rest) e = byte b e
  where
    byte : (b : ℕ) → is_name_byte b ≡ false → is_ascii_digit b ≡ false
    byte b e = grind (arith, nat_tests)

-- the length of a number, by the first byte
signed_len : (b : ℕ) (ds rest : List ℕ) → is_sign_of_number b ≡ true → list_all is_ascii_digit ds ≡ true → begins is_ascii_digit rest ≡ false → number_len (b ∷ (ds ++ rest)) ≡ length (b ∷ ds)
unfolding number_len
signed_len b ds rest e d n =
    ap (λ c. cond c (1 + prefix_len is_ascii_digit (ds ++ rest)) (prefix_len is_ascii_digit (b ∷ (ds ++ rest)))) e
    ∙ one (prefix_len is_ascii_digit (ds ++ rest)) (length ds) (run_is is_ascii_digit ds rest d n)
  where
    one : (i j : ℕ) → i ≡ j → 1 + i ≡ suc j
    one i j e = omega arith

plain_len : (b : ℕ) (ds rest : List ℕ) → is_sign_of_number b ≡ false → list_all is_ascii_digit (b ∷ ds) ≡ true → begins is_ascii_digit rest ≡ false → number_len (b ∷ (ds ++ rest)) ≡ length (b ∷ ds)
unfolding number_len
plain_len b ds rest e d n =
    ap (λ c. cond c (1 + prefix_len is_ascii_digit (ds ++ rest)) (prefix_len is_ascii_digit (b ∷ (ds ++ rest)))) e
    ∙ run_is is_ascii_digit (b ∷ ds) rest d n

unsigned : (b : ℕ) (ds : List ℕ) → is_sign_of_number b ≡ true → without_leading_sign (b ∷ ds) ≡ ds
unsigned b ds e = elim (cases_Bool (b == 45)) [
  | inl h ↦ ap (λ c. cond c ds (drop (cond (b == 43) 1 0) (b ∷ ds))) h
  | inr h ↦ ap (λ c. cond c ds (drop (cond (b == 43) 1 0) (b ∷ ds))) h ∙ ap (λ c. drop (cond c 1 0) (b ∷ ds)) (plus b e h)
]
  where
    plus : (b : ℕ) → is_sign_of_number b ≡ true → (b == 45) ≡ false → (b == 43) ≡ true
    plus b e h = grind (arith, nat_tests)

no_sign : (b : ℕ) (ds : List ℕ) → is_sign_of_number b ≡ false → without_leading_sign (b ∷ ds) ≡ b ∷ ds
no_sign b ds e = ap (λ c. cond c ds (drop (cond (b == 43) 1 0) (b ∷ ds))) (minus b e) ∙ ap (λ c. drop (cond c 1 0) (b ∷ ds)) (plus b e)
  where
    minus : (b : ℕ) → is_sign_of_number b ≡ false → (b == 45) ≡ false
    minus b e = grind (arith, nat_tests)

    plus : (b : ℕ) → is_sign_of_number b ≡ false → (b == 43) ≡ false
    plus b e = grind (arith, nat_tests)

-- what the number's form says of its first byte and of its length
abbrev Measured : List ℕ → List ℕ → Type 0
Measured [] rest = ⊥
Measured (b ∷ ds) rest = (begins_number b ≡ true) × (number_len (b ∷ (ds ++ rest)) ≡ length (b ∷ ds))

measured : (w rest : List ℕ) → IsNumeral 10 (without_leading_sign w) → begins is_ascii_digit rest ≡ false → Measured w rest
measured [] rest n e = absurd (omega (arith, n.0))
measured (b ∷ ds) rest n e = elim (cases_Bool (is_sign_of_number b)) [
  | inl h ↦
      let digits = digits_all ds ((digits-Decides ds).1 (let P : List ℕ → Type 0 = AllDigits 10 in subst P (unsigned b ds h) n.1)) in
      (signs b h, signed_len b ds rest h digits e)
  | inr h ↦
      let digits = digits_all (b ∷ ds) ((digits-Decides (b ∷ ds)).1 (let P : List ℕ → Type 0 = AllDigits 10 in subst P (no_sign b ds h) n.1)) in
      (digit b (and_parts (is_ascii_digit b) (list_all is_ascii_digit ds) digits).0, plain_len b ds rest h digits e)
]
  where
    signs : (b : ℕ) → is_sign_of_number b ≡ true → begins_number b ≡ true
    signs b e = grind (arith, nat_tests)

    digit : (b : ℕ) → is_ascii_digit b ≡ true → begins_number b ≡ true
    digit b e = grind (arith, nat_tests)

-- a number, by its digits and what stands behind them
cut_behind_digits : (w rest : List ℕ) → number_len (w ++ rest) ≡ length w → number_at (w ++ rest) ≡ number_behind w rest
unfolding number_at
cut_behind_digits w rest len =
    ap (λ i. number_behind (take i (w ++ rest)) (drop i (w ++ rest))) len
    ∙ ap (λ y. number_behind y (drop (length w) (w ++ rest))) (take_seam w rest)
    ∙ ap (number_behind w) (drop-append_seam w rest)

number_found : (w rest : List ℕ) → IsNumeral 10 (without_leading_sign w) → begins is_ascii_digit rest ≡ false → token_at (w ++ rest) ≡ number_behind w rest
number_found w rest n e = by_length w (measured w rest n e)
  where
    by_length : (w : List ℕ) → Measured w rest → token_at (w ++ rest) ≡ number_behind w rest
    by_length [] m = absurd m
    by_length (b ∷ ds) m = number_first b (ds ++ rest) m.0 ∙ cut_behind_digits (b ∷ ds) rest m.1

integer_found : (w rest : List ℕ) (z : ℤ) → IsNumeral 10 (without_leading_sign w) → FitsSigned w64 z → z ≡ signed_digits_value 10 w → begins is_name_byte rest ≡ false → begins_fraction rest ≡ false →
    token_at (w ++ rest) ≡ Some (token.Integer z, rest)
integer_found w rest z n fits value ends point =
    let P : ℤ → Type 0 = FitsSigned w64 in
    let is : is_integer w ≡ true = (integer-Decides w).1 (n, subst P value fits) in
    number_found w rest n (no_digit rest ends)
    ∙ ap (λ c. cond c (as_decimal (fraction_at w (drop 1 rest))) (as_integer (judged w rest))) point
    ∙ ap (λ c. as_integer (cond c None (cond (is_integer w) (Some (signed_digits_value 10 w, rest)) None))) ends
    ∙ ap (λ c. as_integer (cond c (Some (signed_digits_value 10 w, rest)) None)) is
    ∙ ap (λ (y : ℤ). Some (token.Integer y, rest)) (sym value)

-- the digits behind a point
first_digit : (after rest : List ℕ) → 0 < length after → list_all is_ascii_digit after ≡ true → begins is_ascii_digit (after ++ rest) ≡ true
first_digit [] rest lt e = absurd (omega (arith, lt))
first_digit (b ∷ after) rest lt e = (and_parts (is_ascii_digit b) (list_all is_ascii_digit after) e).0

fraction_found : (before after rest : List ℕ) (d : DecimalLiteral) → list_all is_ascii_digit after ≡ true → begins is_name_byte rest ≡ false → decimal_parts before after ≡ Some d →
    fraction_at before (after ++ rest) ≡ Some (d, rest)
unfolding fraction_at
fraction_found before after rest d digits ends is =
    ap (λ i. judged_decimal before (take i (after ++ rest)) (drop i (after ++ rest))) (run_is is_ascii_digit after rest digits (no_digit rest ends))
    ∙ ap (λ y. judged_decimal before y (drop (length after) (after ++ rest))) (take_seam after rest)
    ∙ ap (judged_decimal before after) (drop-append_seam after rest)
    ∙ ap (λ c. cond c None (with_rest (decimal_parts before after) rest)) ends
    ∙ ap (λ o. with_rest o rest) is

decimal_found : (d : DecimalLiteral) (w rest : List ℕ) → IsDecimal d w → begins is_name_byte rest ≡ false → token_at (w ++ rest) ≡ Some (token.Decimal d, rest)
decimal_found d w rest h ends =
    let before = h.0 in
    let after = h.1 in
    let digits = digits_all after ((digits-Decides after).1 h.4.1) in
    ap (λ z. token_at (z ++ rest)) h.2
    ∙ ap token_at (append_assoc before (46 ∷ after) rest)
    ∙ number_found before (46 ∷ (after ++ rest)) h.3 refl
    ∙ ap (λ c. cond c (as_decimal (fraction_at before (after ++ rest))) (as_integer (judged before (46 ∷ (after ++ rest))))) (first_digit after rest h.4.0 digits)
    ∙ ap as_decimal (fraction_found before after rest d digits ends (parts_found before after d h.3 h.4 h.5 h.6 h.7))

-- signs
sign_found : (s : Sign) (rest : List ℕ) → EndsSign s rest → token_at (sign_text s ++ rest) ≡ Some (token.Sign s, rest)
unfolding token_at sign_at less_at greater_at mark_of
sign_found sign.Equal rest e = refl
sign_found sign.NotEqual rest e = refl
sign_found sign.Less [] e = refl
sign_found sign.Less (b ∷ rest) e =
    ap (λ c. as_sign (Some (cond c (sign.NotEqual, rest) (cond (b == 61) (sign.LessOrEqual, rest) (sign.Less, b ∷ rest))))) (first b e)
    ∙ ap (λ c. as_sign (Some (cond c (sign.LessOrEqual, rest) (sign.Less, b ∷ rest)))) (second b e)
  where
    first : (b : ℕ) → (b == 61 || b == 62) ≡ false → (b == 62) ≡ false
    first b e = grind (arith, nat_tests)

    second : (b : ℕ) → (b == 61 || b == 62) ≡ false → (b == 61) ≡ false
    second b e = grind (arith, nat_tests)
sign_found sign.Greater [] e = refl
sign_found sign.Greater (b ∷ rest) e = ap (λ c. as_sign (Some (cond c (sign.GreaterOrEqual, rest) (sign.Greater, b ∷ rest)))) e
sign_found sign.LessOrEqual rest e = refl
sign_found sign.GreaterOrEqual rest e = refl
sign_found sign.Open rest e = refl
sign_found sign.Close rest e = refl
sign_found sign.Comma rest e = refl
sign_found sign.Point rest e = refl

not_equal_found : (rest : List ℕ) → token_at (33 ∷ 61 ∷ rest) ≡ Some (token.Sign sign.NotEqual, rest)
unfolding token_at sign_at not_equal_at
not_equal_found rest = refl

written_found : (s : Sign) (w rest : List ℕ) → IsSign s w → EndsSign s rest → token_at (w ++ rest) ≡ Some (token.Sign s, rest)
written_found s w rest k e = elim k [
  | inl h ↦ ap (λ z. token_at (z ++ rest)) h ∙ sign_found s rest e
  | inr h ↦ ap (λ z. token_at (z ++ rest)) h.1 ∙ not_equal_found rest ∙ ap (λ (z : Sign). Some (token.Sign z, rest)) (sym h.0)
]

-- each token
name_found : (delimited : Bool) (text w rest : List ℕ) → IsNamed delimited text w → begins (cond delimited (λ b. b == 34) is_name_byte) rest ≡ false
    → token_at (w ++ rest) ≡ Some (named delimited text, rest)
name_found true text w rest s e = ap (λ z. token_at (z ++ rest)) s.0 ∙ delimited_found text rest s.1 e
name_found false text w rest s e = word_found w rest (named false w) s.1 (name_word w rest s.1 s.2 e) ∙ ap (λ z. Some (named false z, rest)) s.0

spelled_found : (t : Token) (w rest : List ℕ) → IsSpelled t w → Ends t rest → token_at (w ++ rest) ≡ Some (t, rest)
spelled_found (token.Keyword k) w rest s e = word_found w rest (token.Keyword k) s.0 (keyword_word w rest k s.0 s.1 e)
spelled_found (token.Name n) w rest s e = name_found n.delimited n.text w rest s e
spelled_found (token.Integer z) w rest s e = integer_found w rest z s.0 s.1 s.2 e.0 e.1
spelled_found (token.Decimal d) w rest s e = decimal_found d w rest s e
spelled_found (token.Text t) w rest s e = ap (λ z. token_at (z ++ rest)) s ∙ literal_found t rest e
spelled_found (token.Sign k) w rest s e = written_found k w rest s e
spelled_found token.Unreadable w rest s e = absurd s

pub token_found : (bytes : List ℕ) (t : Token) (rest : List ℕ) → IsToken bytes t rest → token_at bytes ≡ Some (t, rest)
token_found bytes t rest h = ap token_at h.1 ∙ spelled_found t h.0 rest h.2 h.3

-- white space is no token, nor is the end
blank_none : (b : ℕ) (bs : List ℕ) → is_blank b ≡ true → token_at (b ∷ bs) ≡ None
unfolding token_at sign_at mark_of
blank_none b bs e = elim (cases_Bool (b == 32)) [
  | inl h ↦ ap (λ z. token_at (z ∷ bs)) (eqb-true b 32 h)
  | inr h ↦ elim (cases_Bool (b == 9)) [
    | inl k ↦ ap (λ z. token_at (z ∷ bs)) (eqb-true b 9 k)
    | inr k ↦ elim (cases_Bool (b == 10)) [
      | inl l ↦ ap (λ z. token_at (z ∷ bs)) (eqb-true b 10 l)
      | inr l ↦ ap (λ z. token_at (z ∷ bs)) (eqb-true b 13 (last b e h k l))
    ]
  ]
]
  where
    last : (b : ℕ) → is_blank b ≡ true → (b == 32) ≡ false → (b == 9) ≡ false → (b == 10) ≡ false → (b == 13) ≡ true
    last b e h k l = grind (arith, nat_tests)

nothing_none : token_at [] ≡ None
unfolding token_at
nothing_none = refl

-- a text has one list of tokens
pub one_reading : (bytes : List ℕ) (ts us : List Token) → Lexes bytes ts → Lexes bytes us → ts ≡ us
one_reading _ _ _ nothing nothing = refl
one_reading _ _ _ nothing (next bytes t rest ts h l) = let e = token_found [] t rest h in let f = nothing_none in cc
one_reading _ _ _ (blank b bs ts e l) (blank b' bs' us e' l') = one_reading bs ts us l l'
one_reading _ _ _ (blank b bs ts e l) (next bytes t rest us h l') = let f = token_found (b ∷ bs) t rest h in let g = blank_none b bs e in cc
one_reading _ _ _ (blank b bs ts e l) (unreadable b' bs' e' n) = cc
one_reading _ _ _ (next bytes t rest ts h l) nothing = let e = token_found [] t rest h in let f = nothing_none in cc
one_reading _ _ _ (next bytes t rest ts h l) (blank b bs us e l') = let f = token_found (b ∷ bs) t rest h in let g = blank_none b bs e in cc
one_reading _ _ _ (next bytes t rest ts h l) (next bytes' t' rest' us h' l') =
    let q = some_same _ _ (sym (token_found bytes t rest h) ∙ token_found bytes t' rest' h') in
    let r : rest ≡ rest' = ap (λ (z : Token × List ℕ). z.1) q in
    let s : t ≡ t' = ap (λ (z : Token × List ℕ). z.0) q in
    ap (λ z. z ∷ ts) s ∙ ap (λ z. t' ∷ z) (one_reading rest ts us l (subst (λ z. Lexes z us) (sym r) l'))
one_reading _ _ _ (next bytes t rest ts h l) (unreadable b bs e n) = absurd (n t rest h)
one_reading _ _ _ (unreadable b bs e n) (blank b' bs' us e' l) = cc
one_reading _ _ _ (unreadable b bs e n) (next bytes t rest us h l) = absurd (n t rest h)
one_reading _ _ _ (unreadable b bs e n) (unreadable b' bs' e' n') = refl

-- the steps of a reader: what is left, and what it becomes
none_here : (b : ℕ) (bs : List ℕ) → token_at (b ∷ bs) ≡ None → (t : Token) (rest : List ℕ) → IsToken (b ∷ bs) t rest → ⊥
none_here b bs e t rest h = let f = token_found (b ∷ bs) t rest h in cc

pub blank_step : (rest after : List ℕ) (b : ℕ) (ts : List Token) → rest ≡ b ∷ after → is_blank b ≡ true → Lexes after ts → Lexes rest ts
blank_step rest after b ts e h l = subst (λ z. Lexes z ts) (sym e) (blank b after ts h l)

pub token_step : (rest more : List ℕ) (t : Token) (ts : List Token) → token_at rest ≡ Some (t, more) → Lexes more ts → Lexes rest (t ∷ ts)
token_step rest more t ts e l = next rest t more ts (token_sound rest (t, more) e) l

pub end_step : (rest after : List ℕ) (b : ℕ) → rest ≡ b ∷ after → is_blank b ≡ false → token_at rest ≡ None → Lexes rest (token.Unreadable ∷ [])
end_step rest after b e h n = subst (λ z. Lexes z (token.Unreadable ∷ [])) (sym e) (unreadable b after h (none_here b after (ap token_at (sym e) ∙ n)))

-- the same, with the bytes at which tokens begin
pub blank_begun : (text rest after : List ℕ) (b : ℕ) (ts : List Token) (starts : List ℕ) → rest ≡ b ∷ after → is_blank b ≡ true → BeginAt text after ts starts
    → BeginAt text rest ts starts
blank_begun text rest after b ts starts e h l = subst (λ z. BeginAt text z ts starts) (sym e) (refusals.blank b after ts starts h l)

pub token_begun : (text rest more : List ℕ) (t : Token) (ts : List Token) (starts : List ℕ) → token_at rest ≡ Some (t, more) → BeginAt text more ts starts
    → BeginAt text rest (t ∷ ts) ((length text - length rest) ∷ starts)
token_begun text rest more t ts starts e l = refusals.next rest t more ts starts (token_sound rest (t, more) e) l

pub nothing_begun : (text rest : List ℕ) → length rest ≡ 0 → BeginAt text rest [] []
nothing_begun text [] e = refusals.nothing
nothing_begun text (b ∷ rest) e = absurd (omega arith)

pub none_after : {A : Type 0} (xs : List A) → xs ++ [] ≡ xs
none_after [] = refl
none_after (x ∷ xs) = ap (λ z. x ∷ z) (none_after xs)

-- the first byte of a text that has one
pub first_of : (bytes rest : List ℕ) (b : ℕ) → 0 < length bytes → ((d : ℕ) → b ≡ get_or bytes 0 d) → bytes ≡ rest → rest ≡ b ∷ drop 1 rest
first_of [] rest b lt e same = absurd (omega arith)
first_of (x ∷ bytes) rest b lt e same = sym same ∙ ap (λ z. z ∷ bytes) (sym (e 0)) ∙ ap (λ (z : List ℕ). b ∷ drop 1 z) same

pub first_byte : (bytes rest : List ℕ) (b : ℕ) → ((d : ℕ) → b ≡ get_or bytes 0 d) → bytes ≡ rest → b ≡ get_or rest 0 0
first_byte bytes rest b e same = e 0 ∙ ap (λ z. get_or z 0 0) same

pub empty_of : (bytes rest : List ℕ) → length bytes ≤ 0 → bytes ≡ rest → length rest ≡ 0
empty_of bytes rest le same = omega (arith, ap length same)

pub nothing_step : (rest : List ℕ) → length rest ≡ 0 → Lexes rest []
nothing_step [] e = nothing
nothing_step (b ∷ rest) e = absurd (omega arith)

-- a token takes a byte
pub shorter : (rest more : List ℕ) (t : Token) → token_at rest ≡ Some (t, more) → length more < length rest
shorter rest more t e = let h = token_sound rest (t, more) e in spelled_shorter t h.0 h.2 rest more h.1
  where
    taken : (w rest more : List ℕ) → 0 < length w → rest ≡ w ++ more → length more < length rest
    taken w rest more lt e = omega (arith, ap length e, length-append w more, lt)

    word_taken : (w : List ℕ) → IsIdentifier w → 0 < length w
    word_taken [] n = absurd n
    word_taken (b ∷ w) n = omega arith

    quotes_taken : (q : ℕ) (t w : List ℕ) → w ≡ in_quotes q t → 0 < length w
    quotes_taken q t w e = omega (arith, ap length e)

    name_taken : (delimited : Bool) (text w : List ℕ) → IsNamed delimited text w → 0 < length w
    name_taken true text w s = quotes_taken 34 text w s.0
    name_taken false text w s = word_taken w s.1

    number_taken : (w : List ℕ) → IsNumeral 10 (without_leading_sign w) → 0 < length w
    number_taken [] n = absurd (omega (arith, n.0))
    number_taken (b ∷ w) n = omega arith

    decimal_taken : (w before after : List ℕ) → w ≡ before ++ 46 ∷ after → 0 < length w
    decimal_taken w before after e = omega (arith, ap length e, length-append before (46 ∷ after))

    sign_taken : (s : Sign) → 0 < length (sign_text s)
    sign_taken sign.Equal = omega arith
    sign_taken sign.NotEqual = omega arith
    sign_taken sign.Less = omega arith
    sign_taken sign.Greater = omega arith
    sign_taken sign.LessOrEqual = omega arith
    sign_taken sign.GreaterOrEqual = omega arith
    sign_taken sign.Open = omega arith
    sign_taken sign.Close = omega arith
    sign_taken sign.Comma = omega arith
    sign_taken sign.Point = omega arith

    written_taken : (s : Sign) (w : List ℕ) → IsSign s w → 0 < length w
    written_taken s w k = elim k [
      | inl h ↦ let P : List ℕ → Type 0 = λ z. 0 < length z in subst P (sym h) (sign_taken s)
      | inr h ↦ omega (arith, ap length h.1)
    ]

    spelled_shorter : (t : Token) (w : List ℕ) → IsSpelled t w → (rest more : List ℕ) → rest ≡ w ++ more → length more < length rest
    spelled_shorter (token.Keyword k) w s rest more e = taken w rest more (word_taken w s.0) e
    spelled_shorter (token.Name n) w s rest more e = taken w rest more (name_taken n.delimited n.text w s) e
    spelled_shorter (token.Integer z) w s rest more e = taken w rest more (number_taken w s.0) e
    spelled_shorter (token.Decimal d) w s rest more e = taken w rest more (decimal_taken w s.0 s.1 s.2) e
    spelled_shorter (token.Text l) w s rest more e = taken w rest more (quotes_taken 39 l w s) e
    spelled_shorter (token.Sign k) w s rest more e = taken w rest more (written_taken k w s) e
    spelled_shorter token.Unreadable w s rest more e = absurd s
