-- What the lexer finds is a token, and each token is found.
use Rattle.std.proofs.Common.{◌<◌, ◌≡◌, ◌≢◌, ◌⊎◌, inl, inr, ℕ, ℤ, List, [], ◌∷◌, ◌++◌, Bool, true, false, cond, take, drop, length, Option, Some, None, refl, sym, ap, ◌∙◌, subst, arith, append_assoc}
use Rattle.std.specs.Prelude.{◌==◌, ◌||◌, nat_lt}
use Rattle.std.specs.Char.{is_ascii_alphabetic, is_ascii_digit}
use Rattle.std.specs.List.{prefix_len}
use Rattle.std.proofs.lemmas.Bool.Decides.{nat_tests}
use Rattle.std.proofs.lemmas.List.{take-append-drop}
use Rattle.std.proofs.lemmas.Bool.{and_parts, cases_Bool, eqb-true}
use Rattle.rj_condition.specs.declared.decimal.DecimalLiteral.{DecimalLiteral}
use Rattle.rj_condition.specs.declared.token.Sign.{Sign}
use Rattle.rj_condition.specs.declared.token.Sign.TheVariants as sign
use Rattle.rj_condition.specs.declared.token.Token.{Token}
use Rattle.rj_condition.specs.declared.token.Token.TheVariants as token
use Rattle.rj_condition.specs.Tokens.{is_name_byte, begins, begins_fraction, doubled, in_quotes, sign_text, EndsSign, IsToken}
use Rattle.rj_condition.specs.Internal.Scanning.{quoted, text_at, delimited_at, number_len, is_integer, judged, as_integer, decimal_parts, with_rest, fraction_at, as_decimal, number_at, less_at, greater_at, not_equal_at, mark_of, as_mark, sign_at, as_sign, begins_number, token_at}
use Rattle.rj_condition.proofs.Runs.{len_in}
use Rattle.rj_condition.proofs.Words.{word_token}
use Rattle.rj_condition.proofs.Quotes.{some_same, quoted_sound}
use Rattle.rj_condition.proofs.Integers.{integer-Decides}
use Rattle.rj_condition.proofs.DecimalParts.{parts_sound}

-- which way a choice went
pub chosen : {A : Type 0} (b : Bool) (x y : Option A) (p : A) → cond b x y ≡ Some p → ((b ≡ true) × (x ≡ Some p)) ⊎ ((b ≡ false) × (y ≡ Some p))
chosen true x y p e = inl (refl, e)
chosen false x y p e = inr (refl, e)

-- signs
abbrev IsSignAt : List ℕ → Sign × List ℕ → Type 0
IsSignAt bs p = (bs ≡ sign_text p.0 ++ p.1) × EndsSign p.0 p.1

both_false : (b c : ℕ) → (b == 62) ≡ false → (b == 61) ≡ false → (b == 61 || b == 62) ≡ false
both_false b c e f = grind (arith, nat_tests)

less_sound : (bs : List ℕ) → IsSignAt (60 ∷ bs) (less_at bs)
unfolding less_at
less_sound [] = (refl, refl)
less_sound (b ∷ bs) = elim (cases_Bool (b == 62)) [
  | inl h ↦ subst (IsSignAt (60 ∷ b ∷ bs)) (sym (ap (λ c. cond c (sign.NotEqual, bs) (cond (b == 61) (sign.LessOrEqual, bs) (sign.Less, b ∷ bs))) h)) (ap (λ z. 60 ∷ z ∷ bs) (eqb-true b 62 h), tt)
  | inr h ↦ elim (cases_Bool (b == 61)) [
    | inl k ↦ subst (IsSignAt (60 ∷ b ∷ bs))
        (sym (ap (λ c. cond c (sign.NotEqual, bs) (cond (b == 61) (sign.LessOrEqual, bs) (sign.Less, b ∷ bs))) h ∙ ap (λ c. cond c (sign.LessOrEqual, bs) (sign.Less, b ∷ bs)) k))
        (ap (λ z. 60 ∷ z ∷ bs) (eqb-true b 61 k), tt)
    | inr k ↦ subst (IsSignAt (60 ∷ b ∷ bs))
        (sym (ap (λ c. cond c (sign.NotEqual, bs) (cond (b == 61) (sign.LessOrEqual, bs) (sign.Less, b ∷ bs))) h ∙ ap (λ c. cond c (sign.LessOrEqual, bs) (sign.Less, b ∷ bs)) k))
        (refl, both_false b b h k)
  ]
]

greater_sound : (bs : List ℕ) → IsSignAt (62 ∷ bs) (greater_at bs)
unfolding greater_at
greater_sound [] = (refl, refl)
greater_sound (b ∷ bs) = elim (cases_Bool (b == 61)) [
  | inl h ↦ subst (IsSignAt (62 ∷ b ∷ bs)) (sym (ap (λ c. cond c (sign.GreaterOrEqual, bs) (sign.Greater, b ∷ bs)) h)) (ap (λ z. 62 ∷ z ∷ bs) (eqb-true b 61 h), tt)
  | inr h ↦ subst (IsSignAt (62 ∷ b ∷ bs)) (sym (ap (λ c. cond c (sign.GreaterOrEqual, bs) (sign.Greater, b ∷ bs)) h)) (refl, h)
]

mark_sound : (b : ℕ) (bs : List ℕ) (s : Sign) → mark_of b ≡ Some s → IsSignAt (b ∷ bs) (s, bs)
unfolding mark_of
mark_sound b bs s e = elim (chosen (b == 61) _ _ s e) [
  | inl h ↦ at b bs sign.Equal s 61 refl tt h.0 (some_same _ _ h.1)
  | inr h ↦ elim (chosen (b == 40) _ _ s h.1) [
    | inl h ↦ at b bs sign.Open s 40 refl tt h.0 (some_same _ _ h.1)
    | inr h ↦ elim (chosen (b == 41) _ _ s h.1) [
      | inl h ↦ at b bs sign.Close s 41 refl tt h.0 (some_same _ _ h.1)
      | inr h ↦ elim (chosen (b == 44) _ _ s h.1) [
        | inl h ↦ at b bs sign.Comma s 44 refl tt h.0 (some_same _ _ h.1)
        | inr h ↦ elim (chosen (b == 46) _ _ s h.1) [
          | inl h ↦ at b bs sign.Point s 46 refl tt h.0 (some_same _ _ h.1)
          | inr h ↦ let e = h.1 in cc
        ]
      ]
    ]
  ]
]
  where
    at : (b : ℕ) (bs : List ℕ) (r s : Sign) (c : ℕ) → sign_text r ≡ c ∷ [] → EndsSign r bs → (b == c) ≡ true → r ≡ s → IsSignAt (b ∷ bs) (s, bs)
    at b bs r s c spelled ends same is =
        subst (λ (z : Sign). IsSignAt (b ∷ bs) (z, bs)) is (ap (λ z. z ∷ bs) (eqb-true b c same) ∙ ap (λ z. z ++ bs) (sym spelled), ends)

as_mark_some : (o : Option Sign) (bs : List ℕ) (p : Sign × List ℕ) → as_mark o bs ≡ Some p → (s : Sign) × (o ≡ Some s) × ((s, bs) ≡ p)
as_mark_some (Some s) bs p e = (s, refl, some_same _ _ e)
as_mark_some None bs p e = cc

-- one token of each kind
abbrev TokenAt : List ℕ → Token × List ℕ → Type 0
TokenAt bytes p = IsToken bytes p.0 p.1

abbrev IsSignToken : List ℕ → Sign × List ℕ → Type 0
IsSignToken bytes p = IsToken bytes (token.Sign p.0) p.1

not_equal_sound : (bs : List ℕ) (p : Sign × List ℕ) → not_equal_at bs ≡ Some p → IsSignToken (33 ∷ bs) p
unfolding not_equal_at
not_equal_sound [] p e = cc
not_equal_sound (b ∷ bs) p e = elim (chosen (b == 61) _ _ p e) [
  | inl h ↦ subst (IsSignToken (33 ∷ b ∷ bs)) (some_same _ _ h.1) (33 ∷ 61 ∷ [], ap (λ z. 33 ∷ z ∷ bs) (eqb-true b 61 h.0), inr (refl, refl), tt)
  | inr h ↦ let e = h.1 in cc
]

by_text : (bytes : List ℕ) (p : Sign × List ℕ) → IsSignAt bytes p → IsSignToken bytes p
by_text bytes p h = (sign_text p.0, h.0, inl refl, h.1)

sign_sound : (bytes : List ℕ) (p : Sign × List ℕ) → sign_at bytes ≡ Some p → IsSignToken bytes p
unfolding sign_at
sign_sound [] p e = cc
sign_sound (b ∷ bs) p e = elim (chosen (b == 60) _ _ p e) [
  | inl h ↦ by_text (b ∷ bs) p
      (subst (IsSignAt (b ∷ bs)) (some_same _ _ h.1) (subst (λ (z : ℕ). IsSignAt (z ∷ bs) (less_at bs)) (sym (eqb-true b 60 h.0)) (less_sound bs)))
  | inr h ↦ elim (chosen (b == 62) _ _ p h.1) [
    | inl h ↦ by_text (b ∷ bs) p
        (subst (IsSignAt (b ∷ bs)) (some_same _ _ h.1) (subst (λ (z : ℕ). IsSignAt (z ∷ bs) (greater_at bs)) (sym (eqb-true b 62 h.0)) (greater_sound bs)))
    | inr h ↦ elim (chosen (b == 33) _ _ p h.1) [
      | inl h ↦ subst (λ (z : ℕ). IsSignToken (z ∷ bs) p) (sym (eqb-true b 33 h.0)) (not_equal_sound bs p h.1)
      | inr h ↦ let m = as_mark_some (mark_of b) bs p h.1 in by_text (b ∷ bs) p (subst (IsSignAt (b ∷ bs)) m.2 (mark_sound b bs m.0 m.1))
    ]
  ]
]

as_sign_token : (bytes : List ℕ) (o : Option (Sign × List ℕ)) (p : Token × List ℕ) → sign_at bytes ≡ o → as_sign o ≡ Some p → TokenAt bytes p
as_sign_token bytes None p e f = cc
as_sign_token bytes (Some s) p e f = subst (TokenAt bytes) (some_same _ _ f) (sign_sound bytes s e)

literal_token : (bs : List ℕ) (o : Option (List ℕ × List ℕ)) (p : Token × List ℕ) → quoted 39 bs ≡ o → text_at o ≡ Some p → TokenAt (39 ∷ bs) p
literal_token bs None p q e = cc
literal_token bs (Some r) p q e =
    let s = quoted_sound 39 bs r q in
    subst (TokenAt (39 ∷ bs)) (some_same _ _ e) (in_quotes 39 r.0, ap (λ z. 39 ∷ z) (s.0 ∙ sym (append_assoc (doubled 39 r.0) (39 ∷ []) r.1)), refl, s.1)

not_empty : (t : List ℕ) → nat_lt 0 (length t) ≡ true → t ≢ []
not_empty [] e f = cc
not_empty (b ∷ t) e f = cc

delimited_token : (bs : List ℕ) (o : Option (List ℕ × List ℕ)) (p : Token × List ℕ) → quoted 34 bs ≡ o → delimited_at o ≡ Some p → TokenAt (34 ∷ bs) p
delimited_token bs None p q e = cc
delimited_token bs (Some r) p q e = elim (chosen (nat_lt 0 (length r.0)) _ _ p e) [
  | inl h ↦
      let s = quoted_sound 34 bs r q in
      subst (TokenAt (34 ∷ bs)) (some_same _ _ h.1) (in_quotes 34 r.0, ap (λ z. 34 ∷ z) (s.0 ∙ sym (append_assoc (doubled 34 r.0) (34 ∷ []) r.1)), (refl, not_empty r.0 h.0), s.1)
  | inr h ↦ let e = h.1 in cc
]

not_first : {A : Type 0} (b : Bool) (y : Option A) (p : A) → cond b None y ≡ Some p → (b ≡ false) × (y ≡ Some p)
not_first true y p e = cc
not_first false y p e = (refl, e)

integer_token : (w rest : List ℕ) (o : Option (ℤ × List ℕ)) (p : Token × List ℕ) → begins_fraction rest ≡ false → judged w rest ≡ o → as_integer o ≡ Some p → TokenAt (w ++ rest) p
integer_token w rest None p n q e = cc
integer_token w rest (Some r) p n q e =
    let a = not_first (begins is_name_byte rest) _ r q in
    elim (chosen (is_integer w) _ _ r a.1) [
      | inl h ↦
          let d = (integer-Decides w).0 h.0 in
          subst (TokenAt (w ++ rest)) (ap (λ (z : ℤ × List ℕ). (token.Integer z.0, z.1)) (some_same _ _ h.1) ∙ some_same _ _ e)
          (w, refl, (d.0, d.1, refl), (a.0, n))
      | inr h ↦ let e = h.1 in cc
    ]

with_rest_some : (o : Option DecimalLiteral) (rest : List ℕ) (r : DecimalLiteral × List ℕ) → with_rest o rest ≡ Some r → (d : DecimalLiteral) × (o ≡ Some d) × ((d, rest) ≡ r)
with_rest_some (Some d) rest r e = (d, refl, some_same _ _ e)
with_rest_some None rest r e = cc

some_digits : (bs : List ℕ) → begins is_ascii_digit bs ≡ true → 0 < length (take (prefix_len is_ascii_digit bs) bs)
some_digits [] e = cc
some_digits (b ∷ bs) e = omega (arith, ap (λ n. length (take n (b ∷ bs))) (len_in is_ascii_digit b bs e))

decimal_token : (w bs : List ℕ) (o : Option (DecimalLiteral × List ℕ)) (p : Token × List ℕ) → begins is_ascii_digit bs ≡ true → fraction_at w bs ≡ o → as_decimal o ≡ Some p → TokenAt (w ++ 46 ∷ bs) p
unfolding fraction_at
decimal_token w bs None p n q e = cc
decimal_token w bs (Some r) p n q e =
    let after = take (prefix_len is_ascii_digit bs) bs in
    let rest = drop (prefix_len is_ascii_digit bs) bs in
    let a = not_first (begins is_name_byte rest) _ r q in
    let d = with_rest_some (decimal_parts w after) rest r a.1 in
    subst (TokenAt (w ++ 46 ∷ bs)) (ap (λ (z : DecimalLiteral × List ℕ). (token.Decimal z.0, z.1)) d.2 ∙ some_same _ _ e) (
      w ++ 46 ∷ after,
      ap (λ z. w ++ 46 ∷ z) (sym (take-append-drop (prefix_len is_ascii_digit bs) bs)) ∙ sym (append_assoc w (46 ∷ after) rest),
      parts_sound w after d.0 (some_digits bs n) d.1,
      a.0,
    )

fraction_first : (rest : List ℕ) → begins_fraction rest ≡ true → (rest ≡ 46 ∷ drop 1 rest) × (begins is_ascii_digit (drop 1 rest) ≡ true)
fraction_first [] e = cc
fraction_first (b ∷ bs) e = let h = and_parts (b == 46) (begins is_ascii_digit bs) e in (ap (λ z. z ∷ bs) (eqb-true b 46 h.0), h.1)

number_token : (bytes : List ℕ) (p : Token × List ℕ) → number_at bytes ≡ Some p → TokenAt bytes p
unfolding number_at
number_token bytes p e =
    let w = take (number_len bytes) bytes in
    let rest = drop (number_len bytes) bytes in
    subst (λ z. TokenAt z p) (take-append-drop (number_len bytes) bytes)
    (elim (chosen (begins_fraction rest) _ _ p e) [
      | inl h ↦
          let f = fraction_first rest h.0 in
          subst (λ z. TokenAt (w ++ z) p) (sym f.0) (decimal_token w (drop 1 rest) (fraction_at w (drop 1 rest)) p f.1 refl h.1)
      | inr h ↦ integer_token w rest (judged w rest) p h.0 refl h.1
    ])

pub token_sound : (bytes : List ℕ) (p : Token × List ℕ) → token_at bytes ≡ Some p → TokenAt bytes p
unfolding token_at
token_sound [] p e = cc
token_sound (b ∷ bs) p e = elim (chosen (is_ascii_alphabetic b) _ _ p e) [
  | inl h ↦ subst (TokenAt (b ∷ bs)) (some_same _ _ h.1) (word_token b bs h.0)
  | inr h ↦ elim (chosen (b == 39) _ _ p h.1) [
    | inl h ↦ subst (λ z. TokenAt (z ∷ bs) p) (sym (eqb-true b 39 h.0)) (literal_token bs (quoted 39 bs) p refl h.1)
    | inr h ↦ elim (chosen (b == 34) _ _ p h.1) [
      | inl h ↦ subst (λ z. TokenAt (z ∷ bs) p) (sym (eqb-true b 34 h.0)) (delimited_token bs (quoted 34 bs) p refl h.1)
      | inr h ↦ elim (chosen (begins_number b) _ _ p h.1) [
        | inl h ↦ number_token (b ∷ bs) p h.1
        | inr h ↦ as_sign_token (b ∷ bs) (sign_at (b ∷ bs)) p refl h.1
      ]
    ]
  ]
]
