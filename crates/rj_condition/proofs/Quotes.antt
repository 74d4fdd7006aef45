-- A quoted text, its form, and how it is read.
use Rattle.std.proofs.Common.{◌≡◌, ◌⊎◌, inl, inr, ℕ, zero, suc, ◌<◌, ◌≤◌, List, [], ◌∷◌, ◌++◌, Bool, true, false, cond, take, drop, length, Option, Some, None, refl, sym, ap, ◌∙◌, subst, arith, append_assoc, get_or, length-drop}
use Rattle.std.specs.Prelude.{◌==◌, not}
use Rattle.std.specs.Str.{IsCharBoundary}
use Rattle.std.specs.List.{prefix_len, list_all}
use Rattle.std.proofs.lemmas.Bool.Decides.{nat_tests}
use Rattle.std.proofs.lemmas.List.Sums.{prefix_len-le-length}
use Rattle.std.proofs.lemmas.List.{take-append-drop}
use Rattle.std.proofs.lemmas.Str.{IsCharBoundary-before_ascii, IsCharBoundary-end}
use Rattle.std.proofs.lemmas.Bool.{and_parts, cases_Bool}
use Rattle.rj_condition.specs.Tokens.{begins, doubled}
use Rattle.rj_condition.specs.Internal.Scanning.{is_other, in_front, quoted, after_quote}
use Rattle.rj_condition.proofs.Runs.{run_passes, run_ends}

pub some_same : {A : Type 0} (x y : A) → Some x ≡ Some y → x ≡ y
some_same x y e = cc

abbrev pub is_quote : ℕ → ℕ → Bool
is_quote q b = b == q

in_front_twice : (found more : List ℕ) (o : Option (List ℕ × List ℕ)) → in_front found (in_front more o) ≡ in_front (found ++ more) o
in_front_twice found more (Some p) = ap (λ (z : List ℕ). Some (z, p.1)) (sym (append_assoc found more p.0))
in_front_twice found more None = refl

quoted_quote : (q b : ℕ) (bs : List ℕ) → is_quote q b ≡ true → quoted q (b ∷ bs) ≡ after_quote q bs
unfolding quoted
quoted_quote q b bs e = ap (λ c. cond c (after_quote q bs) (in_front (b ∷ []) (quoted q bs))) e

quoted_other : (q b : ℕ) (bs : List ℕ) → is_quote q b ≡ false → quoted q (b ∷ bs) ≡ in_front (b ∷ []) (quoted q bs)
unfolding quoted
quoted_other q b bs e = ap (λ c. cond c (after_quote q bs) (in_front (b ∷ []) (quoted q bs))) e

after_quote_two : (q b : ℕ) (bs : List ℕ) → is_quote q b ≡ true → after_quote q (b ∷ bs) ≡ in_front (q ∷ []) (quoted q bs)
unfolding quoted
after_quote_two q b bs e = ap (λ c. cond c (in_front (q ∷ []) (quoted q bs)) (Some ([], b ∷ bs))) e

after_quote_last : (q : ℕ) (bs : List ℕ) → begins (is_quote q) bs ≡ false → after_quote q bs ≡ Some ([], bs)
unfolding quoted
after_quote_last q [] e = refl
after_quote_last q (b ∷ bs) e = ap (λ c. cond c (in_front (q ∷ []) (quoted q bs)) (Some ([], b ∷ bs))) e

other_is : (q b : ℕ) → is_other q b ≡ true → is_quote q b ≡ false
other_is q b e = elim (cases_Bool (is_quote q b)) [ inl h ↦ let f = ap not h in cc | inr h ↦ h ]

-- the run of other bytes in front, and what stands behind it
pub record IsCut (q : ℕ) (rest front more : List ℕ) : Type 0 where
  pub parts : rest ≡ front ++ more
  pub others : list_all (is_other q) front ≡ true
  pub ends : begins (is_other q) more ≡ false

pub cut : (q : ℕ) (rest bytes front more : List ℕ) (n : ℕ) → bytes ≡ rest → n ≡ prefix_len (is_other q) bytes → front ≡ take n rest → more ≡ drop n rest → IsCut q rest front more
cut q rest bytes front more n same len f m =
    let k : n ≡ prefix_len (is_other q) rest = len ∙ ap (prefix_len (is_other q)) same in
    record {
      parts = sym (take-append-drop n rest) ∙ ap (λ z. z ++ drop n rest) (sym f) ∙ ap (λ z. front ++ z) (sym m);
      others = ap (list_all (is_other q)) (f ∙ ap (λ i. take i rest) k) ∙ run_passes (is_other q) rest;
      ends = ap (begins (is_other q)) (m ∙ ap (λ i. drop i rest) k) ∙ run_ends (is_other q) rest;
    }

in_front_nothing : (o : Option (List ℕ × List ℕ)) → o ≡ in_front [] o
in_front_nothing (Some p) = refl
in_front_nothing None = refl

-- the run stands in front of what is read behind it
run_in_front : (q : ℕ) (front more : List ℕ) → list_all (is_other q) front ≡ true → quoted q (front ++ more) ≡ in_front front (quoted q more)
run_in_front q [] more a = in_front_nothing (quoted q more)
run_in_front q (b ∷ front) more a =
    let h = and_parts (is_other q b) (list_all (is_other q) front) a in
    quoted_other q b (front ++ more) (other_is q b h.0)
    ∙ ap (in_front (b ∷ [])) (run_in_front q front more h.1)
    ∙ in_front_twice (b ∷ []) front (quoted q more)

cut_in_front : (q : ℕ) (found rest front more : List ℕ) → IsCut q rest front more → in_front found (quoted q rest) ≡ in_front (found ++ front) (quoted q more)
cut_in_front q found rest front more k =
    ap (λ z. in_front found (quoted q z)) k.parts ∙ ap (in_front found) (run_in_front q front more k.others) ∙ in_front_twice found front (quoted q more)

-- what stands behind the run is a quote
pub quote_there : (q : ℕ) (rest front more : List ℕ) → IsCut q rest front more → 0 < length more → get_or more 0 0 ≡ q
quote_there q rest front [] k lt = absurd (omega arith)
quote_there q rest front (b ∷ more) k lt = elim (cases_Bool (is_quote q b)) [
  | inl h ↦ quote_is q b h
  | inr h ↦ let e = ap not h in let f = k.ends in cc
]
  where
    quote_is : (q b : ℕ) → is_quote q b ≡ true → b ≡ q
    quote_is q b e = grind (arith, nat_tests)

quoted_nothing : (q : ℕ) → quoted q [] ≡ None
unfolding quoted
quoted_nothing q = refl

-- no quote is left
pub quoted_open : (q : ℕ) (found rest front more : List ℕ) → IsCut q rest front more → length more ≡ 0 → in_front found (quoted q rest) ≡ None
quoted_open q found rest front [] k e = cut_in_front q found rest front [] k ∙ ap (in_front (found ++ front)) (quoted_nothing q)
quoted_open q found rest front (b ∷ more) k e = absurd (omega arith)

at_quote : (q : ℕ) (found rest front after : List ℕ) → IsCut q rest front (q ∷ after) → in_front found (quoted q rest) ≡ in_front (found ++ front) (after_quote q after)
at_quote q found rest front after k =
    cut_in_front q found rest front (q ∷ after) k ∙ ap (in_front (found ++ front)) (quoted_quote q q after (same_byte q))
  where
    same_byte : (q : ℕ) → is_quote q q ≡ true
    same_byte q = grind (arith, nat_tests)

pub after_found : (found : List ℕ) → found ++ [] ≡ found
after_found [] = refl
after_found (b ∷ found) = ap (λ z. b ∷ z) (after_found found)

-- one quote ends the text
pub quoted_last : (q b : ℕ) (found rest front more after : List ℕ) → IsCut q rest front more → more ≡ b ∷ after → b ≡ q → begins (is_quote q) after ≡ false →
    in_front found (quoted q rest) ≡ Some (found ++ front, after)
quoted_last q b found rest front more after k m e n =
    let P : List ℕ → Type 0 = IsCut q rest front in
    at_quote q found rest front after (subst P (m ∙ ap (λ z. z ∷ after) e) k)
    ∙ ap (in_front (found ++ front)) (after_quote_last q after n)
    ∙ ap (λ (z : List ℕ). Some (z, after)) (after_found (found ++ front))

-- two quotes are one of the text
pub quoted_two : (q b c : ℕ) (found rest front more after beyond : List ℕ) → IsCut q rest front more → more ≡ b ∷ after → b ≡ q → after ≡ c ∷ beyond → begins (is_quote q) after ≡ true →
    in_front found (quoted q rest) ≡ in_front ((found ++ front) ++ q ∷ []) (quoted q beyond)
quoted_two q b c found rest front more after beyond k m e n h =
    let P : List ℕ → Type 0 = IsCut q rest front in
    at_quote q found rest front after (subst P (m ∙ ap (λ z. z ∷ after) e) k)
    ∙ ap (λ z. in_front (found ++ front) (after_quote q z)) n
    ∙ ap (in_front (found ++ front)) (after_quote_two q c beyond (sym (ap (begins (is_quote q)) n) ∙ h))
    ∙ in_front_twice (found ++ front) (q ∷ []) (quoted q beyond)

-- a text may be cut in front of a quote
pub cut_quote : (q : ℕ) (bytes text : List ℕ) (n : ℕ) → q < 128 → bytes ≡ text → n ≡ prefix_len (is_other q) bytes → IsCharBoundary text n
cut_quote q bytes text n low same len =
    let k : n ≡ prefix_len (is_other q) text = len ∙ ap (prefix_len (is_other q)) same in
    let at : n ≤ length text = omega (arith, prefix_len-le-length (is_other q) text, k) in
    let c = cut q text text (take n text) (drop n text) n refl k refl refl in
    elim (nat_cases n (length text) at) [
      | inl h ↦ IsCharBoundary-before_ascii text n h (omega (arith, low, at_drop text n, quote_there q text (take n text) (drop n text) c (left text n h)))
      | inr h ↦ let P : ℕ → Type 0 = IsCharBoundary text in subst P (sym h) (IsCharBoundary-end text)
    ]
  where
    nat_cases : (i j : ℕ) → i ≤ j → (i < j) ⊎ (i ≡ j)
    nat_cases i j le = grind arith

    left : (text : List ℕ) (n : ℕ) → n < length text → 0 < length (drop n text)
    left text n lt = omega (arith, length-drop n text)

    at_drop : (text : List ℕ) (n : ℕ) → get_or (drop n text) 0 0 ≡ get_or text n 0
    at_drop text zero = refl
    at_drop [] (suc n) = refl
    at_drop (b ∷ text) (suc n) = at_drop text n

pub none_left : (more : List ℕ) → true ≡ (length more == 0) → length more ≡ 0
none_left more e = grind (arith, nat_tests)

pub some_left : (more : List ℕ) → false ≡ (length more == 0) → 0 < length more
some_left more e = grind (arith, nat_tests)

pub low_quote : (q b : ℕ) → q < 128 → b ≡ q → b < 128
low_quote q b low e = omega arith

-- what is read between quotes has their form
abbrev Quoted : ℕ → List ℕ → List ℕ × List ℕ → Type 0
Quoted q bs p = (bs ≡ doubled q p.0 ++ q ∷ p.1) × (begins (is_quote q) p.1 ≡ false)

in_front_some : (b : ℕ) (o : Option (List ℕ × List ℕ)) (p : List ℕ × List ℕ) → in_front (b ∷ []) o ≡ Some p →
    (r : List ℕ × List ℕ) × (o ≡ Some r) × (p.0 ≡ b ∷ r.0) × (p.1 ≡ r.1)
in_front_some b (Some r) p e = let s = some_same _ _ e in (r, refl, sym (ap (λ (z : List ℕ × List ℕ). z.0) s), sym (ap (λ (z : List ℕ × List ℕ). z.1) s))
in_front_some b None p e = cc

doubled_quote : (q b : ℕ) (t : List ℕ) → is_quote q b ≡ true → doubled q (b ∷ t) ≡ q ∷ q ∷ doubled q t
doubled_quote q b t e = ap (λ c. cond c (q ∷ q ∷ doubled q t) (b ∷ doubled q t)) e

doubled_other : (q b : ℕ) (t : List ℕ) → is_quote q b ≡ false → doubled q (b ∷ t) ≡ b ∷ doubled q t
doubled_other q b t e = ap (λ c. cond c (q ∷ q ∷ doubled q t) (b ∷ doubled q t)) e

same_quote : (q : ℕ) → is_quote q q ≡ true
same_quote q = grind (arith, nat_tests)

quote_is : (q b : ℕ) → is_quote q b ≡ true → b ≡ q
quote_is q b e = grind (arith, nat_tests)

mutual
  pub quoted_sound : (q : ℕ) (bs : List ℕ) (p : List ℕ × List ℕ) → quoted q bs ≡ Some p → Quoted q bs p
  quoted_sound q [] p e = let f = quoted_nothing q in cc
  quoted_sound q (b ∷ bs) p e = elim (cases_Bool (is_quote q b)) [
    | inl h ↦ let s = after_sound q bs p (sym (quoted_quote q b bs h) ∙ e) in
        (ap (λ z. z ∷ bs) (quote_is q b h) ∙ s.0, s.1)
    | inr h ↦ let f = in_front_some b (quoted q bs) p (sym (quoted_other q b bs h) ∙ e) in
        let s = quoted_sound q bs f.0 f.1 in (
          ap (λ z. b ∷ z) s.0 ∙ ap (λ z. b ∷ (doubled q f.0.0 ++ q ∷ z)) (sym f.3) ∙ ap (λ z. z ++ q ∷ p.1) (sym (doubled_other q b f.0.0 h)) ∙ ap (λ z. doubled q z ++ q ∷ p.1) (sym f.2),
          ap (begins (is_quote q)) f.3 ∙ s.1,
        )
  ]

  after_sound : (q : ℕ) (bs : List ℕ) (p : List ℕ × List ℕ) → after_quote q bs ≡ Some p → Quoted q (q ∷ bs) p
  after_sound q [] p e = subst (Quoted q (q ∷ [])) (some_same _ _ (sym (after_quote_last q [] refl) ∙ e)) (refl, refl)
  after_sound q (b ∷ bs) p e = elim (cases_Bool (is_quote q b)) [
    | inl h ↦ let f = in_front_some q (quoted q bs) p (sym (after_quote_two q b bs h) ∙ e) in
        let s = quoted_sound q bs f.0 f.1 in (
          ap (λ z. q ∷ z ∷ bs) (quote_is q b h) ∙ ap (λ z. q ∷ q ∷ z) s.0 ∙ ap (λ z. q ∷ q ∷ (doubled q f.0.0 ++ q ∷ z)) (sym f.3)
              ∙ ap (λ z. z ++ q ∷ p.1) (sym (doubled_quote q q f.0.0 (same_quote q))) ∙ ap (λ z. doubled q z ++ q ∷ p.1) (sym f.2),
          ap (begins (is_quote q)) f.3 ∙ s.1,
        )
    | inr h ↦ subst (Quoted q (q ∷ b ∷ bs)) (some_same _ _ (sym (after_quote_last q (b ∷ bs) h) ∙ e)) (refl, h)
  ]

-- and what has their form is read
pub quoted_complete : (q : ℕ) (t rest : List ℕ) → begins (is_quote q) rest ≡ false → quoted q (doubled q t ++ q ∷ rest) ≡ Some (t, rest)
quoted_complete q [] rest e = quoted_quote q q rest (same_quote q) ∙ after_quote_last q rest e
quoted_complete q (b ∷ t) rest e = elim (cases_Bool (is_quote q b)) [
  | inl h ↦
      ap (λ z. quoted q (z ++ q ∷ rest)) (doubled_quote q b t h)
      ∙ quoted_quote q q (q ∷ (doubled q t ++ q ∷ rest)) (same_quote q)
      ∙ after_quote_two q q (doubled q t ++ q ∷ rest) (same_quote q)
      ∙ ap (in_front (q ∷ [])) (quoted_complete q t rest e)
      ∙ ap (λ (z : ℕ). Some (z ∷ t, rest)) (sym (quote_is q b h))
  | inr h ↦
      ap (λ z. quoted q (z ++ q ∷ rest)) (doubled_other q b t h)
      ∙ quoted_other q b (doubled q t ++ q ∷ rest) h
      ∙ ap (in_front (b ∷ [])) (quoted_complete q t rest e)
]
