-- The name at the front of a text: what is found has its form, and what has it is found.
use Rattle.std.proofs.Common.{◌≡◌, ◌≢◌, ◌∙◌, ◌++◌, ◌∷◌, [], ℕ, Bool, List, Option, Some, None, true, false, cond, inl, inr, refl, sym, ap, subst, arith, not, append_assoc, take, drop, length}
use Rattle.std.specs.Prelude.{◌==◌, nat_lt, MatchOption}
use Rattle.std.specs.Borrow.{Bor}
use Rattle.std.specs.Char.{is_ascii_digit}
use Rattle.std.specs.List.{list_all, prefix_len}
use Rattle.std.proofs.lemmas.Bool.{and_parts, cases_Bool, eqb-true}
use Rattle.std.proofs.lemmas.Bool.Decides.{nat_tests}
use Rattle.std.proofs.lemmas.List.{take-append-drop}
use Rattle.std.proofs.Math.Seq.{drop-append_seam, take-append_seam}
use Rattle.rj_condition.specs.Internal.Scanning.{quoted}
use Rattle.rj_condition.specs.Tokens.{begins, doubled, in_quotes, is_name_byte}
use Rattle.rj_condition.specs.declared.tree.Name.{Name}
use Rattle.rj_condition.proofs.Quotes.{is_quote, quoted_complete, quoted_sound}
use Rattle.rj_condition.proofs.Runs.{run_is}
use Rattle.rj_settings.specs.Labels.{IsNameWord, is_regular}
use Rattle.rj_settings.specs.Internal.Scanning.{behind, delimited_at, name_by, name_in, named, regular_at}
use Rattle.rj_settings.specs.Words.{text_of}
use Rattle.rj_settings.proofs.WordFacts.{some_same}

is_sign : (sign : ℕ) → (sign == sign) ≡ true
is_sign sign = grind (arith, nat_tests)

behind_yes : (sign b : ℕ) (bs : List ℕ) → (b == sign) ≡ true → behind sign (b ∷ bs) ≡ Some bs
behind_yes sign b bs e = ap (λ (t : Bool). cond t (Some bs) None) e

behind_no : (sign b : ℕ) (bs : List ℕ) → (b == sign) ≡ false → behind sign (b ∷ bs) ≡ None
behind_no sign b bs e = ap (λ (t : Bool). cond t (Some bs) None) e

pub behind_sound : (sign : ℕ) (text rest : List ℕ) → behind sign text ≡ Some rest → text ≡ sign ∷ rest
behind_sound sign [] rest e = cc
behind_sound sign (b ∷ bs) rest e = elim (cases_Bool (b == sign)) [
  | inl h ↦
      let f : Some bs ≡ Some rest = sym (behind_yes sign b bs h) ∙ e in
      let same : bs ≡ rest = cc in
      ap (λ (z : ℕ). z ∷ bs) (eqb-true b sign h) ∙ ap (λ (z : List ℕ). sign ∷ z) same
  | inr h ↦ let f : ◌≡◌ {A = Option (List ℕ)} None (Some rest) = sym (behind_no sign b bs h) ∙ e in cc
]

pub behind_found : (sign : ℕ) (text : List ℕ) (r : Option (Bor (List ℕ))) → MatchOption r ((rest : List ℕ) → text ≢ sign ∷ rest) (λ x. text ≡ sign ∷ x.now)
    → text_of r ≡ behind sign text
behind_found sign text (Some x) is = sym (ap (behind sign) is ∙ behind_yes sign sign x.now (is_sign sign))
behind_found sign [] None is = refl
behind_found sign (b ∷ bs) None is = elim (cases_Bool (b == sign)) [
  | inl h ↦ absurd (is bs (ap (λ (z : ℕ). z ∷ bs) (eqb-true b sign h)))
  | inr h ↦ sym (behind_no sign b bs h)
]

-- what is found has the form of a name
abbrev pub HasName : List ℕ → Name × List ℕ → Type 0
HasName text p = (word : List ℕ) × IsNameWord p.0.delimited p.0.text word × (text ≡ word ++ p.1)

regular_sound : (word rest text : List ℕ) (p : Name × List ℕ) → word ++ rest ≡ text → regular_at word rest ≡ Some p → HasName text p
regular_sound word rest text p whole e = elim (cases_Bool (is_regular word)) [
  | inl h ↦
      let f : Some (named false word, rest) ≡ Some p = sym (ap (λ (t : Bool). cond t (Some (named false word, rest)) None) h) ∙ e in
      subst (HasName text) (some_same _ _ f) (word, (refl, h), sym whole)
  | inr h ↦
      let f : ◌≡◌ {A = Option (Name × List ℕ)} None (Some p) = sym (ap (λ (t : Bool). cond t (Some (named false word, rest)) None) h) ∙ e in
      cc
]

pub not_empty : (name : List ℕ) → nat_lt 0 (length name) ≡ true → name ≢ []
not_empty [] e is = cc
not_empty (b ∷ name) e is = cc

some_name : (name : List ℕ) → name ≢ [] → nat_lt 0 (length name) ≡ true
some_name [] is = absurd (is refl)
some_name (b ∷ name) is = grind (arith, nat_tests)

delimited_sound : (text quoting : List ℕ) (o : Option (List ℕ × List ℕ)) (p : Name × List ℕ) → text ≡ 34 ∷ quoting → quoted 34 quoting ≡ o → delimited_at o ≡ Some p
    → HasName text p
delimited_sound text quoting None p is q e = cc
delimited_sound text quoting (Some n) p is q e = elim (cases_Bool (nat_lt 0 (length n.0))) [
  | inl h ↦
      let f : Some (named true n.0, n.1) ≡ Some p = sym (ap (λ (t : Bool). cond t (Some (named true n.0, n.1)) None) h) ∙ e in
      let s = quoted_sound 34 quoting n q in
      subst (HasName text) (some_same _ _ f) (
        in_quotes 34 n.0,
        (refl, not_empty n.0 h),
        is ∙ (ap (λ (z : List ℕ). 34 ∷ z) s.0 ∙ ap (λ (z : List ℕ). 34 ∷ z) (sym (append_assoc (doubled 34 n.0) (34 ∷ []) n.1))),
      )
  | inr h ↦
      let f : ◌≡◌ {A = Option (Name × List ℕ)} None (Some p) = sym (ap (λ (t : Bool). cond t (Some (named true n.0, n.1)) None) h) ∙ e in
      cc
]

by_sound : (text : List ℕ) (a : Option (List ℕ)) (p : Name × List ℕ) → behind 34 text ≡ a → name_by a text ≡ Some p → HasName text p
by_sound text (Some quoting) p one e = delimited_sound text quoting (quoted 34 quoting) p (behind_sound 34 text quoting one) refl e
by_sound text None p one e =
    regular_sound (take (prefix_len is_name_byte text) text) (drop (prefix_len is_name_byte text) text) text p (take-append-drop (prefix_len is_name_byte text) text) e

pub name_sound : (text : List ℕ) (p : Name × List ℕ) → name_in text ≡ Some p → HasName text p
name_sound text p e = by_sound text (behind 34 text) p refl e

-- a name doesn't go on here
pub record EndsName (rest : List ℕ) : Type 0 where
  pub letters : begins is_name_byte rest ≡ false
  pub quotes : begins (is_quote 34) rest ≡ false

delimited_found : (name rest : List ℕ) → name ≢ [] → begins (is_quote 34) rest ≡ false → name_in (in_quotes 34 name ++ rest) ≡ Some (named true name, rest)
delimited_found name rest some ends =
    ap (λ (z : List ℕ). name_in (34 ∷ z)) (append_assoc (doubled 34 name) (34 ∷ []) rest)
    ∙ (ap delimited_at (quoted_complete 34 name rest ends) ∙ ap (λ (t : Bool). cond t (Some (named true name, rest)) None) (some_name name some))

letter_no_quote : (b : ℕ) → is_name_byte b ≡ true → (b == 34) ≡ false
letter_no_quote b e = grind (arith, nat_tests)

regular_found : (name rest : List ℕ) → is_regular name ≡ true → begins is_name_byte rest ≡ false → name_in (name ++ rest) ≡ Some (named false name, rest)
regular_found [] rest is ends = cc
regular_found (b ∷ name) rest is ends =
    let names = (and_parts (not (is_ascii_digit b)) (list_all is_name_byte (b ∷ name)) is).1 in
    let letter = (and_parts (is_name_byte b) (list_all is_name_byte name) names).0 in
    let text = (b ∷ name) ++ rest in
    let run : prefix_len is_name_byte text ≡ length (b ∷ name) = run_is is_name_byte (b ∷ name) rest names ends in
    ap (λ (o : Option (List ℕ)). name_by o text) (behind_no 34 b (name ++ rest) (letter_no_quote b letter))
    ∙ (ap (λ (n : ℕ). regular_at (take n text) (drop n text)) run
    ∙ (ap (λ (w : List ℕ). regular_at w (drop (length (b ∷ name)) text)) (take-append_seam (b ∷ name) rest)
    ∙ (ap (λ (w : List ℕ). regular_at (b ∷ name) w) (drop-append_seam (b ∷ name) rest)
    ∙ ap (λ (t : Bool). cond t (Some (named false (b ∷ name), rest)) None) is)))

found_by : (delimited : Bool) (name word rest : List ℕ) → IsNameWord delimited name word → EndsName rest → name_in (word ++ rest) ≡ Some (named delimited name, rest)
found_by true name word rest is ends = ap (λ (w : List ℕ). name_in (w ++ rest)) is.0 ∙ delimited_found name rest is.1 ends.quotes
found_by false name word rest is ends = ap (λ (w : List ℕ). name_in (w ++ rest)) is.0 ∙ regular_found name rest is.1 ends.letters

pub name_found : (n : Name) (word rest : List ℕ) → IsNameWord n.delimited n.text word → EndsName rest → name_in (word ++ rest) ≡ Some (n, rest)
name_found n word rest is ends = found_by n.delimited n.text word rest is ends
