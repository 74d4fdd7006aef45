-- Where the first record of a text ends, and what csv's machine reads up to there.
use Rattle.std.proofs.Common.{◌≡◌, ◌∙◌, ◌<◌, ◌≤◌, ◌+◌, ◌-◌, ℕ, List, [], ◌∷◌, ◌++◌, length, take, drop, drop-cons, get_or, add-one, Bool, true, false, Some, None, refl, sym, ap, subst, arith, inl, inr}
use Rattle.std.specs.Prelude.{◌==◌, ◌||◌, ◌⊎◌, if◌then◌else◌}
use Rattle.std.proofs.Math.Seq.{take-length}
use Rattle.std.proofs.lemmas.Bool.{eqb-true, false≢true}
use Rattle.std.proofs.lemmas.List.{drop_all, length-append, length-drop}
use Rattle.csv.specs.Machine.{Read, after_end, ends_at_end, ends_with, field_after, fields_after, in_field, is_end, next_record, start_field, start_record, step}
use Rattle.csv.specs.declared.parser.Action.{Action}
use Rattle.csv.specs.declared.parser.Action.TheVariants as act
use Rattle.csv.specs.declared.parser.Config.{Config}
use Rattle.csv.specs.declared.parser.State.{State}
use Rattle.csv.specs.declared.parser.State.TheVariants as st
use Rattle.csv.specs.declared.parser.Terminator.TheVariants as term
use Rattle.rj_csv_io.proofs.DelimiterFacts.{no-delimiter}
use Rattle.rj_csv_io.specs.Grammar.{may_delimit}
use Rattle.rj_csv_io.specs.StrictReading.{config_of}
use Rattle.rj_csv_io.specs.NameEnds.{from_end}

-- the state after a line end
pub record IsLineEnd (c : ℕ) (s : State) : Type 0 where
  pub ends : ((c ≡ 10) × (s ≡ st.StartRecord)) ⊎ ((c ≡ 13) × (s ≡ st.AfterCr))

abbrev EndsLine : ℕ → State × Action → Type 0
EndsLine c p = is_end p.1 ≡ true → IsLineEnd c p.0

ends-if : (c : ℕ) (b : Bool) (p q : State × Action) → (b ≡ true → EndsLine c p) → EndsLine c q → EndsLine c (if b then p else q)
ends-if c true p q hp hq = hp refl
ends-if c false p q hp hq = hq

field-ends : (d c : ℕ) → EndsLine c (in_field (config_of d) c)
field-ends d c =
    ends-if c (c == d) _ _ (λ b e. absurd (false≢true e))
    (ends-if c (ends_with term.CRLF c) _ _ line (λ e. absurd (false≢true e)))
  where
    line : ends_with term.CRLF c ≡ true → EndsLine c (after_end term.CRLF c, act.EndRecord)
    line b e = go (c == 13) refl b
      where
        go : (x : Bool) → (c == 13) ≡ x → (x || (c == 10)) ≡ true → IsLineEnd c (if x then st.AfterCr else st.StartRecord)
        go true is h = record { ends = inr (eqb-true c 13 is, refl) }
        go false is h = record { ends = inl (eqb-true c 10 h, refl) }

start-ends : (d c : ℕ) → EndsLine c (start_field (config_of d) c)
start-ends d c = ends-if c (c == 34) _ _ (λ b e. absurd (false≢true e)) (field-ends d c)

record-ends : (d c : ℕ) → EndsLine c (start_record (config_of d) c)
record-ends d c = ends-if c (ends_with term.CRLF c) _ _ (λ b e. absurd (false≢true e)) (start-ends d c)

step-ends : (d : ℕ) (s : State) (c : ℕ) → EndsLine c (step (config_of d) s c)
step-ends d st.StartRecord c = record-ends d c
step-ends d st.StartField c = start-ends d c
step-ends d st.InField c = field-ends d c
step-ends d st.InQuoted c = ends-if c (c == 34) _ _ (λ b e. absurd (false≢true e)) (λ e. absurd (false≢true e))
step-ends d st.InEscape c = λ e. absurd (false≢true e)
step-ends d st.AfterQuote c = ends-if c (c == 34) _ _ (λ b e. absurd (false≢true e)) (field-ends d c)
step-ends d st.InComment c = ends-if c (c == 10) _ _ (λ b e. absurd (false≢true e)) (λ e. absurd (false≢true e))
step-ends d st.AfterCr c = ends-if c (c == 10) _ _ (λ b e. absurd (false≢true e)) (record-ends d c)

-- what is left from the line end of the record that was read
pub data EndsAs (left : List ℕ) (p : Read) : Type 0 where
  at-end : left ≡ [] → p.1 ≡ st.StartRecord → p.2 ≡ [] → EndsAs left p
  at-line : (c : ℕ) → left ≡ c ∷ p.2 → IsLineEnd c p.1 → EndsAs left p

pub ends-as : (d : ℕ) (s : State) (fields : List (List ℕ)) (field text : List ℕ) (p : Read) → next_record (config_of d) s fields field text ≡ Some p → EndsAs (from_end (config_of d) s text) p
unfolding next_record from_end
ends-as d s fields field [] p e = go (ends_at_end s) e
  where
    go : (b : Bool) → (if b then Some (fields ++ (field ∷ []), st.StartRecord, []) else None) ≡ Some p → EndsAs [] p
    go true e =
        let q : (fields ++ (field ∷ []), st.StartRecord, []) ≡ p = cc in
        subst (λ (p : Read). EndsAs [] p) q (at-end refl refl refl)
    go false e = absurd (cc)
ends-as d s fields field (c ∷ text) p e =
    go (is_end (step (config_of d) s c).1) refl e (ends-as d (step (config_of d) s c).0 (fields_after (step (config_of d) s c).1 fields field) (field_after (step (config_of d) s c).1 c field) text p)
  where
    go : (b : Bool) → is_end (step (config_of d) s c).1 ≡ b
        → (if b then Some (fields_after (step (config_of d) s c).1 fields field, (step (config_of d) s c).0, text)
        else next_record (config_of d) (step (config_of d) s c).0 (fields_after (step (config_of d) s c).1 fields field) (field_after (step (config_of d) s c).1 c field) text) ≡ Some p
        → (next_record (config_of d) (step (config_of d) s c).0 (fields_after (step (config_of d) s c).1 fields field) (field_after (step (config_of d) s c).1 c field) text ≡ Some p
        → EndsAs (from_end (config_of d) (step (config_of d) s c).0 text) p)
        → EndsAs (if b then c ∷ text else from_end (config_of d) (step (config_of d) s c).0 text) p
    go true h e again =
        let q : (fields_after (step (config_of d) s c).1 fields field, (step (config_of d) s c).0, text) ≡ p = cc in
        subst (λ (p : Read). EndsAs (c ∷ text) p) q (at-line c refl (step-ends d s c h))
    go false h e again = again e

-- one byte leaves none behind the record that it ends
one-byte : (d : ℕ) (s : State) (fields : List (List ℕ)) (field : List ℕ) (c : ℕ) (p : Read) → next_record (config_of d) s fields field (c ∷ []) ≡ Some p → p.2 ≡ []
unfolding next_record
one-byte d s fields field c p e = go (is_end (step (config_of d) s c).1) (ends_at_end (step (config_of d) s c).0) e
  where
    go : (a b : Bool)
        → (if a then Some (fields_after (step (config_of d) s c).1 fields field, (step (config_of d) s c).0, [])
        else (if b then Some (fields_after (step (config_of d) s c).1 fields field ++ (field_after (step (config_of d) s c).1 c field ∷ []), st.StartRecord, []) else None)) ≡ Some p → p.2 ≡ []
    go true b e = let q : (fields_after (step (config_of d) s c).1 fields field, (step (config_of d) s c).0, []) ≡ p = cc in rw (← q) refl
    go false true e = let q : (fields_after (step (config_of d) s c).1 fields field ++ (field_after (step (config_of d) s c).1 c field ∷ []), st.StartRecord, []) ≡ p = cc in rw (← q) refl
    go false false e = absurd (cc)

unsome : (p q : Read) → Some p ≡ Some q → p ≡ q
unsome p q e = cc

no-byte : (c : ℕ) (xs : List ℕ) → c ∷ xs ≡ [] → ⊥
no-byte c xs e = cc

module _ (d : ℕ) (lawful : may_delimit d ≡ true) (names : List (List ℕ)) (u : List ℕ) where
  abbrev pub cfg : Config
  cfg = config_of d

  abbrev pub IsFed : State → List (List ℕ) → List ℕ → List ℕ → Type 0
  IsFed s fields field a = next_record cfg s fields field (a ++ 10 ∷ 65 ∷ []) ≡ Some (names, st.StartRecord, 65 ∷ [])

  pub record OtherEnds (s : State) (fields : List (List ℕ)) (field a : List ℕ) : Type 0 where
    pub return : next_record cfg s fields field (a ++ 13 ∷ u) ≡ Some (names, st.AfterCr, u)
    pub none : next_record cfg s fields field a ≡ Some (names, st.StartRecord, [])

  -- where a line feed ends the record, a CR ends it, and the end of the text
  here-ends : (s : State) (fields : List (List ℕ)) (field : List ℕ) → IsFed s fields field [] → OtherEnds s fields field []
  unfolding next_record
  here-ends s fields field e = go (is_end (step cfg s 10).1) refl e
    where
      other : (s : State) → is_end (step cfg s 10).1 ≡ true
          → (is_end (step cfg s 13).1 ≡ true) × ((step cfg s 13).0 ≡ st.AfterCr) × ((step cfg s 13).1 ≡ act.EndRecord) × ((step cfg s 10).1 ≡ act.EndRecord) × (ends_at_end s ≡ true)
      other st.StartRecord h = absurd (false≢true h)
      other st.StartField h = rw (no-delimiter d lawful 13 refl, no-delimiter d lawful 10 refl) (refl, refl, refl, refl, refl)
      other st.InField h = rw (no-delimiter d lawful 13 refl, no-delimiter d lawful 10 refl) (refl, refl, refl, refl, refl)
      other st.InQuoted h = absurd (false≢true h)
      other st.InEscape h = absurd (false≢true h)
      other st.AfterQuote h = rw (no-delimiter d lawful 13 refl, no-delimiter d lawful 10 refl) (refl, refl, refl, refl, refl)
      other st.InComment h = absurd (false≢true h)
      other st.AfterCr h = absurd (false≢true h)

      go : (b : Bool) → is_end (step cfg s 10).1 ≡ b
          → (if b then Some (fields_after (step cfg s 10).1 fields field, (step cfg s 10).0, 65 ∷ [])
          else next_record cfg (step cfg s 10).0 (fields_after (step cfg s 10).1 fields field) (field_after (step cfg s 10).1 10 field) (65 ∷ [])) ≡ Some (names, st.StartRecord, 65 ∷ [])
          → OtherEnds s fields field []
      go true h e =
          let o = other s h in
          let q : fields_after (step cfg s 10).1 fields field ≡ names = ap (λ (p : Read). p.0) (unsome _ _ e) in
          let same : fields ++ (field ∷ []) ≡ names = rw o.3 at q in
          record { return = rw (o.0, o.1, o.2, same) refl; none = rw (o.4, same) refl }
      go false h e =
          absurd (no-byte 65 [] (one-byte d (step cfg s 10).0 _ _ 65 _ e))

  pub other-ends : (s : State) (fields : List (List ℕ)) (field a : List ℕ) → IsFed s fields field a → OtherEnds s fields field a
  unfolding next_record
  other-ends s fields field [] e = here-ends s fields field e
  other-ends s fields field (c ∷ a) e =
      go (is_end (step cfg s c).1) refl e (other-ends (step cfg s c).0 (fields_after (step cfg s c).1 fields field) (field_after (step cfg s c).1 c field) a)
    where
      go : (b : Bool) → is_end (step cfg s c).1 ≡ b
          → (if b then Some (fields_after (step cfg s c).1 fields field, (step cfg s c).0, a ++ 10 ∷ 65 ∷ [])
          else next_record cfg (step cfg s c).0 (fields_after (step cfg s c).1 fields field) (field_after (step cfg s c).1 c field) (a ++ 10 ∷ 65 ∷ [])) ≡ Some (names, st.StartRecord, 65 ∷ [])
          → (IsFed (step cfg s c).0 (fields_after (step cfg s c).1 fields field) (field_after (step cfg s c).1 c field) a
          → OtherEnds (step cfg s c).0 (fields_after (step cfg s c).1 fields field) (field_after (step cfg s c).1 c field) a)
          → OtherEnds s fields field (c ∷ a)
      go true h e again =
          let q : a ++ 10 ∷ 65 ∷ [] ≡ 65 ∷ [] = ap (λ (p : Read). p.2) (unsome _ _ e) in
          let size = ap length q in
          absurd (omega (arith, size, length-append a (10 ∷ 65 ∷ [])))
      go false h e again =
          let more = again e in
          record { return = rw h more.return; none = rw h more.none }

-- what is left of a text from the line end on, one more byte at a time
pub from-stop : (cfg : Config) (s : State) (text : List ℕ) (i : ℕ) → i < length text → is_end (step cfg s (get_or text i 0)).1 ≡ true → from_end cfg s (drop i text) ≡ drop i text
unfolding from_end
from-stop cfg s text i h e = rw (drop-cons text i 0 h, e) refl

pub from-on : (cfg : Config) (s next : State) (text : List ℕ) (i : ℕ) → i < length text → is_end (step cfg s (get_or text i 0)).1 ≡ false → (step cfg s (get_or text i 0)).0 ≡ next
    → from_end cfg s (drop i text) ≡ from_end cfg next (drop (i + 1) text)
unfolding from_end
from-on cfg s next text i h e n = rw (drop-cons text i 0 h, e, n, add-one i) refl

pub from-none : (cfg : Config) (s : State) (text : List ℕ) (i : ℕ) → length text ≤ i → from_end cfg s (drop i text) ≡ []
unfolding from_end
from-none cfg s text i h = rw (drop_all i text h) refl

-- what is before a place where the rest is known
pub first-is : (text rest : List ℕ) (end : ℕ) → end ≤ length text → drop end text ≡ rest → take end text ≡ take (length text - length rest) text
first-is text rest end h e =
    let size = length-drop end text in
    let same : length (drop end text) ≡ length rest = ap length e in
    ap (λ (n : ℕ). take n text) (omega (arith, size, same))

pub whole-rest : (text : List ℕ) (end : ℕ) → take (length text - end) (drop end text) ≡ drop end text
whole-rest text end = ap (λ (n : ℕ). take n (drop end text)) (sym (length-drop end text)) ∙ take-length (drop end text)
