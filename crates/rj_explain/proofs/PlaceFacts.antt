-- How a place in a text moves on over a record.
use Rattle.std.proofs.Common.{◌≡◌, ◌<◌, ◌≤◌, ◌+◌, ℕ, zero, suc, List, [], ◌∷◌, ◌++◌, length, take, drop, get_or, slice_get, map, Bor, ◌-◌, true, false, Bool, Some, None, Option, refl, sym, ap, subst, arith, inl, inr, ◌∙◌, add-one}
use Rattle.std.specs.Prelude.{if◌then◌else◌, ◌==◌, ◌&&◌, ◌⊎◌, is_some, min, not}
use Rattle.std.specs.List.{list_all}
use Rattle.std.proofs.lemmas.Bool.{cases_Bool, eqb-true, false≢true}
use Rattle.std.proofs.lemmas.List.{drop_min, length-append, length-drop, take_all}
use Rattle.csv.specs.declared.parser.Terminator.TheVariants as term
use Rattle.csv.specs.declared.parser.State.{State}
use Rattle.csv.specs.declared.parser.State.TheVariants as st
use Rattle.csv.specs.declared.parser.Action.{Action}
use Rattle.csv.specs.Machine.{Read, next_record, step, in_field, start_field, ends_with, ends_at_end, is_end, fields_after, field_after}
use Rattle.csv.specs.Reading.{Reached, records, records_from, records_next}
use Rattle.rj_csv_io.specs.StrictReading.{config_of}
use Rattle.rj_csv_io.specs.NameEnds.{behind_first}
use Rattle.rj_csv_io.proofs.NameEndFacts.{EndsAs, IsLineEnd, at-end, at-line, ends-as}
use Rattle.rj_explain.specs.Places.{EndsFirst, HasNoRow, IsBetween, IsRow, StandsAt, at_column, first_byte, is_line_end, line_of}

-- a reader behind a CR reads on as one before a record
behind-return : (d : ℕ) (xs : List ℕ) → next_record (config_of d) st.AfterCr [] [] xs ≡ next_record (config_of d) st.StartRecord [] [] xs
unfolding next_record
behind-return d [] = refl
behind-return d (c ∷ xs) = elim (cases_Bool (c == 10)) [
  | inl e ↦ subst (λ z. next_record (config_of d) st.AfterCr [] [] (z ∷ xs) ≡ next_record (config_of d) st.StartRecord [] [] (z ∷ xs)) (sym (eqb-true c 10 e)) refl
  | inr n ↦ rw n refl
]

pub between-reads : (d : ℕ) (s : State) (xs : List ℕ) → IsBetween s → next_record (config_of d) s [] [] xs ≡ next_record (config_of d) st.StartRecord [] [] xs
between-reads d s xs h = elim h [
  | inl e ↦ rw e refl
  | inr e ↦ rw e (behind-return d xs)
]

-- a state within a record
abbrev IsWithin : State → Type 0
IsWithin s = (s ≡ st.StartField) ⊎ (s ≡ st.InField) ⊎ (s ≡ st.InQuoted) ⊎ (s ≡ st.AfterQuote)

-- a byte ends the record, or leaves the reader within it
abbrev GoesOn : State × Action → Type 0
GoesOn p = is_end p.1 ≡ false → IsWithin p.0

goes-if : (b : Bool) (p q : State × Action) → GoesOn p → GoesOn q → GoesOn (if b then p else q)
goes-if true p q hp hq = hp
goes-if false p q hp hq = hq

field-goes : (d c : ℕ) → GoesOn (in_field (config_of d) c)
field-goes d c =
    goes-if (c == d) _ _ (λ e. inl refl)
    (goes-if (ends_with term.CRLF c) _ _ (λ e. absurd (false≢true (sym e))) (λ e. inr (inl refl)))

start-goes : (d c : ℕ) → GoesOn (start_field (config_of d) c)
start-goes d c = goes-if (c == 34) _ _ (λ e. inr (inr (inl refl))) (field-goes d c)

step-goes : (d : ℕ) (s : State) (c : ℕ) → IsWithin s → GoesOn (step (config_of d) s c)
step-goes d s c (inl e) = rw e (start-goes d c)
step-goes d s c (inr (inl e)) = rw e (field-goes d c)
step-goes d s c (inr (inr (inl e))) = rw e (goes-if (c == 34) _ _ (λ h. inr (inr (inr refl))) (λ h. inr (inr (inl refl))))
step-goes d s c (inr (inr (inr e))) = rw e (goes-if (c == 34) _ _ (λ h. inr (inr (inl refl))) (field-goes d c))

ends-within : (s : State) → IsWithin s → ends_at_end s ≡ true
ends-within s (inl e) = rw e refl
ends-within s (inr (inl e)) = rw e refl
ends-within s (inr (inr (inl e))) = rw e refl
ends-within s (inr (inr (inr e))) = rw e refl

-- a record that has begun is read
begun-reads : (d : ℕ) (s : State) (fields : List (List ℕ)) (field text : List ℕ) → IsWithin s → is_some (next_record (config_of d) s fields field text) ≡ true
unfolding next_record
begun-reads d s fields field [] h = rw (ends-within s h) refl
begun-reads d s fields field (c ∷ text) h =
    go (is_end (step (config_of d) s c).1) refl (begun-reads d (step (config_of d) s c).0 (fields_after (step (config_of d) s c).1 fields field) (field_after (step (config_of d) s c).1 c field) text)
  where
    go : (b : Bool) → is_end (step (config_of d) s c).1 ≡ b
        → (IsWithin (step (config_of d) s c).0
        → is_some (next_record (config_of d) (step (config_of d) s c).0 (fields_after (step (config_of d) s c).1 fields field) (field_after (step (config_of d) s c).1 c field) text) ≡ true)
        → is_some (next_record (config_of d) s fields field (c ∷ text)) ≡ true
    go true e again = rw e refl
    go false e again = rw e (again (step-goes d s c h e))

-- a text has a record unless it is line ends alone
pub has-record : (d : ℕ) (text : List ℕ) → is_some (next_record (config_of d) st.StartRecord [] [] text) ≡ not (list_all is_line_end text)
unfolding next_record
has-record d [] = refl
has-record d (c ∷ text) = go (is_line_end c) refl (has-record d text)
  where
    begins : is_line_end c ≡ false → next_record (config_of d) st.StartRecord [] [] (c ∷ text) ≡ next_record (config_of d) st.StartField [] [] (c ∷ text)
    begins e = rw e refl

    go : (b : Bool) → is_line_end c ≡ b → is_some (next_record (config_of d) st.StartRecord [] [] text) ≡ not (list_all is_line_end text)
        → is_some (next_record (config_of d) st.StartRecord [] [] (c ∷ text)) ≡ not (is_line_end c && list_all is_line_end text)
    go true e again = rw e again
    go false e again = ap is_some (begins e) ∙ (begun-reads d st.StartField [] [] (c ∷ text) (inl refl) ∙ rw e refl)

pub no-record : (d : ℕ) (text : List ℕ) → list_all is_line_end text ≡ true → next_record (config_of d) st.StartRecord [] [] text ≡ None
no-record d text e = go (next_record (config_of d) st.StartRecord [] [] text) (has-record d text ∙ ap not e)
  where
    go : (o : Option Read) → is_some o ≡ false → o ≡ None
    go None h = refl
    go (Some p) h = absurd (false≢true (sym h))

drop-none : (k : ℕ) → drop {A = ℕ} k [] ≡ []
drop-none zero = refl
drop-none (suc k) = refl

pub drop-drop : (m n : ℕ) (text : List ℕ) → drop m (drop n text) ≡ drop (n + m) text
drop-drop m zero text = let e : m ≡ 0 + m = omega arith in ap (λ (k : ℕ). drop k text) e
drop-drop m (suc n) [] = drop-none m ∙ sym (drop-none (suc n + m))
drop-drop m (suc n) (c ∷ text) = let e : suc n + m ≡ suc (n + m) = omega arith in rw e (drop-drop m n text)

-- where the first record ends, by where its line end is
pub first-ends : (d : ℕ) (text : List ℕ) (end : ℕ) → list_all is_line_end text ≡ false → drop end text ≡ behind_first d text → EndsFirst d text (min (end + 1) (length text))
first-ends d text end some at = go (next_record (config_of d) st.StartRecord [] [] text) refl (has-record d text ∙ ap not some)
  where
    rest : drop (min (end + 1) (length text)) text ≡ drop 1 (behind_first d text)
    rest = drop_min (end + 1) text ∙ (sym (drop-drop 1 end text) ∙ ap (λ (ys : List ℕ). drop 1 ys) at)

    between : (c : ℕ) (s : State) → IsLineEnd c s → IsBetween s
    between c s h = elim h.ends [
      | inl e ↦ inl e.1
      | inr e ↦ inr e.1
    ]

    left : (p : Read) → EndsAs (behind_first d text) p → IsBetween p.1 × (drop 1 (behind_first d text) ≡ p.2)
    left p (at-end none s no-more) = (inl s, ap (λ (ys : List ℕ). drop 1 ys) none ∙ sym no-more)
    left p (at-line c more line) = (between c p.1 line, ap (λ (ys : List ℕ). drop 1 ys) more)

    go : (o : Option Read) → next_record (config_of d) st.StartRecord [] [] text ≡ o → is_some o ≡ true → EndsFirst d text (min (end + 1) (length text))
    go None e h = absurd (false≢true h)
    go (Some p) e h =
        let behind = left p (ends-as d st.StartRecord [] [] text p e) in
        (p.0, p.1, behind.0, e ∙ ap (λ (ys : List ℕ). Some (p.0, p.1, ys)) (sym (rest ∙ behind.1)))

-- what a text has left from a place on
pub rest-drop : (text : List ℕ) (at : ℕ) → take (length text - at) (drop at text) ≡ drop at text
rest-drop text at = let size = length-drop at text in take_all (length text - at) (drop at text) (omega (arith, size))

-- one more record
reached-more : (d : ℕ) (s : State) (xs : List ℕ) (rs : List (List (List ℕ))) (s2 : State) (ys : List ℕ) (p : Read)
    → Reached (config_of d) s xs rs s2 ys → next_record (config_of d) s2 [] [] ys ≡ Some p → Reached (config_of d) s xs (rs ++ p.0 ∷ []) p.1 p.2
unfolding Reached
reached-more d s xs [] s2 ys p h e = (p, rw (h.0, h.1) e, refl, (refl, refl))
reached-more d s xs (r ∷ rs) s2 ys p h e = (h.0, h.1, h.2, reached-more d h.0.1 h.0.2 rs s2 ys p h.3 e)

reached-none : (d : ℕ) (s : State) (xs : List ℕ) → Reached (config_of d) s xs [] s xs
unfolding Reached
reached-none d s xs = (refl, refl)

pub stands-first : (d : ℕ) (text : List ℕ) → StandsAt d text 0 0
stands-first d text = record { before = []; state = st.StartRecord; reached = reached-none d st.StartRecord text; between = inl refl; count = refl }

pub stands-more : (d : ℕ) (text : List ℕ) (row at size : ℕ) → StandsAt d text row at → EndsFirst d (drop at text) size → StandsAt d text (row + 1) (at + size)
stands-more d text row at size h e =
    let next : next_record (config_of d) h.state [] [] (drop at text) ≡ Some (e.0, e.1, drop size (drop at text)) =
    between-reads d h.state (drop at text) h.between ∙ e.3 in
    let more = reached-more d st.StartRecord text h.before h.state (drop at text) (e.0, e.1, drop size (drop at text)) h.reached next in
    let size-more = length-append h.before (e.0 ∷ []) in
    record {
      before = h.before ++ e.0 ∷ [];
      state = e.1;
      reached = subst (λ (ys : List ℕ). Reached (config_of d) st.StartRecord text (h.before ++ e.0 ∷ []) e.1 ys) (drop-drop size at text) more;
      between = e.2;
      count = omega (arith, size-more, h.count);
    }

pub no-row : (d : ℕ) (text : List ℕ) (row rows at : ℕ) → StandsAt d text row at → row ≤ rows → next_record (config_of d) st.StartRecord [] [] (drop at text) ≡ None
    → HasNoRow d text rows
no-row d text row rows at h few e =
    (h.before, (h.state, drop at text, h.reached, between-reads d h.state (drop at text) h.between ∙ e), omega (arith, few, h.count))

-- the first record of a text
first-of : (d n : ℕ) (xs : List ℕ) (o : Option Read) (r : List (List ℕ)) (rest : List (List (List ℕ)))
    → records_next (records_from (config_of d) n) o ≡ r ∷ rest → (p : Read) × (o ≡ Some p) × (p.0 ≡ r)
first-of d n xs None r rest e = let size = ap length e in absurd (omega (arith, size))
first-of d n xs (Some p) r rest e = (p, refl, ap (λ (rs : List (List (List ℕ))). get_or rs 0 []) e)

pub records-first : (d : ℕ) (xs : List ℕ) (r : List (List ℕ)) (rest : List (List (List ℕ))) → records (config_of d) xs ≡ r ∷ rest
    → (p : Read) × (next_record (config_of d) st.StartRecord [] [] xs ≡ Some p) × (p.0 ≡ r)
unfolding records_from
records-first d xs r rest e = first-of d (length xs) xs (next_record (config_of d) st.StartRecord [] [] xs) r rest (rw (add-one (length xs)) at e)

none-of : (d n : ℕ) (o : Option Read) → records_next (records_from (config_of d) n) o ≡ [] → o ≡ None
none-of d n None e = refl
none-of d n (Some p) e = let size = ap length e in absurd (omega (arith, size))

pub records-none : (d : ℕ) (xs : List ℕ) → records (config_of d) xs ≡ [] → next_record (config_of d) st.StartRecord [] [] xs ≡ None
unfolding records_from
records-none d xs e = none-of d (length xs) (next_record (config_of d) st.StartRecord [] [] xs) (rw (add-one (length xs)) at e)

-- the field at a column
field-is : (items : List (Bor (List ℕ))) (i : ℕ) (b : Bor (List ℕ)) → i < length items → b ≡ get_or items i b
    → slice_get (map (λ (f : Bor (List ℕ)). f.now) items) i ≡ Some b.now
field-is [] i b h e = absurd (omega arith)
field-is (x ∷ items) zero b h e = ap (λ (f : Bor (List ℕ)). Some f.now) (sym e)
field-is (x ∷ items) (suc i) b h e = field-is items i b (omega arith) e

pub at-column : (items : List (Bor (List ℕ))) (names : List (List ℕ)) (column : ℕ) (b : Bor (List ℕ)) → map (λ (f : Bor (List ℕ)). f.now) items ≡ names
    → (column ≡ 0 → ⊥) → column ≤ length items → b ≡ get_or items (column - 1) b → Some b.now ≡ at_column column names
at-column items names zero b e some within f = absurd (some refl)
at-column items names (suc i) b e some within f = sym (ap (λ (xs : List (List ℕ)). slice_get xs i) (sym e) ∙ field-is items i b (omega arith) (let k : suc i - 1 ≡ i = omega arith in rw k at f))

pub row-is : (d : ℕ) (text : List ℕ) (row at line : ℕ) (names : List (List ℕ)) (rest : List (List (List ℕ))) → StandsAt d text row at
    → records (config_of d) (drop at text) ≡ names ∷ rest → line ≡ line_of text (first_byte text at) → IsRow d text row line names
row-is d text row at line names rest h e on =
    let first = records-first d (drop at text) names rest e in
    record {
      at = at;
      stands = h;
      read = first.0;
      next = between-reads d h.state (drop at text) h.between ∙ first.1;
      fields_of_it = first.2;
      on_line = on;
    }
