-- The records of a text that is cut after a record's end.
use Rattle.std.proofs.Common.{◌≡◌, ◌<◌, ◌≤◌, ℕ, zero, suc, List, [], ◌∷◌, ◌++◌, length, take, drop, get_or}
use Rattle.std.proofs.Common.{append_assoc, true, false, Bool, Some, None, refl, sym, ap, arith, ◌∙◌, add-one}
use Rattle.std.specs.Prelude.{if◌then◌else◌, ◌==◌}
use Rattle.std.proofs.lemmas.Bool.{false≢true}
use Rattle.std.proofs.lemmas.List.{append-nil, take-append-drop}
use Rattle.csv.specs.declared.parser.Terminator.TheVariants as term
use Rattle.csv.specs.declared.parser.State.{State}
use Rattle.csv.specs.declared.parser.State.TheVariants as st
use Rattle.csv.specs.declared.parser.Action.{Action}
use Rattle.csv.specs.Machine.{next_record, step, in_field, start_field, start_record, ends_with, ends_at_end, is_end, fields_after, field_after, line_feed}
use Rattle.csv.specs.Reading.{records, records_from, records_next, strip_bom, is_bom}
use Rattle.rj_csv_io.specs.Grammar.{may_delimit}
use Rattle.rj_csv_io.specs.StrictReading.{config_of}
use Rattle.rj_csv_io.specs.Cuts.{records_in, records_in_all, state_after, is_open, has_bom}
use Rattle.rj_csv_io.proofs.DelimiterFacts.{no-delimiter}

-- every record of a text, byte by byte
unfoldable all_records : ℕ → State → List (List ℕ) → List ℕ → List ℕ → List (List (List ℕ))
all_records d s fields field [] = if ends_at_end s then (fields ++ field ∷ []) ∷ [] else []
all_records d s fields field (c ∷ rest) =
    if is_end (step (config_of d) s c).1
    then fields_after (step (config_of d) s c).1 fields field ∷ all_records d (step (config_of d) s c).0 [] [] rest
    else all_records d (step (config_of d) s c).0 (fields_after (step (config_of d) s c).1 fields field) (field_after (step (config_of d) s c).1 c field) rest

no-bytes : (d : ℕ) (n : ℕ) → records_from (config_of d) n st.StartRecord [] ≡ []
unfolding records_from next_record
no-bytes d zero = refl
no-bytes d (suc n) = refl

by-byte : (d : ℕ) (xs : List ℕ) (n : ℕ) (s : State) (fields : List (List ℕ)) (field : List ℕ) → length xs ≤ n
    → records_next (records_from (config_of d) n) (next_record (config_of d) s fields field xs) ≡ all_records d s fields field xs
unfolding next_record all_records records_from
by-byte d [] n s fields field h = go (ends_at_end s)
  where
    go : (b : Bool) → records_next (records_from (config_of d) n) (if b then Some (fields ++ (field ∷ []), st.StartRecord, []) else None) ≡ (if b then (fields ++ field ∷ []) ∷ [] else [])
    go true = ap (λ t. (fields ++ field ∷ []) ∷ t) (no-bytes d n)
    go false = refl
by-byte d (c ∷ rest) zero s fields field h = absurd (omega arith)
by-byte d (c ∷ rest) (suc n) s fields field h =
    go (is_end (step (config_of d) s c).1) (by-byte d rest n (step (config_of d) s c).0 [] [] (omega arith))
    (by-byte d rest (suc n) (step (config_of d) s c).0 (fields_after (step (config_of d) s c).1 fields field) (field_after (step (config_of d) s c).1 c field) (omega arith))
  where
    go : (b : Bool)
        → records_next (records_from (config_of d) n) (next_record (config_of d) (step (config_of d) s c).0 [] [] rest) ≡ all_records d (step (config_of d) s c).0 [] [] rest
        → records_next (records_from (config_of d) (suc n)) (next_record (config_of d) (step (config_of d) s c).0 (fields_after (step (config_of d) s c).1 fields field) (field_after (step (config_of d) s c).1 c field) rest)
        ≡ all_records d (step (config_of d) s c).0 (fields_after (step (config_of d) s c).1 fields field) (field_after (step (config_of d) s c).1 c field) rest
        → records_next (records_from (config_of d) (suc n))
        (if b then Some (fields_after (step (config_of d) s c).1 fields field, (step (config_of d) s c).0, rest)
        else next_record (config_of d) (step (config_of d) s c).0 (fields_after (step (config_of d) s c).1 fields field) (field_after (step (config_of d) s c).1 c field) rest)
        ≡ (if b then fields_after (step (config_of d) s c).1 fields field ∷ all_records d (step (config_of d) s c).0 [] [] rest
        else all_records d (step (config_of d) s c).0 (fields_after (step (config_of d) s c).1 fields field) (field_after (step (config_of d) s c).1 c field) rest)
    go true e f = ap (λ t. fields_after (step (config_of d) s c).1 fields field ∷ t) e
    go false e f = f

records-all : (d : ℕ) (xs : List ℕ) → records (config_of d) xs ≡ all_records d st.StartRecord [] [] xs
unfolding records_from
records-all d xs = rw (add-one (length xs)) (by-byte d xs (length xs) st.StartRecord [] [] (omega arith))

-- between two records
abbrev is_between : State → Bool
is_between st.StartRecord = true
is_between st.StartField = false
is_between st.InField = false
is_between st.InQuoted = false
is_between st.AfterQuote = false
is_between st.InEscape = false
is_between st.InComment = true
is_between st.AfterCr = true

-- no field is at hand between two records
abbrev Clean : State → List (List ℕ) → List ℕ → Type 0
Clean s fields field = is_between s ≡ true → (fields ≡ []) × (field ≡ [])

abbrev StaysClean : List (List ℕ) → List ℕ → ℕ → State × Action → Type 0
StaysClean fields field c p = is_end p.1 ≡ false → Clean p.0 (fields_after p.1 fields field) (field_after p.1 c field)

module _ (d : ℕ) (fields : List (List ℕ)) (field : List ℕ) (c : ℕ) where
  clean-if : (b : Bool) (p q : State × Action) → StaysClean fields field c p → StaysClean fields field c q → StaysClean fields field c (if b then p else q)
  clean-if true p q hp hq = hp
  clean-if false p q hp hq = hq

  field-clean : StaysClean fields field c (in_field (config_of d) c)
  field-clean =
      clean-if (c == d) _ _ (λ e b. absurd (false≢true b))
      (clean-if (ends_with term.CRLF c) _ _ (λ e. absurd (false≢true (sym e))) (λ e b. absurd (false≢true b)))

  start_field-clean : StaysClean fields field c (start_field (config_of d) c)
  start_field-clean = clean-if (c == 34) _ _ (λ e b. absurd (false≢true b)) field-clean

  start_record-clean : (fields ≡ []) × (field ≡ []) → StaysClean fields field c (start_record (config_of d) c)
  start_record-clean none = clean-if (ends_with term.CRLF c) _ _ (λ e b. none) start_field-clean

  step-clean : (s : State) → Clean s fields field → StaysClean fields field c (step (config_of d) s c)
  step-clean st.StartRecord h = start_record-clean (h refl)
  step-clean st.StartField h = start_field-clean
  step-clean st.InField h = field-clean
  step-clean st.InQuoted h =
      clean-if (c == 34) _ _ (λ e b. absurd (false≢true b)) (λ e b. absurd (false≢true b))
  step-clean st.InEscape h = λ e b. absurd (false≢true b)
  step-clean st.AfterQuote h = clean-if (c == 34) _ _ (λ e b. absurd (false≢true b)) field-clean
  step-clean st.InComment h = clean-if (c == line_feed) _ _ (λ e b. h refl) (λ e b. h refl)
  step-clean st.AfterCr h = clean-if (c == line_feed) _ _ (λ e b. h refl) (start_record-clean (h refl))

all-split : (d : ℕ) (a b : List ℕ) (s : State) (fields : List (List ℕ)) (field : List ℕ) → Clean s fields field → state_after d s a ≡ st.StartRecord
    → all_records d s fields field (a ++ b) ≡ all_records d s fields field a ++ all_records d st.StartRecord [] [] b
unfolding all_records state_after
all-split d [] b s fields field h e =
    let none = h (ap is_between e) in
    rw (e, none.0, none.1) refl
all-split d (c ∷ a) b s fields field h e = go (is_end (step (config_of d) s c).1) (step-clean d fields field c s h)
    (all-split d a b (step (config_of d) s c).0 [] [] (λ _. (refl, refl)) e)
    (λ clean. all-split d a b (step (config_of d) s c).0 (fields_after (step (config_of d) s c).1 fields field) (field_after (step (config_of d) s c).1 c field) clean e)
  where
    go : (x : Bool)
        → (x ≡ false → Clean (step (config_of d) s c).0 (fields_after (step (config_of d) s c).1 fields field) (field_after (step (config_of d) s c).1 c field))
        → all_records d (step (config_of d) s c).0 [] [] (a ++ b) ≡ all_records d (step (config_of d) s c).0 [] [] a ++ all_records d st.StartRecord [] [] b
        → (Clean (step (config_of d) s c).0 (fields_after (step (config_of d) s c).1 fields field) (field_after (step (config_of d) s c).1 c field)
        → all_records d (step (config_of d) s c).0 (fields_after (step (config_of d) s c).1 fields field) (field_after (step (config_of d) s c).1 c field) (a ++ b)
        ≡ all_records d (step (config_of d) s c).0 (fields_after (step (config_of d) s c).1 fields field) (field_after (step (config_of d) s c).1 c field) a ++ all_records d st.StartRecord [] [] b)
        → (if x then fields_after (step (config_of d) s c).1 fields field ∷ all_records d (step (config_of d) s c).0 [] [] (a ++ b)
        else all_records d (step (config_of d) s c).0 (fields_after (step (config_of d) s c).1 fields field) (field_after (step (config_of d) s c).1 c field) (a ++ b))
        ≡ (if x then fields_after (step (config_of d) s c).1 fields field ∷ all_records d (step (config_of d) s c).0 [] [] a
        else all_records d (step (config_of d) s c).0 (fields_after (step (config_of d) s c).1 fields field) (field_after (step (config_of d) s c).1 c field) a) ++ all_records d st.StartRecord [] [] b
    go true clean p q = ap (λ t. fields_after (step (config_of d) s c).1 fields field ∷ t) p
    go false clean p q = q (clean refl)

-- a text that is cut after the end of a record
pub records-split : (d : ℕ) (a b : List ℕ) → state_after d st.StartRecord a ≡ st.StartRecord
    → records (config_of d) (a ++ b) ≡ records (config_of d) a ++ records (config_of d) b
records-split d a b e = records-all d (a ++ b) ∙ all-split d a b st.StartRecord [] [] (λ _. (refl, refl)) e ∙ rw (records-all d a, records-all d b) refl

-- a text with no byte order mark has none at the start of its first part
pub plain-part : (a b : List ℕ) → strip_bom (a ++ b) ≡ a ++ b → strip_bom a ≡ a
unfolding strip_bom
plain-part [] b e = refl
plain-part (x ∷ []) b e = refl
plain-part (x ∷ y ∷ []) b e = refl
plain-part (x ∷ y ∷ z ∷ a) b e = go (is_bom x y z) e
  where
    go : (m : Bool) → (if m then a ++ b else x ∷ y ∷ z ∷ (a ++ b)) ≡ x ∷ y ∷ z ∷ (a ++ b) → (if m then a else x ∷ y ∷ z ∷ a) ≡ x ∷ y ∷ z ∷ a
    go true e = let size = ap length e in absurd (omega (arith, size))
    go false e = refl

pub in-split : (d : ℕ) (a b : List ℕ) → strip_bom (a ++ b) ≡ a ++ b → strip_bom b ≡ b → state_after d st.StartRecord a ≡ st.StartRecord
    → records_in d (a ++ b) ≡ records_in d a ++ records_in d b
in-split d a b e f h = rw (e, f, plain-part a b e) (records-split d a b h)

-- an LF outside quotes ends a record
lf-closes : (d : ℕ) → may_delimit d ≡ true → (s : State) → is_open (step (config_of d) s 10).0 ≡ false → (step (config_of d) s 10).0 ≡ st.StartRecord
lf-closes d lawful st.StartRecord e = refl
lf-closes d lawful st.StartField e = rw (no-delimiter d lawful 10 refl) refl
lf-closes d lawful st.InField e = rw (no-delimiter d lawful 10 refl) refl
lf-closes d lawful st.InQuoted e = absurd (false≢true (sym e))
lf-closes d lawful st.AfterQuote e = rw (no-delimiter d lawful 10 refl) refl
lf-closes d lawful st.InEscape e = absurd (false≢true (sym e))
lf-closes d lawful st.InComment e = refl
lf-closes d lawful st.AfterCr e = refl

pub after-append : (d : ℕ) (s : State) (a b : List ℕ) → state_after d s (a ++ b) ≡ state_after d (state_after d s a) b
unfolding state_after
after-append d s [] b = refl
after-append d s (c ∷ a) b = after-append d (step (config_of d) s c).0 a b

pub line-closes : (d : ℕ) → may_delimit d ≡ true → (s : State) (a : List ℕ) → is_open (state_after d s (a ++ 10 ∷ [])) ≡ false → state_after d s (a ++ 10 ∷ []) ≡ st.StartRecord
unfolding state_after
line-closes d lawful s a e = let more = after-append d s a (10 ∷ []) in rw more (lf-closes d lawful (state_after d s a) (rw more at e))

pub bom-short : (text : List ℕ) → length text < 3 → has_bom text ≡ false
unfolding has_bom
bom-short [] h = refl
bom-short (a ∷ []) h = refl
bom-short (a ∷ b ∷ []) h = refl
bom-short (a ∷ b ∷ c ∷ rest) h = absurd (omega arith)

pub bom-long : (text : List ℕ) → 3 ≤ length text → has_bom text ≡ is_bom (get_or text 0 0) (get_or text 1 0) (get_or text 2 0)
unfolding has_bom
bom-long [] h = absurd (omega arith)
bom-long (a ∷ []) h = absurd (omega arith)
bom-long (a ∷ b ∷ []) h = absurd (omega arith)
bom-long (a ∷ b ∷ c ∷ rest) h = refl

pub strip-bom : (text : List ℕ) → has_bom text ≡ true → strip_bom text ≡ drop 3 text
unfolding has_bom strip_bom
strip-bom [] h = absurd (false≢true h)
strip-bom (a ∷ []) h = absurd (false≢true h)
strip-bom (a ∷ b ∷ []) h = absurd (false≢true h)
strip-bom (a ∷ b ∷ c ∷ rest) h = rw h refl

pub strip-plain : (text : List ℕ) → has_bom text ≡ false → strip_bom text ≡ text
unfolding has_bom strip_bom
strip-plain [] h = refl
strip-plain (a ∷ []) h = refl
strip-plain (a ∷ b ∷ []) h = refl
strip-plain (a ∷ b ∷ c ∷ rest) h = rw h refl

pub all-none : (d : ℕ) → records_in_all d [] ≡ []
unfolding records_in_all
all-none d = refl

pub all-one : (d : ℕ) (text : List ℕ) → records_in_all d (text ∷ []) ≡ records_in d text
unfolding records_in_all
all-one d text = append-nil (records_in d text)

-- more texts
pub all-append : (d : ℕ) (a b : List (List ℕ)) → records_in_all d (a ++ b) ≡ records_in_all d a ++ records_in_all d b
unfolding records_in_all
all-append d [] b = refl
all-append d (p ∷ a) b = ap (λ r. records_in d p ++ r) (all-append d a b) ∙ sym (append_assoc (records_in d p) (records_in_all d a) (records_in_all d b))

-- one more text
pub all-more : (d : ℕ) (texts : List (List ℕ)) (text : List ℕ) → records_in_all d (texts ++ text ∷ []) ≡ records_in_all d texts ++ records_in d text
all-more d texts text = all-append d texts (text ∷ []) ∙ ap (λ r. records_in_all d texts ++ r) (all-one d text)

-- a text more
pub text-step : (d : ℕ) (done : List (List ℕ)) (rest whole : List ℕ) (at : ℕ) → strip_bom rest ≡ rest → strip_bom (drop at rest) ≡ drop at rest
    → state_after d st.StartRecord (take at rest) ≡ st.StartRecord → records_in_all d done ++ records_in d rest ≡ records_in d whole
    → records_in_all d (done ++ take at rest ∷ []) ++ records_in d (drop at rest) ≡ records_in d whole
text-step d done rest whole at e f h so =
    let parts = take-append-drop at rest in
    let unmarked : strip_bom (take at rest ++ drop at rest) ≡ take at rest ++ drop at rest = ap strip_bom parts ∙ (e ∙ sym parts) in
    let split = in-split d (take at rest) (drop at rest) unmarked f h in
    ap (λ r. r ++ records_in d (drop at rest)) (all-more d done (take at rest))
    ∙ (append_assoc (records_in_all d done) (records_in d (take at rest)) (records_in d (drop at rest))
    ∙ (ap (λ r. records_in_all d done ++ r) (sym split ∙ ap (records_in d) parts) ∙ so))
