-- Every record of a text, byte by byte.
use Rattle.std.proofs.Common.{◌≡◌, ◌≤◌, ℕ, zero, suc, List, [], ◌∷◌, ◌++◌, length}
use Rattle.std.proofs.Common.{true, false, Bool, Some, None, refl, ap, arith, add-one}
use Rattle.std.specs.Prelude.{if◌then◌else◌}
use Rattle.csv.specs.declared.parser.State.{State}
use Rattle.csv.specs.declared.parser.State.TheVariants as st
use Rattle.csv.specs.Machine.{next_record, step, ends_at_end, is_end, fields_after, field_after}
use Rattle.csv.specs.Reading.{records, records_from, records_next}
use Rattle.rj_csv_io.specs.StrictReading.{config_of}

unfoldable pub all_records : ℕ → State → List (List ℕ) → List ℕ → List ℕ → List (List (List ℕ))
all_records d s fields field [] = if ends_at_end s then (fields ++ field ∷ []) ∷ [] else []
all_records d s fields field (c ∷ rest) =
    if is_end (step (config_of d) s c).1
    then fields_after (step (config_of d) s c).1 fields field ∷ all_records d (step (config_of d) s c).0 [] [] rest
    else all_records d (step (config_of d) s c).0 (fields_after (step (config_of d) s c).1 fields field) (field_after (step (config_of d) s c).1 c field) rest

no-bytes : (d n : ℕ) → records_from (config_of d) n st.StartRecord [] ≡ []
unfolding records_from next_record
no-bytes d zero = refl
no-bytes d (suc n) = refl

by-byte : (d : ℕ) (xs : List ℕ) (n : ℕ) (s : State) (fields : List (List ℕ)) (field : List ℕ) → length xs ≤ n
    → records_next (records_from (config_of d) n) (next_record (config_of d) s fields field xs) ≡ all_records d s fields field xs
unfolding next_record all_records records_from
by-byte d [] n s fields field h = go (ends_at_end s)
  where
    go : (b : Bool) → records_next (records_from (config_of d) n) (if b then Some (fields ++ (field ∷ []), st.StartRecord, []) else None) ≡ (if b then (fields ++ field ∷ []) ∷ [] else [])
    go true = ap (λ t. (fields ++ field ∷ []) ∷ t) (no-bytes d n)
    go false = refl
by-byte d (c ∷ rest) zero s fields field h = absurd (omega arith)
by-byte d (c ∷ rest) (suc n) s fields field h =
    go (is_end (step (config_of d) s c).1) (by-byte d rest n (step (config_of d) s c).0 [] [] (omega arith))
    (by-byte d rest (suc n) (step (config_of d) s c).0 (fields_after (step (config_of d) s c).1 fields field) (field_after (step (config_of d) s c).1 c field) (omega arith))
  where
    go : (b : Bool)
        → records_next (records_from (config_of d) n) (next_record (config_of d) (step (config_of d) s c).0 [] [] rest) ≡ all_records d (step (config_of d) s c).0 [] [] rest
        → records_next (records_from (config_of d) (suc n)) (next_record (config_of d) (step (config_of d) s c).0 (fields_after (step (config_of d) s c).1 fields field) (field_after (step (config_of d) s c).1 c field) rest)
        ≡ all_records d (step (config_of d) s c).0 (fields_after (step (config_of d) s c).1 fields field) (field_after (step (config_of d) s c).1 c field) rest
        → records_next (records_from (config_of d) (suc n))
        (if b then Some (fields_after (step (config_of d) s c).1 fields field, (step (config_of d) s c).0, rest)
        else next_record (config_of d) (step (config_of d) s c).0 (fields_after (step (config_of d) s c).1 fields field) (field_after (step (config_of d) s c).1 c field) rest)
        ≡ (if b then fields_after (step (config_of d) s c).1 fields field ∷ all_records d (step (config_of d) s c).0 [] [] rest
        else all_records d (step (config_of d) s c).0 (fields_after (step (config_of d) s c).1 fields field) (field_after (step (config_of d) s c).1 c field) rest)
    go true e f = ap (λ t. fields_after (step (config_of d) s c).1 fields field ∷ t) e
    go false e f = f

pub records-all : (d : ℕ) (xs : List ℕ) → records (config_of d) xs ≡ all_records d st.StartRecord [] [] xs
unfolding records_from
records-all d xs = rw (add-one (length xs)) (by-byte d xs (length xs) st.StartRecord [] [] (omega arith))
