-- Texts by a lawful delimiter are texts by the comma in which the two bytes are exchanged. So what
-- is written by the delimiter is read back by it.
use Rattle.std.proofs.Common.{◌≡◌, ◌∙◌, ℕ, List, [], ◌∷◌, ◌++◌, map, length, Bool, true, false, Option, Some, None, refl, sym, ap, subst, inl, inr}
use Rattle.std.specs.Prelude.{◌==◌, ◌||◌, if◌then◌else◌, option_map}
use Rattle.std.specs.List.{list_any}
use Rattle.std.proofs.lemmas.Bool.{cases_Bool, eq-eqb, eqb-false, eqb-true, ne_eqb}
use Rattle.std.proofs.lemmas.List.{length-map, map-append}
use Rattle.csv.specs.declared.parser.Action.{Action}
use Rattle.csv.specs.declared.parser.Action.TheVariants as act
use Rattle.csv.specs.declared.parser.State.{State}
use Rattle.csv.specs.declared.parser.State.TheVariants as st
use Rattle.csv.specs.Machine.{Read, ends_at_end, field_after, fields_after, is_end, next_record, step}
use Rattle.csv.specs.Reading.{default_config}
use Rattle.csv.specs.Writing.{default_writer, escaped, field_text, fields_text, is_blank, needs_byte, needs_quotes, read_back, row_body, row_text}
use Rattle.csv.proofs.RoundTrip.{read-write}
use Rattle.rj_csv_io.specs.Grammar.{may_delimit}
use Rattle.rj_csv_io.specs.StrictReading.{config_of}
use Rattle.rj_csv_io.specs.Shown.{writer_of}
use Rattle.rj_csv_io.proofs.DelimiterFacts.{no-delimiter}

module _ (d : ℕ) (lawful : may_delimit d ≡ true) where
  -- a byte, where the delimiter and the comma are exchanged
  swap : ℕ → ℕ
  swap c = if c == d then 44 else if c == 44 then d else c

  swap-delimiter : swap d ≡ 44
  unfolding swap
  swap-delimiter = rw (eq-eqb d d refl) refl

  swap-comma : swap 44 ≡ d
  unfolding swap
  swap-comma = elim (cases_Bool (44 == d)) [
    | inl same ↦ rw same (eqb-true 44 d same)
    | inr apart ↦ rw apart refl
  ]

  swap-plain : (c : ℕ) → (c == d) ≡ false → (c == 44) ≡ false → swap c ≡ c
  unfolding swap
  swap-plain c first second = rw (first, second) refl

  -- no other mark of the format is exchanged
  swap-mark : (k : ℕ) → may_delimit k ≡ false → (k == 44) ≡ false → swap k ≡ k
  swap-mark k unfit plain = swap-plain k (no-delimiter d lawful k unfit) plain

  swap-quote : swap 34 ≡ 34
  swap-quote = swap-mark 34 refl refl

  swap-return : swap 13 ≡ 13
  swap-return = swap-mark 13 refl refl

  swap-feed : swap 10 ≡ 10
  swap-feed = swap-mark 10 refl refl

  swap-back : (c : ℕ) → swap (swap c) ≡ c
  swap-back c = elim (cases_Bool (c == d)) [
    | inl same ↦ let is : c ≡ d = eqb-true c d same in ap swap (ap swap is ∙ swap-delimiter) ∙ (swap-comma ∙ sym is)
    | inr apart ↦ elim (cases_Bool (c == 44)) [
      | inl same ↦ let is : c ≡ 44 = eqb-true c 44 same in ap swap (ap swap is ∙ swap-comma) ∙ (swap-delimiter ∙ sym is)
      | inr plain ↦ let stays = swap-plain c apart plain in ap swap stays ∙ stays
    ]
  ]

  -- so bytes are the same if those that are exchanged for them are
  swap-same : (a b : ℕ) → (swap a == swap b) ≡ (a == b)
  swap-same a b = elim (cases_Bool (a == b)) [
    | inl same ↦ eq-eqb (swap a) (swap b) (ap swap (eqb-true a b same)) ∙ sym same
    | inr apart ↦ ne_eqb (swap a) (swap b) (λ same. eqb-false a b apart (sym (swap-back a) ∙ (ap swap same ∙ swap-back b))) ∙ sym apart
  ]

  swap-test : (c k m : ℕ) → swap k ≡ m → (swap c == m) ≡ (c == k)
  swap-test c k m is = subst (λ (m : ℕ). (swap c == m) ≡ (c == k)) is (swap-same c k)

  delimits : (c : ℕ) → (swap c == d) ≡ (c == 44)
  delimits c = swap-test c 44 d swap-comma

  quotes : (c : ℕ) → (swap c == 34) ≡ (c == 34)
  quotes c = swap-test c 34 34 swap-quote

  returns : (c : ℕ) → (swap c == 13) ≡ (c == 13)
  returns c = swap-test c 13 13 swap-return

  feeds : (c : ℕ) → (swap c == 10) ≡ (c == 10)
  feeds c = swap-test c 10 10 swap-feed

  -- csv's machine takes the same steps
  step-swap : (s : State) (c : ℕ) → step (config_of d) s (swap c) ≡ step default_config s c
  step-swap st.StartRecord c = rw (delimits c, quotes c, returns c, feeds c) refl
  step-swap st.StartField c = rw (delimits c, quotes c, returns c, feeds c) refl
  step-swap st.InField c = rw (delimits c, returns c, feeds c) refl
  step-swap st.InQuoted c = rw (quotes c) refl
  step-swap st.InEscape c = refl
  step-swap st.AfterQuote c = rw (delimits c, quotes c, returns c, feeds c) refl
  step-swap st.InComment c = rw (feeds c) refl
  step-swap st.AfterCr c = rw (delimits c, quotes c, returns c, feeds c) refl

  fields-swap : (a : Action) (fields : List (List ℕ)) (field : List ℕ) → fields_after a (map (map swap) fields) (map swap field) ≡ map (map swap) (fields_after a fields field)
  fields-swap act.EndField fields field = sym (map-append (map swap) fields (field ∷ []))
  fields-swap act.Skip fields field = refl
  fields-swap act.Copy fields field = refl
  fields-swap act.EndRecord fields field = sym (map-append (map swap) fields (field ∷ []))

  field-swap : (a : Action) (c : ℕ) (field : List ℕ) → field_after a (swap c) (map swap field) ≡ map swap (field_after a c field)
  field-swap act.Copy c field = sym (map-append swap field (c ∷ []))
  field-swap act.EndField c field = refl
  field-swap act.Skip c field = refl
  field-swap act.EndRecord c field = refl

  read-swap : Read → Read
  read-swap p = (map (map swap) p.0, p.1, map swap p.2)

  ended-swap : (b : Bool) (p : Read) (x y : Option Read) → x ≡ option_map read-swap y → (if b then Some (read-swap p) else x) ≡ option_map read-swap (if b then Some p else y)
  ended-swap true p x y same = refl
  ended-swap false p x y same = same

  next-swap : (s : State) (fields : List (List ℕ)) (field text : List ℕ)
      → next_record (config_of d) s (map (map swap) fields) (map swap field) (map swap text) ≡ option_map read-swap (next_record default_config s fields field text)
  unfolding next_record read-swap
  next-swap s fields field [] = rw (← (map-append (map swap) fields (field ∷ []))) (ended-swap (ends_at_end s) (fields ++ (field ∷ []), st.StartRecord, []) None None refl)
  next-swap s fields field (c ∷ rest) =
      let p : State × Action = step default_config s c in
      let more = next-swap p.0 (fields_after p.1 fields field) (field_after p.1 c field) rest in
      rw (step-swap s c, fields-swap p.1 fields field, field-swap p.1 c field) (ended-swap (is_end p.1) (fields_after p.1 fields field, p.0, rest) _ _ more)

  -- and the same fields get quotes
  needs-swap : (b : ℕ) → needs_byte (writer_of d) (swap b) ≡ needs_byte default_writer b
  needs-swap b = rw (delimits b, quotes b, returns b, feeds b) refl

  quotes-swap : (field : List ℕ) → needs_quotes (writer_of d) (map swap field) ≡ needs_quotes default_writer field
  quotes-swap [] = refl
  quotes-swap (b ∷ rest) = ap (λ x. x || list_any (needs_byte (writer_of d)) (map swap rest)) (needs-swap b) ∙ ap (λ x. needs_byte default_writer b || x) (quotes-swap rest)

  escaped-swap : (field : List ℕ) → escaped (writer_of d) (map swap field) ≡ map swap (escaped default_writer field)
  unfolding escaped
  escaped-swap [] = refl
  escaped-swap (b ∷ rest) = rw (quotes b, escaped-swap rest) (go (b == 34) (escaped default_writer rest))
    where
      go : (x : Bool) (more : List ℕ) → (if x then 34 ∷ swap b ∷ map swap more else swap b ∷ map swap more) ≡ map swap (if x then 34 ∷ b ∷ more else b ∷ more)
      go true more = rw swap-quote refl
      go false more = refl

  field_text-swap : (field : List ℕ) → field_text (writer_of d) (map swap field) ≡ map swap (field_text default_writer field)
  field_text-swap field = rw (quotes-swap field, escaped-swap field) (go (needs_quotes default_writer field) (escaped default_writer field))
    where
      go : (x : Bool) (inside : List ℕ) → (if x then 34 ∷ (map swap inside ++ (34 ∷ [])) else map swap field) ≡ map swap (if x then 34 ∷ (inside ++ (34 ∷ [])) else field)
      go true inside = rw (map-append swap inside (34 ∷ []), swap-quote) refl
      go false inside = refl

  fields_text-swap : (fields : List (List ℕ)) → fields_text (writer_of d) (map (map swap) fields) ≡ map swap (fields_text default_writer fields)
  unfolding fields_text
  fields_text-swap [] = refl
  fields_text-swap (f ∷ rest) = rw (map-append swap (field_text default_writer f) (fields_text default_writer rest), swap-comma, field_text-swap f, fields_text-swap rest) refl

  body-swap : (fields : List (List ℕ)) → row_body (writer_of d) (map (map swap) fields) ≡ map swap (row_body default_writer fields)
  body-swap [] = refl
  body-swap (f ∷ rest) = rw (map-append swap (field_text default_writer f) (fields_text default_writer rest), field_text-swap f, fields_text-swap rest) refl

  blank-swap : (fields : List (List ℕ)) → is_blank (writer_of d) (map (map swap) fields) ≡ is_blank default_writer fields
  unfolding is_blank
  blank-swap [] = refl
  blank-swap (f ∷ []) = ap (λ (n : ℕ). n == 0) (ap length (field_text-swap f) ∙ length-map (field_text default_writer f) swap)
  blank-swap (f ∷ g ∷ rest) = refl

  -- so the texts of records are exchanged
  row_text-swap : (fields : List (List ℕ)) → row_text (writer_of d) (map (map swap) fields) ≡ map swap (row_text default_writer fields)
  row_text-swap fields = rw (body-swap fields, blank-swap fields) (go (row_body default_writer fields) (is_blank default_writer fields))
    where
      go : (body : List ℕ) (b : Bool) → map swap body ++ ((if b then 34 ∷ 34 ∷ [] else []) ++ (10 ∷ [])) ≡ map swap (body ++ ((if b then 34 ∷ 34 ∷ [] else []) ++ (10 ∷ [])))
      go body true = rw (map-append swap body (34 ∷ 34 ∷ 10 ∷ []), swap-quote, swap-feed) refl
      go body false = rw (map-append swap body (10 ∷ []), swap-feed) refl

  read_back-swap : (fields : List (List ℕ)) → map (map swap) (read_back fields) ≡ read_back (map (map swap) fields)
  read_back-swap [] = refl
  read_back-swap (f ∷ rest) = refl

  bytes-back : (text : List ℕ) → map swap (map swap text) ≡ text
  bytes-back [] = refl
  bytes-back (c ∷ rest) = rw (swap-back c, bytes-back rest) refl

  fields-back : (fields : List (List ℕ)) → map (map swap) (map (map swap) fields) ≡ fields
  fields-back [] = refl
  fields-back (f ∷ rest) = rw (bytes-back f, fields-back rest) refl

  abbrev IsRead : List (List ℕ) → List ℕ → Type 0
  IsRead fields tail = next_record (config_of d) st.StartRecord [] [] (row_text (writer_of d) fields ++ tail) ≡ Some (read_back fields, st.StartRecord, tail)

  read-exchanged : (fields : List (List ℕ)) (tail : List ℕ) → IsRead (map (map swap) fields) (map swap tail)
  unfolding read-swap
  read-exchanged fields tail =
      let text : row_text (writer_of d) (map (map swap) fields) ++ map swap tail ≡ map swap (row_text default_writer fields ++ tail) =
      ap (λ (t : List ℕ). t ++ map swap tail) (row_text-swap fields) ∙ sym (map-append swap (row_text default_writer fields) tail) in
      let back : Some (map (map swap) (read_back fields), st.StartRecord, map swap tail) ≡ Some (read_back (map (map swap) fields), st.StartRecord, map swap tail) =
      ap (λ (f : List (List ℕ)). Some (f, st.StartRecord, map swap tail)) (read_back-swap fields) in
      ap (next_record (config_of d) st.StartRecord [] []) text
      ∙ (next-swap st.StartRecord [] [] (row_text default_writer fields ++ tail) ∙ (ap (option_map read-swap) (read-write fields tail) ∙ back))

  -- what is written is read back
  pub write-read : (fields : List (List ℕ)) (tail : List ℕ)
      → next_record (config_of d) st.StartRecord [] [] (row_text (writer_of d) fields ++ tail) ≡ Some (read_back fields, st.StartRecord, tail)
  write-read fields tail =
      let exchanged = read-exchanged (map (map swap) fields) (map swap tail) in
      subst (λ (t : List ℕ). IsRead fields t) (bytes-back tail) (subst (λ (f : List (List ℕ)). IsRead f (map swap (map swap tail))) (fields-back fields) exchanged)
