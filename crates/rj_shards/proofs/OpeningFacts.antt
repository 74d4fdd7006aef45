-- Inputs that are opened one after the other, and what their texts give.
use Rattle.std.proofs.Common.{◌≡◌, ℕ, ◌+◌, List, [], ◌∷◌, ◌++◌, map, Option, Some, None, All, refl, sym, ap, subst, ◌∙◌, append-nil, append_assoc, true, false, length, arith}
use Rattle.std.specs.Cmp.Lexicographic.{pointwise}
use Rattle.std.specs.List.{Contains}
use Rattle.std.specs.Option.{option_to_list}
use Rattle.std.specs.Str.{bytes_eq}
use Rattle.std.proofs.lemmas.List.{map-append}
use Rattle.std.proofs.lemmas.Slice.Eq.{bytes_eq-Decides}
use lib.Pointwise.{pointwise_decides}
use Rattle.std.proofs.lemmas.List.Concat.{flat_map-append}
use Rattle.std.proofs.lemmas.List.Elements.{All-cons, All-nil, All-push, Contains-append_left, Contains-append_right}
use Rattle.rj_csv_io.specs.Cuts.{records_in}
use Rattle.rj_csv_io.specs.Grammar.{comma}
use Rattle.rj_shards.specs.declared.merge.columns.Columns.{Columns}
use Rattle.rj_shards.specs.declared.merge.copies.Copies.{Copies}
use Rattle.rj_shards.specs.declared.merge.copies.MergeInput.{MergeInput}
use Rattle.rj_shards.specs.declared.merge.input.TextSource.{TextSource}
use Rattle.rj_shards.specs.declared.merge.options.MergeOptions.{MergeOptions}
use Rattle.rj_shards.specs.declared.merge.refused.MergeRefused.{MergeRefused}
use Rattle.rj_shards.specs.declared.merge.refused.MergeRefused.TheVariants as refused
use Rattle.rj_shards.specs.MergeHeaders.{place_columns}
use Rattle.rj_shards.specs.Inputs.{copies_of, faults_of_readings, fault_or, first_header, first_record, header_fault, header_fault_from, header_fault_in, header_fault_of, input_reading, input_tells, own_copies, reading_of, reading_of_records, readings, readings_from, told_by}
use Rattle.rj_shards.specs.MergeRanges.{reading_within}
use Rattle.rj_shards.specs.Sources.{Reading}
use Rattle.rj_shards.specs.MergeTexts.{read_rows}
use Rattle.rj_shards.proofs.HeadFacts.{fault_first}

-- what a text gives whose header is the first one's
module _ (how : MergeOptions) (first : List (List ℕ)) (input : ℕ) where
  pub of-header : (records more : List (List (List ℕ))) (header : List (List ℕ)) (columns : Columns) → records ≡ header ∷ more → pointwise bytes_eq header first ≡ true
      → place_columns first ≡ Some columns → reading_of_records how first input records ≡ reading_within how (read_rows how columns input 0 None more)
  of-header records more header columns e same places = rw (e, same, places) refl

-- whether such a header has a fault
module _ (first : List (List ℕ)) (input : ℕ) where
  pub fault-none : (records : List (List (List ℕ))) → records ≡ [] → header_fault_in first input records ≡ Some (refused.NoHeader input)
  fault-none records e = rw e refl

  pub fault-other : (records more : List (List (List ℕ))) (header : List (List ℕ)) → records ≡ header ∷ more → pointwise bytes_eq header first ≡ false
      → header_fault_in first input records ≡ Some (refused.OtherHeader input)
  fault-other records more header e other = rw (e, other) refl

  pub no-fault : (records more : List (List (List ℕ))) (header : List (List ℕ)) (columns : Columns) → records ≡ header ∷ more → pointwise bytes_eq header first ≡ true
      → place_columns first ≡ Some columns → header_fault_in first input records ≡ None
  no-fault records more header columns e same places = rw (e, same, places) refl

-- what the first text gives, whose header has the columns of the places or hasn't
own_header : (header : List (List ℕ)) → pointwise bytes_eq header header ≡ true
own_header header = (pointwise_decides (λ x y. let d = bytes_eq-Decides x y in (d.0, d.1)) header header).1 refl

module _ (how : MergeOptions) (input : ℕ) (records more : List (List (List ℕ))) (header : List (List ℕ)) (is : records ≡ header ∷ more) where
  pub of-first : (columns : Columns) → place_columns header ≡ Some columns → reading_of_records how (first_record records) input records ≡ reading_within how (read_rows how columns input 0 None more)
  of-first columns places = rw (is, own_header header, places) refl

  pub of-unplaced : place_columns header ≡ None → (reading_of_records how (first_record records) input records).fault ≡ Some (refused.NoPlaces input)
  of-unplaced places = rw (is, own_header header, places) refl

module _ (input : ℕ) (records more : List (List (List ℕ))) (header : List (List ℕ)) (is : records ≡ header ∷ more) where
  pub no-fault-first : (columns : Columns) → place_columns header ≡ Some columns → header_fault_in (first_record records) input records ≡ None
  no-fault-first columns places = rw (is, own_header header, places) refl

  pub fault-unplaced : place_columns header ≡ None → header_fault_in (first_record records) input records ≡ Some (refused.NoPlaces input)
  fault-unplaced places = rw (is, own_header header, places) refl

-- a fault of the first of readings, or of one behind others
first_fault : (r : Reading (List (List ℕ))) (more : List (Reading (List (List ℕ)))) (e : MergeRefused) → r.fault ≡ Some e → Contains (faults_of_readings (r ∷ more)) e
first_fault r more e is = Contains-append_left (option_to_list r.fault) (faults_of_readings more) e (fault_first r.fault e is)

later_fault : (before more : List (Reading (List (List ℕ)))) (e : MergeRefused) → Contains (faults_of_readings more) e → Contains (faults_of_readings (before ++ more)) e
later_fault before more e c =
    subst (λ l. Contains l e) (sym (flat_map-append (λ (r : Reading (List (List ℕ))). option_to_list r.fault) before more))
    (Contains-append_right (faults_of_readings before) (faults_of_readings more) e c)

-- these inputs were opened, the last of which has this number, and those are left
pub record HasOpened {R : Type 0} (known : R → Option (List ℕ)) (how : MergeOptions) (texts : List (List ℕ)) (names : List (List ℕ)) (sources : List (TextSource R)) (input : ℕ) (left : List (MergeInput R)) : Type 0 where
  pub rest : List (List ℕ)
  pub tell : map (told_by known) left ≡ map Some rest
  pub header : names ≡ first_header texts
  pub given : readings how texts ≡ map (input_reading known) sources ++ readings_from how names (input + 1) rest
  pub headed : header_fault texts ≡ header_fault_from names (input + 1) rest
  pub tells : All (input_tells known) sources

module _ {R : Type 0} (known : R → Option (List ℕ)) (how : MergeOptions) where
  -- the text of the input at hand, and those behind it
  pub record Heard (texts : List (List ℕ)) (x : MergeInput R) (left : List (MergeInput R)) : Type 0 where
    pub text : List ℕ
    pub rest : List (List ℕ)
    pub texts_are : texts ≡ text ∷ rest
    pub here : told_by known x ≡ Some text
    pub later : map (told_by known) left ≡ map Some rest

  pub heard : (texts : List (List ℕ)) (x : MergeInput R) (left : List (MergeInput R)) → map (told_by known) (x ∷ left) ≡ map Some texts → Heard texts x left
  heard [] x left e = absurd (cc)
  heard (text ∷ rest) x left e = let here : told_by known x ≡ Some text = cc in let later : map (told_by known) left ≡ map Some rest = cc in
      record { text = text; rest = rest; texts_are = refl; here = here; later = later }

  module _ (inputs : List (MergeInput R)) (x : MergeInput R) (left : List (MergeInput R)) (texts : List (List ℕ)) (is : inputs ≡ x ∷ left) (tell : map (told_by known) inputs ≡ map Some texts) where
    from_first : Heard texts x left
    from_first = heard texts x left (subst (λ l. map (told_by known) l ≡ map Some texts) is tell)

    -- the first input was opened, or has a fault
    pub opened-first : (names : List (List ℕ)) (s : TextSource R) → ((text : List ℕ) → told_by known x ≡ Some text → names ≡ first_record (records_in comma text))
        → ((text : List ℕ) → told_by known x ≡ Some text → input_tells known s × (input_reading known s ≡ reading_of how (first_record (records_in comma text)) 1 text))
        → ((text : List ℕ) → told_by known x ≡ Some text → header_fault_of (first_record (records_in comma text)) 1 text ≡ None)
        → HasOpened known how texts names (s ∷ []) 1 left
    unfolding readings_from header_fault_from
    opened-first names s header given headed = by_text from_first
      where
        by_text : Heard texts x left → HasOpened known how texts names (s ∷ []) 1 left
        by_text h =
            let named = header h.text h.here in
            let gives = given h.text h.here in
            let of_first : first_header texts ≡ first_record (records_in comma h.text) = ap first_header h.texts_are in
            record {
              rest = h.rest;
              tell = h.later;
              header = named ∙ sym of_first;
              given = ap (readings how) h.texts_are
                  ∙ (λ t. sym gives.1 t ∷ readings_from how (sym named t) 2 h.rest);
              headed = ap header_fault h.texts_are
                  ∙ (ap (λ (o : Option MergeRefused). fault_or o (header_fault_from (first_record (records_in comma h.text)) 2 h.rest)) (headed h.text h.here)
                  ∙ ap (λ (l : List (List ℕ)). header_fault_from l 2 h.rest) (sym named));
              tells = All-cons (input_tells known) s [] gives.0 (All-nil (input_tells known));
            }

    pub heads-first : (e : MergeRefused) → ((text : List ℕ) → told_by known x ≡ Some text → header_fault_of (first_record (records_in comma text)) 1 text ≡ Some e)
        → header_fault texts ≡ Some e
    unfolding header_fault_from
    heads-first e fault = by_text from_first
      where
        by_text : Heard texts x left → header_fault texts ≡ Some e
        by_text h =
            ap header_fault h.texts_are
            ∙ ap (λ (o : Option MergeRefused). fault_or o (header_fault_from (first_record (records_in comma h.text)) 2 h.rest)) (fault h.text h.here)

    pub fault-first : (e : MergeRefused) → ((text : List ℕ) → told_by known x ≡ Some text → (reading_of how (first_record (records_in comma text)) 1 text).fault ≡ Some e)
        → Contains (faults_of_readings (readings how texts)) e
    unfolding readings_from
    fault-first e fault = by_text from_first
      where
        by_text : Heard texts x left → Contains (faults_of_readings (readings how texts)) e
        by_text h =
            let names = first_record (records_in comma h.text) in
            subst (λ l. Contains (faults_of_readings (readings how l)) e) (sym h.texts_are) (first_fault (reading_of how names 1 h.text) (readings_from how names 2 h.rest) e (fault h.text h.here))

  module _ (texts : List (List ℕ)) (names : List (List ℕ)) (sources : List (TextSource R)) (input : ℕ) (left more : List (MergeInput R)) (x : MergeInput R) (h : HasOpened known how texts names sources input left) (is : left ≡ x ∷ more) where
    from_next : Heard h.rest x more
    from_next = heard h.rest x more (subst (λ l. map (told_by known) l ≡ map Some h.rest) is h.tell)

    given_next : (n : Heard h.rest x more) → readings how texts ≡ map (input_reading known) sources ++ (reading_of how names (input + 1) n.text ∷ readings_from how names (input + 1 + 1) n.rest)
    unfolding readings_from
    given_next n = h.given ∙ ap (λ l. map (input_reading known) sources ++ readings_from how names (input + 1) l) n.texts_are

    headed_next : (n : Heard h.rest x more) → header_fault texts ≡ fault_or (header_fault_of names (input + 1) n.text) (header_fault_from names (input + 1 + 1) n.rest)
    unfolding header_fault_from
    headed_next n = h.headed ∙ ap (λ (l : List (List ℕ)). header_fault_from names (input + 1) l) n.texts_are

    pub heads-next : (e : MergeRefused) → ((text : List ℕ) → told_by known x ≡ Some text → header_fault_of names (input + 1) text ≡ Some e) → header_fault texts ≡ Some e
    heads-next e fault = by_text from_next
      where
        by_text : Heard h.rest x more → header_fault texts ≡ Some e
        by_text n = headed_next n ∙ ap (λ (o : Option MergeRefused). fault_or o (header_fault_from names (input + 1 + 1) n.rest)) (fault n.text n.here)

    -- a further input was opened, or has a fault
    pub opened-next : (s : TextSource R) → ((text : List ℕ) → told_by known x ≡ Some text → input_tells known s × (input_reading known s ≡ reading_of how names (input + 1) text))
        → ((text : List ℕ) → told_by known x ≡ Some text → header_fault_of names (input + 1) text ≡ None) → HasOpened known how texts names (sources ++ s ∷ []) (input + 1) more
    opened-next s given headed = by_text from_next
      where
        by_text : Heard h.rest x more → HasOpened known how texts names (sources ++ s ∷ []) (input + 1) more
        by_text n =
            let gives = given n.text n.here in
            record {
              rest = n.rest;
              tell = n.later;
              header = h.header;
              given = given_next n ∙ ap (λ r. map (input_reading known) sources ++ (r ∷ readings_from how names (input + 1 + 1) n.rest)) (sym gives.1)
                  ∙ (sym (append_assoc (map (input_reading known) sources) (input_reading known s ∷ []) (readings_from how names (input + 1 + 1) n.rest))
                  ∙ ap (λ l. l ++ readings_from how names (input + 1 + 1) n.rest) (sym (map-append (input_reading known) sources (s ∷ []))));
              headed = headed_next n ∙ ap (λ (o : Option MergeRefused). fault_or o (header_fault_from names (input + 1 + 1) n.rest)) (headed n.text n.here);
              tells = All-push (input_tells known) sources s h.tells gives.0;
            }

    pub fault-next : (e : MergeRefused) → ((text : List ℕ) → told_by known x ≡ Some text → (reading_of how names (input + 1) text).fault ≡ Some e)
        → Contains (faults_of_readings (readings how texts)) e
    fault-next e fault = by_text from_next
      where
        by_text : Heard h.rest x more → Contains (faults_of_readings (readings how texts)) e
        by_text n =
            let reading = reading_of how names (input + 1) n.text in
            let behind = readings_from how names (input + 1 + 1) n.rest in
            subst (λ l. Contains (faults_of_readings l) e) (sym (given_next n)) (later_fault (map (input_reading known) sources) (reading ∷ behind) e (first_fault reading behind e (fault n.text n.here)))

  -- all inputs were opened
  pub opened-all : (texts : List (List ℕ)) (names : List (List ℕ)) (sources : List (TextSource R)) (input : ℕ) (left : List (MergeInput R)) → HasOpened known how texts names sources input left → left ≡ []
      → readings how texts ≡ map (input_reading known) sources
  unfolding readings_from
  opened-all texts names sources input left h none = by_rest h.rest (sym (ap (map (told_by known)) none) ∙ h.tell) h.given
    where
      by_rest : (rest : List (List ℕ)) → [] ≡ map Some rest → readings how texts ≡ map (input_reading known) sources ++ readings_from how names (input + 1) rest
          → readings how texts ≡ map (input_reading known) sources
      by_rest [] e given = given ∙ append-nil (map (input_reading known) sources)
      by_rest (text ∷ rest) e given = absurd (cc)

  pub headed-all : (texts : List (List ℕ)) (names : List (List ℕ)) (sources : List (TextSource R)) (input : ℕ) (left : List (MergeInput R)) → HasOpened known how texts names sources input left → left ≡ []
      → header_fault texts ≡ None
  unfolding header_fault_from
  headed-all texts names sources input left h none = by_rest h.rest (sym (ap (map (told_by known)) none) ∙ h.tell) h.headed
    where
      by_rest : (rest : List (List ℕ)) → [] ≡ map Some rest → header_fault texts ≡ header_fault_from names (input + 1) rest → header_fault texts ≡ None
      by_rest [] e headed = headed
      by_rest (text ∷ rest) e headed = absurd (cc)

-- the copies of inputs that were opened, and of those that are left
module _ {R : Type 0} (sources : List (TextSource R)) (left : List (MergeInput R)) (all : List Copies) (are : map own_copies sources ++ copies_of left ≡ all) where
  pub copies-next : (s : TextSource R) (x : MergeInput R) (more : List (MergeInput R)) → left ≡ x ∷ more → s.copies ≡ x.copies → map own_copies (sources ++ s ∷ []) ++ copies_of more ≡ all
  copies-next s x more is same =
      ap (λ l. l ++ copies_of more) (map-append own_copies sources (s ∷ []))
      ∙ append_assoc (map own_copies sources) (own_copies s ∷ []) (copies_of more)
      ∙ ap (λ k. map own_copies sources ++ (k ∷ copies_of more)) same
      ∙ sym (ap (λ l. map own_copies sources ++ copies_of l) is)
      ∙ are

  pub copies-all : left ≡ [] → map own_copies sources ≡ all
  copies-all none = sym (append-nil (map own_copies sources)) ∙ sym (ap (λ l. map own_copies sources ++ copies_of l) none) ∙ are

-- a list of no length
pub no_length : {A : Type 0} (xs : List A) → length xs ≡ 0 → xs ≡ []
no_length [] e = refl
no_length (x ∷ xs) e = absurd (omega arith)
