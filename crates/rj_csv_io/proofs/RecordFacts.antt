-- The records of a text under its completed header.
use Rattle.std.proofs.Common.{◌≡◌, ◌∙◌, ◌-◌, ℕ, List, [], ◌∷◌, ◌++◌, length, take, drop, true, false, Option, Some, None, refl, sym, ap, append_assoc, append-nil, arith, inl, inr}
use Rattle.std.specs.Prelude.{◌⊎◌, if◌then◌else◌}
use Rattle.std.proofs.lemmas.Bool.{false≢true}
use Rattle.std.proofs.lemmas.List.{length-append, take-append-le}
use Rattle.csv.specs.Machine.{Read, next_record}
use Rattle.csv.specs.Reading.{records, strip_bom}
use Rattle.csv.specs.Writing.{is_blank, read_back, row_body, row_text}
use Rattle.csv.specs.declared.parser.State.TheVariants as st
use Rattle.rj_csv_io.proofs.RemainingFacts.{records-more, records-none}
use Rattle.rj_csv_io.proofs.SwapFacts.{write-read}
use Rattle.rj_csv_io.specs.Shown.{writer_of}
use Rattle.rj_csv_io.specs.Grammar.{may_delimit}
use Rattle.rj_csv_io.specs.StrictReading.{config_of}
use Rattle.rj_csv_io.specs.Completed.{IsNamed, completed, first_of, header_of, is_left, mark, names_text}
use Rattle.rj_csv_io.specs.NameEnds.{behind_first}
use Rattle.rj_csv_io.specs.Named.{columns_of, completed_names, given_from, have_names}
use Rattle.rj_csv_io.proofs.NameColumnFacts.{names-count}
use Rattle.rj_csv_io.proofs.NameEndFacts.{EndsAs, at-end, at-line, ends-as, other-ends}

-- the record of names without its line end, and then a line feed
without-last : (xs : List ℕ) (c : ℕ) → take (length (xs ++ c ∷ []) - 1) (xs ++ c ∷ []) ≡ xs
without-last xs c =
    let size : length (xs ++ c ∷ []) - 1 ≡ length xs = omega (arith, length-append xs (c ∷ [])) in
    rw size (take-append-le (length xs) xs (c ∷ []) (omega arith) ∙ whole xs)
  where
    whole : (xs : List ℕ) → take (length xs) xs ≡ xs
    whole [] = refl
    whole (x ∷ xs) = ap (λ t. x ∷ t) (whole xs)

record-parts : (d : ℕ) (names : List (List ℕ)) (tail : List ℕ) → names_text d names ++ 10 ∷ tail ≡ row_text (writer_of d) names ++ tail
record-parts d names tail =
    let body = row_body (writer_of d) names in
    let quotes : List ℕ = if is_blank (writer_of d) names then 34 ∷ 34 ∷ [] else [] in
    let parts : row_text (writer_of d) names ≡ (body ++ quotes) ++ 10 ∷ [] = sym (append_assoc body quotes (10 ∷ [])) in
    let front : names_text d names ≡ body ++ quotes = ap (λ t. take (length t - 1) t) parts ∙ without-last (body ++ quotes) 10 in
    rw (front, parts) (sym (append_assoc (body ++ quotes) (10 ∷ []) tail))

module _ (d : ℕ) (lawful : may_delimit d ≡ true) where
  same-back : (names : List (List ℕ)) → (names ≡ [] → ⊥) → read_back names ≡ names
  same-back [] some = absurd (some refl)
  same-back (n ∷ names) some = refl

  -- the names are read back, whatever ends their line
  names-read : (names : List (List ℕ)) (left : List ℕ) (p : Read) → (names ≡ [] → ⊥) → EndsAs left p
      → next_record (config_of d) st.StartRecord [] [] (names_text d names ++ left) ≡ Some (names, p.1, p.2)
  names-read names left p some (at-end e s r) =
      let fed = ap (next_record (config_of d) st.StartRecord [] []) (record-parts d names (65 ∷ [])) ∙ write-read d lawful names (65 ∷ []) ∙ rw (same-back names some) refl in
      let ends = other-ends d lawful names [] st.StartRecord [] [] (names_text d names) fed in
      rw (e, s, r, append-nil (names_text d names)) ends.none
  names-read names left p some (at-line c e line) = go line.ends
    where
      go : ((c ≡ 10) × (p.1 ≡ st.StartRecord)) ⊎ ((c ≡ 13) × (p.1 ≡ st.AfterCr)) → next_record (config_of d) st.StartRecord [] [] (names_text d names ++ left) ≡ Some (names, p.1, p.2)
      go (inl is) =
          rw (e, is.0, is.1) (ap (next_record (config_of d) st.StartRecord [] []) (record-parts d names p.2) ∙ write-read d lawful names p.2 ∙ rw (same-back names some) refl)
      go (inr is) =
          let fed = ap (next_record (config_of d) st.StartRecord [] []) (record-parts d names (65 ∷ [])) ∙ write-read d lawful names (65 ∷ []) ∙ rw (same-back names some) refl in
          let ends = other-ends d lawful names p.2 st.StartRecord [] [] (names_text d names) fed in
          rw (e, is.0, is.1) ends.return

  left-none : (header : List (List ℕ)) → is_left header ≡ false → header ≡ [] → ⊥
  unfolding have_names
  left-none [] e h = absurd (false≢true (sym e))
  left-none (f ∷ header) e h = cc

  names-some : (header : List (List ℕ)) → (header ≡ [] → ⊥) → completed_names header ≡ [] → ⊥
  names-some [] some e = some refl
  names-some (f ∷ header) some e = let size = names-count (f ∷ header) in let none = ap length e in omega (arith, size, none)

  under-records : (text : List ℕ) (header : List (List ℕ)) → header ≡ first_of (records (config_of d) text) → is_left header ≡ false
      → records (config_of d) (names_text d (completed_names header) ++ behind_first d text) ≡ completed_names header ∷ drop 1 (records (config_of d) text)
  under-records text header is left = go (next_record (config_of d) st.StartRecord [] [] text) refl
    where
      go : (o : Option Read) → next_record (config_of d) st.StartRecord [] [] text ≡ o
          → records (config_of d) (names_text d (completed_names header) ++ behind_first d text) ≡ completed_names header ∷ drop 1 (records (config_of d) text)
      go None e =
          let none = records-none (config_of d) st.StartRecord text e in
          absurd (left-none header left (is ∙ ap first_of none))
      go (Some p) e =
          let all = records-more (config_of d) st.StartRecord text p refl e in
          let some = names-some header (left-none header left) in
          let read = names-read (completed_names header) (behind_first d text) p some (ends-as d st.StartRecord [] [] text p e) in
          records-more (config_of d) st.StartRecord (names_text d (completed_names header) ++ behind_first d text) (completed_names header, p.1, p.2) refl read
          ∙ ap (λ (rs : List (List (List ℕ))). completed_names header ∷ drop 1 rs) (sym all)

  pub completed-records : (bytes : List ℕ) → is_left (header_of d bytes) ≡ false
      → records (config_of d) (strip_bom (completed d bytes)) ≡ completed_names (header_of d bytes) ∷ drop 1 (records (config_of d) (strip_bom bytes))
  unfolding strip_bom
  completed-records bytes left = under-records (strip_bom bytes) (header_of d bytes) refl left

-- the text of a header of these fields, with this behind it
pub named-is : (d : ℕ) (bytes : List ℕ) (fields : List (List ℕ)) (rest : List ℕ) → fields ≡ header_of d bytes → rest ≡ behind_first d (strip_bom bytes)
    → (text : List ℕ) (told : List (ℕ × List ℕ)) → text ≡ mark ++ (names_text d (completed_names fields) ++ rest) → told ≡ given_from 1 (columns_of fields) → IsNamed d bytes text told
named-is d bytes fields rest header left text told e f = (
  e ∙ (ap (λ (h : List (List ℕ)). mark ++ (names_text d (completed_names h) ++ rest)) header ∙ ap (λ (r : List ℕ). mark ++ (names_text d (completed_names (header_of d bytes)) ++ r)) left),
  f ∙ ap (λ (h : List (List ℕ)). given_from 1 (columns_of h)) header,
)
