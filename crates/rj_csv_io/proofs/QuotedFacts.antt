-- A file whose empty lines have an escaped field of no bytes is read as the file's records.
use Rattle.std.specs.Prelude.{ℕ, ◌+◌, ◌≡◌, nat_le, Bool, true, false, List, [], ◌∷◌, ◌++◌, map, filter, length}
use Rattle.std.specs.List.{list_all}
use Rattle.std.proofs.Common.{refl, ap, ◌∙◌}
use Rattle.std.proofs.lemmas.Bool.{and_parts, and_from, or_right, not_from_false, false≢true, cond_both, cond-true}
use Rattle.csv.specs.Reading.{records}
use Rattle.rj_csv_io.specs.Grammar.{Field, escaped, non-escaped, Line, File, is_blank, is_line, names_of, width, file_text, Derives, value_of, records_of, rest_records}
use Rattle.rj_csv_io.specs.StrictReading.{config_of, quoted_line, quoted}
use Rattle.rj_csv_io.specs.declared.strict.header.HeaderPlace.{HeaderPlace}
use Rattle.rj_csv_io.specs.declared.strict.header.HeaderPlace.TheVariants.{First, Above}
use Rattle.rj_csv_io.proofs.Lawful.{Lawful}
use Rattle.rj_csv_io.proofs.CsvFacts.{solid, line_values, reads}

blank-values : (fields : List Field) (f : Field) → is_blank (record { before = fields; last = f }) ≡ true → [] ∷ [] ≡ map value_of (fields ++ f ∷ [])
blank-values [] (non-escaped []) e = refl
blank-values [] (non-escaped (b ∷ bytes)) e = absurd (false≢true e)
blank-values [] (escaped bytes) e = absurd (false≢true e)
blank-values (g ∷ fields) f e = absurd (false≢true e)

blank-width : (fields : List Field) (f : Field) → is_blank (record { before = fields; last = f }) ≡ true → 1 ≡ length fields + 1
blank-width [] f e = refl
blank-width (g ∷ fields) f e = absurd (false≢true e)

module _ (l : Line) where
  by-case : (P : Line → Type 0) → (is_blank l.fields ≡ true → P (record { fields = record { before = []; last = escaped [] }; ended = l.ended })) → (is_blank l.fields ≡ false → P l) → P (quoted_line l)
  by-case P p q = cond_both (is_blank l.fields) (record { fields = record { before = []; last = escaped [] }; ended = l.ended }) l P p q

  is-line : (d names : ℕ) → is_line d names l ≡ true → is_line d names (quoted_line l) ≡ true
  is-line d names e = by-case (λ (k : Line). is_line d names k ≡ true) (λ b. or_right (nat_le names 1) true refl) (λ n. e)

  is-solid : solid (quoted_line l) ≡ true
  is-solid = by-case (λ (k : Line). solid k ≡ true) (λ b. refl) (λ n. not_from_false (is_blank l.fields) n)

  same-width : width (quoted_line l).fields ≡ width l.fields
  same-width = by-case (λ (k : Line). width k.fields ≡ width l.fields) (λ b. blank-width l.fields.before l.fields.last b) (λ n. refl)

  same-values : line_values (quoted_line l) ≡ line_values l
  same-values = by-case (λ (k : Line). line_values k ≡ line_values l) (λ b. blank-values l.fields.before l.fields.last b) (λ n. refl)

all-lines : (d names : ℕ) (lines : List Line) → list_all (is_line d names) lines ≡ true → list_all (is_line d names) (map quoted_line lines) ≡ true
all-lines d names [] e = refl
all-lines d names (l ∷ lines) e =
    let parts = and_parts (is_line d names l) (list_all (is_line d names) lines) e in
    and_from (is_line d names (quoted_line l)) (list_all (is_line d names) (map quoted_line lines)) (is-line l d names parts.0) (all-lines d names lines parts.1)

all-solid : (lines : List Line) → filter solid (map quoted_line lines) ≡ map quoted_line lines
all-solid [] = refl
all-solid (l ∷ lines) =
    cond-true (solid (quoted_line l)) (quoted_line l ∷ filter solid (map quoted_line lines)) (filter solid (map quoted_line lines)) (is-solid l)
    ∙ ap (λ (x : List Line). quoted_line l ∷ x) (all-solid lines)

all-values : (lines : List Line) → map line_values (map quoted_line lines) ≡ map line_values lines
all-values [] = refl
all-values (l ∷ lines) = ap (λ (x : List (List ℕ)). x ∷ map line_values (map quoted_line lines)) (same-values l) ∙ ap (λ (x : List (List (List ℕ))). line_values l ∷ x) (all-values lines)

same-names : (h : HeaderPlace) (lines : List Line) → names_of h (map quoted_line lines) ≡ names_of h lines
same-names First [] = refl
same-names First (l ∷ lines) = same-width l
same-names (Above names) lines = refl

-- it is derived
pub quoted-derives : (d : ℕ) (h : HeaderPlace) (full : Bool) (text : List ℕ) (file : File) → Derives d h full text file → Derives d h full (file_text d (quoted file)) (quoted file)
quoted-derives d h full text file derives = record {
  spelled = refl;
  lines = ap (λ (names : ℕ). list_all (is_line d names) (map quoted_line file.lines)) (same-names h file.lines) ∙ all-lines d (names_of h file.lines) file.lines derives.lines;
  rest = derives.rest;
}

pub reads-quoted : (d : ℕ) (law : Lawful d) (h : HeaderPlace) (full : Bool) (text : List ℕ) (file : File) → Derives d h full text file → records (config_of d) (file_text d (quoted file)) ≡ records_of file
reads-quoted d law h full text file derives =
    reads d law h full (file_text d (quoted file)) (quoted file) (quoted-derives d h full text file derives)
    ∙ ap (λ (lines : List Line). map line_values lines ++ rest_records file.rest) (all-solid file.lines)
    ∙ ap (λ (x : List (List (List ℕ))). x ++ rest_records file.rest) (all-values file.lines)
