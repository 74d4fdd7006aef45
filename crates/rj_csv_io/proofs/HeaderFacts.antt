-- A text that is derived under other words for its header, or for its end.
use Rattle.std.specs.Prelude.{ℕ, ◌≡◌, ◌<◌, ◌&&◌, ◌||◌, not, nat_le, nat_lt, Bool, true, false, List, [], ◌∷◌, Option, Some, None}
use Rattle.std.specs.List.{list_all}
use Rattle.std.proofs.Common.{refl}
use Rattle.std.proofs.lemmas.Bool.{and_parts, and_from, or_right, lt-ltb}
use Rattle.rj_csv_io.specs.Grammar.{Record, Line, File, is_record, is_blank, is_line, names_of, is_rest, Derives}
use Rattle.rj_csv_io.specs.declared.strict.header.HeaderPlace.{HeaderPlace}
use Rattle.rj_csv_io.specs.declared.strict.header.HeaderPlace.TheVariants.{First, Above}
use Rattle.rj_csv_io.proofs.Lawful.{Lawful}
use Rattle.rj_csv_io.proofs.CsvFacts.{line-solid}
use Rattle.rj_csv_io.proofs.Complete.{one}

other-names : (d names n : ℕ) (l : Line) → nat_lt 1 names ≡ true → is_line d names l ≡ true → is_line d n l ≡ true
other-names d names n l many e =
    let parts = and_parts (is_record d l.fields) (nat_le names 1 || not (is_blank l.fields)) e in
    and_from (is_record d l.fields) (nat_le n 1 || not (is_blank l.fields)) parts.0 (or_right (nat_le n 1) (not (is_blank l.fields)) (line-solid d names l many e))

all-names : (d names n : ℕ) (lines : List Line) → nat_lt 1 names ≡ true → list_all (is_line d names) lines ≡ true → list_all (is_line d n) lines ≡ true
all-names d names n [] many e = refl
all-names d names n (l ∷ lines) many e =
    let parts = and_parts (is_line d names l) (list_all (is_line d names) lines) e in
    and_from (is_line d n l) (list_all (is_line d n) lines) (other-names d names n l many parts.0) (all-names d names n lines many parts.1)

-- with no empty line the header may stand in the text
pub with-header : (d names : ℕ) (full : Bool) (text : List ℕ) (file : File) → 1 < names → Derives d (Above names) full text file → Derives d First full text file
with-header d names full text file many derives = record {
  spelled = derives.spelled;
  lines = all-names d names (names_of First file.lines) file.lines (lt-ltb 1 names many) derives.lines;
  rest = derives.rest;
}

open-rest : (d : ℕ) (full : Bool) (rest : Option Record) → is_rest d full rest ≡ true → is_rest d false rest ≡ true
open-rest d full None e = refl
open-rest d full (Some r) e =
    let parts = and_parts (is_record d r && not (is_blank r)) (not full) e in
    and_from (is_record d r && not (is_blank r)) true parts.0 refl

-- the last line's end may be asked for or not
not-full : (d : ℕ) (h : HeaderPlace) (full : Bool) (text : List ℕ) (file : File) → Derives d h full text file → Derives d h false text file
not-full d h full text file derives = record { spelled = derives.spelled; lines = derives.lines; rest = open-rest d full file.rest derives.rest }

pub same-file : (d : ℕ) (law : Lawful d) (h : HeaderPlace) (full other : Bool) (text : List ℕ) (file file2 : File) → Derives d h full text file → Derives d h other text file2 → file ≡ file2
same-file d law h full other text file file2 derives e = one d law h false text file file2 (not-full d h full text file derives) (not-full d h other text file2 e)
