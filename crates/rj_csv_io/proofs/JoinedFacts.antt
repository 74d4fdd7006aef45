-- Texts that are derived, put together.
use Rattle.std.specs.Prelude.{ℕ, ◌≡◌, ◌<◌, ◌&&◌, not, Bool, true, false, List, [], ◌∷◌, ◌++◌, length, Option, Some, None}
use Rattle.std.specs.List.{list_all}
use Rattle.std.proofs.Common.{refl, sym, ap, ◌∙◌, arith, append_assoc}
use Rattle.std.proofs.lemmas.List.{append-nil}
use Rattle.std.proofs.lemmas.Bool.{and_parts, and_from, false≢true}
use Rattle.rj_csv_io.specs.Grammar.{Record, Line, File, is_record, is_blank, is_line, line_text, lines_text, names_of, rest_text, is_rest, Derives}
use Rattle.rj_csv_io.specs.JoinedTexts.{joined}
use Rattle.rj_csv_io.specs.declared.strict.header.HeaderPlace.{HeaderPlace}
use Rattle.rj_csv_io.specs.declared.strict.header.HeaderPlace.TheVariants.{First, Above}

all-both : {X : Type 0} (p : X → Bool) (xs ys : List X) → list_all p xs ≡ true → list_all p ys ≡ true → list_all p (xs ++ ys) ≡ true
all-both p [] ys e f = f
all-both p (x ∷ xs) ys e f =
    let parts = and_parts (p x) (list_all p xs) e in
    and_from (p x) (list_all p (xs ++ ys)) parts.0 (all-both p xs ys parts.1 f)

-- the lines of a full file are all that it has
no-rest : (d : ℕ) (rest : Option Record) → is_rest d true rest ≡ true → rest_text d rest ≡ []
no-rest d None e = refl
no-rest d (Some r) e = absurd (false≢true (and_parts (is_record d r && not (is_blank r)) false e).1)

same-names : (h : HeaderPlace) (lines more : List Line) → 0 < length lines → names_of h (lines ++ more) ≡ names_of h lines
same-names First [] more l = absurd (omega arith)
same-names First (k ∷ lines) more l = refl
same-names (Above names) lines more l = refl

lines-both : (d : ℕ) (lines more : List Line) (text : List ℕ) → lines_text d lines ++ (lines_text d more ++ text) ≡ lines_text d (lines ++ more) ++ text
lines-both d [] more text = refl
lines-both d (l ∷ lines) more text =
    append_assoc (line_text d l) (lines_text d lines) (lines_text d more ++ text)
    ∙ ap (λ (t : List ℕ). line_text d l ++ t) (lines-both d lines more text)
    ∙ sym (append_assoc (line_text d l) (lines_text d (lines ++ more)) text)

pub both : (d : ℕ) (h : HeaderPlace) (full : Bool) (text more : List ℕ) (file other : File) → Derives d h true text file → 0 < length file.lines
    → Derives d (Above (names_of h file.lines)) full more other → Derives d h full (text ++ more) (joined file other)
both d h full text more file other derives l e =
    let names = same-names h file.lines other.lines l in
    let ended : text ≡ lines_text d file.lines = derives.spelled ∙ ap (λ (t : List ℕ). lines_text d file.lines ++ t) (no-rest d file.rest derives.rest) ∙ append-nil (lines_text d file.lines) in
    let first : text ++ more ≡ lines_text d file.lines ++ more = ap (λ (t : List ℕ). t ++ more) ended in
    let second : lines_text d file.lines ++ more ≡ lines_text d file.lines ++ (lines_text d other.lines ++ rest_text d other.rest) = ap (λ (t : List ℕ). lines_text d file.lines ++ t) e.spelled in
    record {
      spelled = first ∙ second ∙ lines-both d file.lines other.lines (rest_text d other.rest);
      lines = ap (λ (n : ℕ). list_all (is_line d n) (file.lines ++ other.lines)) names ∙ all-both (is_line d (names_of h file.lines)) file.lines other.lines derives.lines e.lines;
      rest = e.rest;
    }
