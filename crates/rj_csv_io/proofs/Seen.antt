-- What the check keeps of a text that is taken apart.
use Rattle.std.specs.Prelude.{ℕ, ◌+◌, ◌==◌, ◌≡◌, nat_lt, if◌then◌else◌, Bool, true, false, List, [], ◌∷◌, ◌++◌, length, Result, Ok, Err}
use Rattle.std.proofs.Common.{refl, sym, ap, arith, ◌∙◌}
use Rattle.std.proofs.lemmas.List.{length_push}
use Rattle.rj_csv_io.specs.Grammar.{Field, escaped, non-escaped, Line, LineEnd, LF, CRLF, File, dquote, cr, lf, is_blank, names_of, width}
use Rattle.rj_csv_io.specs.StrictFaults.{first_row}
use Rattle.rj_csv_io.specs.Internal.StrictSteps.{initial_standing, header_below, forbids_empty, next_line, next_field, end_empty, at_delimiter, at_lf, at_cr, at_dquote, at_textdata, step_of, end_of, step_then, verdict}
use Rattle.rj_csv_io.specs.declared.strict.header.HeaderPlace.{HeaderPlace}
use Rattle.rj_csv_io.specs.declared.strict.header.HeaderPlace.TheVariants.{First, Above}
use Rattle.rj_csv_io.specs.declared.strict.fault.StrictFault.{StrictFault}
use Rattle.rj_csv_io.specs.declared.strict.fault.StrictFault.TheVariants as fault
use Rattle.rj_csv_io.specs.declared.strict.standing.Place.{Place}
use Rattle.rj_csv_io.specs.declared.strict.standing.Place.TheVariants as place
use Rattle.rj_csv_io.specs.declared.strict.standing.Standing.{Standing}
use Rattle.rj_csv_io.proofs.Parsing.{Part, within, opened, returned, Taken, nothing, row_of, column_of, with_line, end_line, take_delimiter, take_lf, take_cr, take_dquote, take_textdata, take_byte, take_end, taken_then, parse, untaken}

abbrev pub place_of : List Field → Part → Place
place_of [] (within (non-escaped [])) = place.Start
place_of (g ∷ fields) (within (non-escaped [])) = place.Fresh
place_of [] (within (non-escaped (c ∷ bytes))) = place.Inside
place_of (g ∷ fields) (within (non-escaped (c ∷ bytes))) = place.Inside
place_of [] (within (escaped bytes)) = place.Closed
place_of (g ∷ fields) (within (escaped bytes)) = place.Closed
place_of [] (opened bytes) = place.Open
place_of (g ∷ fields) (opened bytes) = place.Open
place_of [] (returned (non-escaped [])) = place.Blank
place_of (g ∷ fields) (returned (non-escaped [])) = place.Return
place_of [] (returned (non-escaped (c ∷ bytes))) = place.Return
place_of (g ∷ fields) (returned (non-escaped (c ∷ bytes))) = place.Return
place_of [] (returned (escaped bytes)) = place.Return
place_of (g ∷ fields) (returned (escaped bytes)) = place.Return

abbrev pub header_seen : HeaderPlace → List Line → HeaderPlace
header_seen First [] = First
header_seen First (l ∷ lines) = Above (width l.fields)
header_seen (Above names) lines = Above names

abbrev pub seen : HeaderPlace → Taken → Standing
seen h t = record { place = place_of t.fields t.part; header = header_seen h t.lines; row = row_of h t; column = column_of t }

abbrev pub all_seen : HeaderPlace → Result Taken StrictFault → Result Standing StrictFault
all_seen h (Ok t) = Ok (seen h t)
all_seen h (Err e) = Err e

same : (p q : Place) (h k : HeaderPlace) (r s c d : ℕ) → p ≡ q → h ≡ k → r ≡ s → c ≡ d
    → ◌≡◌ {A = Standing} (record { place = p; header = h; row = r; column = c }) (record { place = q; header = k; row = s; column = d })
same p q h k r s c d e f g i = rw (e, f, g, i) refl

fresh : (fields : List Field) (f : Field) → place_of (fields ++ f ∷ []) nothing ≡ place.Fresh
fresh [] f = refl
fresh (g ∷ fields) f = refl

pub opens : (fields : List Field) (bytes : List ℕ) → place_of fields (opened bytes) ≡ place.Open
opens [] bytes = refl
opens (g ∷ fields) bytes = refl

header-more : (h : HeaderPlace) (lines : List Line) (fields : List Field) (f : Field) (e : LineEnd)
    → header_seen h (lines ++ record { fields = record { before = fields; last = f }; ended = e } ∷ []) ≡ header_below (header_seen h lines) (length fields + 1)
header-more First [] fields f e = refl
header-more First (l ∷ lines) fields f e = refl
header-more (Above names) lines fields f e = refl

forbids : (h : HeaderPlace) (lines : List Line) → forbids_empty (header_seen h lines) ≡ nat_lt 1 (names_of h lines)
forbids First [] = refl
forbids First (l ∷ lines) = refl
forbids (Above names) lines = refl

module _ (h : HeaderPlace) (lines : List Line) (fields : List Field) where
  line-seen : (p : Part) (f : Field) (e : LineEnd)
      → next_line (seen h (record { lines = lines; fields = fields; part = p })) ≡ seen h (with_line (record { lines = lines; fields = fields; part = p }) f e)
  line-seen p f e =
      let size = length_push lines (record { fields = record { before = fields; last = f }; ended = e }) in
      let more = lines ++ record { fields = record { before = fields; last = f }; ended = e } ∷ [] in
      let rows : first_row h + length lines + 1 ≡ first_row h + length more = omega (arith, size) in
      same place.Start place.Start (header_below (header_seen h lines) (length fields + 1)) (header_seen h more) (first_row h + length lines + 1) (first_row h + length more) 1 1
      refl (sym (header-more h lines fields f e)) rows refl

  field-seen : (p : Part) (f : Field)
      → next_field (seen h (record { lines = lines; fields = fields; part = p })) ≡ seen h (record { lines = lines; fields = fields ++ f ∷ []; part = nothing })
  field-seen p f =
      let size = length_push fields f in
      let columns : length fields + 1 + 1 ≡ length (fields ++ f ∷ []) + 1 = omega (arith, size) in
      same place.Fresh (place_of (fields ++ f ∷ []) nothing) (header_seen h lines) (header_seen h lines) (first_row h + length lines) (first_row h + length lines)
      (length fields + 1 + 1) (length (fields ++ f ∷ []) + 1) (sym (fresh fields f)) refl refl columns

  end-blank : (p : Part) (f : Field) (e : LineEnd) → is_blank (record { before = fields; last = f }) ≡ true
      → end_empty (seen h (record { lines = lines; fields = fields; part = p })) ≡ all_seen h (end_line h (record { lines = lines; fields = fields; part = p }) f e)
  end-blank p f e blank = rw (blank, forbids h lines) (go (nat_lt 1 (names_of h lines)))
    where
      t : Taken
      t = record { lines = lines; fields = fields; part = p }

      go : (b : Bool) → (if b then Err (fault.EmptyLine (row_of h t)) else Ok (next_line (seen h t)))
          ≡ all_seen h (if b then Err (fault.EmptyLine (row_of h t)) else Ok (with_line t f e))
      go true = refl
      go false = ap Ok (line-seen p f e)

-- what each kind of byte does, as the check sees it
module _ (h : HeaderPlace) (lines : List Line) where
  delimiter-seen : (fields : List Field) (p : Part) (c : ℕ)
      → at_delimiter (seen h (record { lines = lines; fields = fields; part = p })) ≡ all_seen h (take_delimiter h (record { lines = lines; fields = fields; part = p }) p c)
  delimiter-seen [] (within (non-escaped [])) c = ap Ok (field-seen h lines [] (within (non-escaped [])) (non-escaped []))
  delimiter-seen [] (within (non-escaped (b ∷ bytes))) c = ap Ok (field-seen h lines [] (within (non-escaped (b ∷ bytes))) (non-escaped (b ∷ bytes)))
  delimiter-seen [] (within (escaped bytes)) c = ap Ok (field-seen h lines [] (within (escaped bytes)) (escaped bytes))
  delimiter-seen (g ∷ fields) (within (non-escaped [])) c = ap Ok (field-seen h lines (g ∷ fields) (within (non-escaped [])) (non-escaped []))
  delimiter-seen (g ∷ fields) (within (non-escaped (b ∷ bytes))) c = ap Ok (field-seen h lines (g ∷ fields) (within (non-escaped (b ∷ bytes))) (non-escaped (b ∷ bytes)))
  delimiter-seen (g ∷ fields) (within (escaped bytes)) c = ap Ok (field-seen h lines (g ∷ fields) (within (escaped bytes)) (escaped bytes))
  delimiter-seen [] (opened bytes) c = refl
  delimiter-seen (g ∷ fields) (opened bytes) c = refl
  delimiter-seen [] (returned (non-escaped [])) c = refl
  delimiter-seen [] (returned (non-escaped (b ∷ bytes))) c = refl
  delimiter-seen [] (returned (escaped bytes)) c = refl
  delimiter-seen (g ∷ fields) (returned (non-escaped [])) c = refl
  delimiter-seen (g ∷ fields) (returned (non-escaped (b ∷ bytes))) c = refl
  delimiter-seen (g ∷ fields) (returned (escaped bytes)) c = refl

  lf-seen : (fields : List Field) (p : Part) (c : ℕ)
      → at_lf (seen h (record { lines = lines; fields = fields; part = p })) ≡ all_seen h (take_lf h (record { lines = lines; fields = fields; part = p }) p c)
  lf-seen [] (within (non-escaped [])) c = end-blank h lines [] (within (non-escaped [])) (non-escaped []) LF refl
  lf-seen [] (within (non-escaped (b ∷ bytes))) c = ap Ok (line-seen h lines [] (within (non-escaped (b ∷ bytes))) (non-escaped (b ∷ bytes)) LF)
  lf-seen [] (within (escaped bytes)) c = ap Ok (line-seen h lines [] (within (escaped bytes)) (escaped bytes) LF)
  lf-seen (g ∷ fields) (within (non-escaped [])) c = ap Ok (line-seen h lines (g ∷ fields) (within (non-escaped [])) (non-escaped []) LF)
  lf-seen (g ∷ fields) (within (non-escaped (b ∷ bytes))) c = ap Ok (line-seen h lines (g ∷ fields) (within (non-escaped (b ∷ bytes))) (non-escaped (b ∷ bytes)) LF)
  lf-seen (g ∷ fields) (within (escaped bytes)) c = ap Ok (line-seen h lines (g ∷ fields) (within (escaped bytes)) (escaped bytes) LF)
  lf-seen [] (opened bytes) c = refl
  lf-seen (g ∷ fields) (opened bytes) c = refl
  lf-seen [] (returned (non-escaped [])) c = end-blank h lines [] (returned (non-escaped [])) (non-escaped []) CRLF refl
  lf-seen [] (returned (non-escaped (b ∷ bytes))) c = ap Ok (line-seen h lines [] (returned (non-escaped (b ∷ bytes))) (non-escaped (b ∷ bytes)) CRLF)
  lf-seen [] (returned (escaped bytes)) c = ap Ok (line-seen h lines [] (returned (escaped bytes)) (escaped bytes) CRLF)
  lf-seen (g ∷ fields) (returned (non-escaped [])) c = ap Ok (line-seen h lines (g ∷ fields) (returned (non-escaped [])) (non-escaped []) CRLF)
  lf-seen (g ∷ fields) (returned (non-escaped (b ∷ bytes))) c = ap Ok (line-seen h lines (g ∷ fields) (returned (non-escaped (b ∷ bytes))) (non-escaped (b ∷ bytes)) CRLF)
  lf-seen (g ∷ fields) (returned (escaped bytes)) c = ap Ok (line-seen h lines (g ∷ fields) (returned (escaped bytes)) (escaped bytes) CRLF)

  cr-seen : (fields : List Field) (p : Part) (c : ℕ)
      → at_cr (seen h (record { lines = lines; fields = fields; part = p })) ≡ all_seen h (take_cr h (record { lines = lines; fields = fields; part = p }) p c)
  cr-seen [] (within (non-escaped [])) c = refl
  cr-seen [] (within (non-escaped (b ∷ bytes))) c = refl
  cr-seen [] (within (escaped bytes)) c = refl
  cr-seen (g ∷ fields) (within (non-escaped [])) c = refl
  cr-seen (g ∷ fields) (within (non-escaped (b ∷ bytes))) c = refl
  cr-seen (g ∷ fields) (within (escaped bytes)) c = refl
  cr-seen [] (opened bytes) c = refl
  cr-seen (g ∷ fields) (opened bytes) c = refl
  cr-seen [] (returned (non-escaped [])) c = refl
  cr-seen [] (returned (non-escaped (b ∷ bytes))) c = refl
  cr-seen [] (returned (escaped bytes)) c = refl
  cr-seen (g ∷ fields) (returned (non-escaped [])) c = refl
  cr-seen (g ∷ fields) (returned (non-escaped (b ∷ bytes))) c = refl
  cr-seen (g ∷ fields) (returned (escaped bytes)) c = refl

  dquote-seen : (fields : List Field) (p : Part) (c : ℕ)
      → at_dquote (seen h (record { lines = lines; fields = fields; part = p })) ≡ all_seen h (take_dquote h (record { lines = lines; fields = fields; part = p }) p c)
  dquote-seen [] (within (non-escaped [])) c = refl
  dquote-seen [] (within (non-escaped (b ∷ bytes))) c = refl
  dquote-seen [] (within (escaped bytes)) c = refl
  dquote-seen (g ∷ fields) (within (non-escaped [])) c = refl
  dquote-seen (g ∷ fields) (within (non-escaped (b ∷ bytes))) c = refl
  dquote-seen (g ∷ fields) (within (escaped bytes)) c = refl
  dquote-seen [] (opened bytes) c = refl
  dquote-seen (g ∷ fields) (opened bytes) c = refl
  dquote-seen [] (returned (non-escaped [])) c = refl
  dquote-seen [] (returned (non-escaped (b ∷ bytes))) c = refl
  dquote-seen [] (returned (escaped bytes)) c = refl
  dquote-seen (g ∷ fields) (returned (non-escaped [])) c = refl
  dquote-seen (g ∷ fields) (returned (non-escaped (b ∷ bytes))) c = refl
  dquote-seen (g ∷ fields) (returned (escaped bytes)) c = refl

  textdata-seen : (fields : List Field) (p : Part) (c : ℕ)
      → at_textdata (seen h (record { lines = lines; fields = fields; part = p })) ≡ all_seen h (take_textdata h (record { lines = lines; fields = fields; part = p }) p c)
  textdata-seen [] (within (non-escaped [])) c = refl
  textdata-seen [] (within (non-escaped (b ∷ bytes))) c = refl
  textdata-seen [] (within (escaped bytes)) c = refl
  textdata-seen (g ∷ fields) (within (non-escaped [])) c = refl
  textdata-seen (g ∷ fields) (within (non-escaped (b ∷ bytes))) c = refl
  textdata-seen (g ∷ fields) (within (escaped bytes)) c = refl
  textdata-seen [] (opened bytes) c = refl
  textdata-seen (g ∷ fields) (opened bytes) c = refl
  textdata-seen [] (returned (non-escaped [])) c = refl
  textdata-seen [] (returned (non-escaped (b ∷ bytes))) c = refl
  textdata-seen [] (returned (escaped bytes)) c = refl
  textdata-seen (g ∷ fields) (returned (non-escaped [])) c = refl
  textdata-seen (g ∷ fields) (returned (non-escaped (b ∷ bytes))) c = refl
  textdata-seen (g ∷ fields) (returned (escaped bytes)) c = refl

either : (h : HeaderPlace) (b : Bool) (x y : Result Standing StrictFault) (u v : Result Taken StrictFault) → x ≡ all_seen h u → y ≡ all_seen h v
    → (if b then x else y) ≡ all_seen h (if b then u else v)
either h true x y u v e f = e
either h false x y u v e f = f

pub byte-seen : (d : ℕ) (h : HeaderPlace) (t : Taken) (c : ℕ) → step_of d (seen h t) c ≡ all_seen h (take_byte d h t c)
byte-seen d h t c =
    either h (c == lf) _ _ _ _ (lf-seen h t.lines t.fields t.part c)
    (either h (c == cr) _ _ _ _ (cr-seen h t.lines t.fields t.part c)
    (either h (c == dquote) _ _ _ _ (dquote-seen h t.lines t.fields t.part c)
    (either h (c == d) _ _ _ _ (delimiter-seen h t.lines t.fields t.part c) (textdata-seen h t.lines t.fields t.part c))))

-- whether there is a derivation, or why there is none
abbrev pub told : Result File StrictFault → Result (Unit {0}) StrictFault
told (Ok file) = Ok tt
told (Err e) = Err e

unended : (full : Bool) (e : StrictFault) (file : File) → (if full then Err e else Ok tt) ≡ told (if full then Err e else Ok file)
unended true e file = refl
unended false e file = refl

end-seen : (h : HeaderPlace) (full : Bool) (lines : List Line) (fields : List Field) (p : Part)
    → end_of full (seen h (record { lines = lines; fields = fields; part = p })) ≡ told (take_end h full (record { lines = lines; fields = fields; part = p }) p)
end-seen h full lines [] (within (non-escaped [])) = refl
end-seen h full lines [] (within (non-escaped (b ∷ bytes))) = unended full _ _
end-seen h full lines [] (within (escaped bytes)) = unended full _ _
end-seen h full lines (g ∷ fields) (within (non-escaped [])) = unended full _ _
end-seen h full lines (g ∷ fields) (within (non-escaped (b ∷ bytes))) = unended full _ _
end-seen h full lines (g ∷ fields) (within (escaped bytes)) = unended full _ _
end-seen h full lines [] (opened bytes) = refl
end-seen h full lines (g ∷ fields) (opened bytes) = refl
end-seen h full lines [] (returned (non-escaped [])) = refl
end-seen h full lines [] (returned (non-escaped (b ∷ bytes))) = refl
end-seen h full lines [] (returned (escaped bytes)) = refl
end-seen h full lines (g ∷ fields) (returned (non-escaped [])) = refl
end-seen h full lines (g ∷ fields) (returned (non-escaped (b ∷ bytes))) = refl
end-seen h full lines (g ∷ fields) (returned (escaped bytes)) = refl

pub verdict-seen : (d : ℕ) (h : HeaderPlace) (full : Bool) (text : List ℕ) (t : Taken) → verdict d full (seen h t) text ≡ told (parse d h full t text)
unfolding verdict parse
verdict-seen d h full [] t = end-seen h full t.lines t.fields t.part
verdict-seen d h full (c ∷ text) t =
    ap (λ (r : Result Standing StrictFault). step_then r (λ s2. verdict d full s2 text)) (byte-seen d h t c)
    ∙ go (take_byte d h t c) (λ t2. verdict-seen d h full text t2)
  where
    go : (r : Result Taken StrictFault) → ((t2 : Taken) → verdict d full (seen h t2) text ≡ told (parse d h full t2 text))
        → step_then (all_seen h r) (λ s2. verdict d full s2 text) ≡ told (taken_then r (λ t2. parse d h full t2 text))
    go (Ok t2) more = more t2
    go (Err e) more = refl

pub initial-seen : (h : HeaderPlace) → initial_standing h ≡ seen h untaken
initial-seen First = refl
initial-seen (Above names) = refl

-- what the check says of a text is whether it has a derivation
pub verdict-parse : (d : ℕ) (h : HeaderPlace) (full : Bool) (text : List ℕ) → verdict d full (initial_standing h) text ≡ told (parse d h full untaken text)
verdict-parse d h full text = ap (λ (s : Standing). verdict d full s text) (initial-seen h) ∙ verdict-seen d h full text untaken
