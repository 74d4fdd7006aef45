-- The list of types that the cells of a file suggest is a text.
use Rattle.std.proofs.Common.{◌≡◌, ◌∙◌, ◌<◌, ◌+◌, ◌++◌, ◌∷◌, [], ℕ, List, Option, Some, None, ap, append_assoc, arith, codes, false, get_or, inl, inr, length, length-append, refl, subst, sym}
use Rattle.std.specs.Prelude.{Err, IsUtf8, Ok, Result, ◌==◌, nat_lt}
use Rattle.std.specs.Fmt.{decimal}
use Rattle.std.specs.List.{list_any}
use Rattle.std.specs.Str.{str_eq_ignore_ascii_case}
use Rattle.std.proofs.Math.Seq.{drop-append-add, get_or-append_seam, take-append_seam}
use Rattle.std.proofs.Math.Utf8.{encode}
use Rattle.std.proofs.lemmas.Bool.{and_parts, cases_Bool, eqb-true}
use Rattle.std.proofs.lemmas.Fmt.{IsAscii-decimal}
use Rattle.std.proofs.lemmas.Str.{IsCharBoundary-after_ascii, IsCharBoundary-before_ascii, IsUtf8-append, IsUtf8-drop, IsUtf8-from_ascii, IsUtf8-from_is_utf8, IsUtf8-nil, IsUtf8-take}
use Rattle.rj_columns.specs.Contents.{Content}
use Rattle.rj_columns.specs.Names.{empty_table, is_name, name_fault}
use Rattle.rj_columns.specs.Tables.{TableValue}
use Rattle.rj_columns.specs.declared.cell.ColumnType.{ColumnType}
use Rattle.rj_columns.specs.declared.cell.ColumnType.TheVariants as kind
use Rattle.rj_columns.specs.declared.refused.BuildRefused.{BuildRefused}
use Rattle.rj_columns.specs.declared.refused.BuildRefused.TheVariants as build
use Rattle.rj_condition.specs.Tokens.{doubled}
use Rattle.rj_csv_io.specs.Rows.{read_rows}
use Rattle.rj_csv_io.specs.Tables.{are_null_texts, of_begun, read_records, records_read}
use Rattle.rj_csv_io.specs.declared.refused.ReadRefused.{ReadRefused}
use Rattle.rj_csv_io.specs.declared.refused.ReadRefused.TheVariants as refused
use Rattle.rj_line.specs.Misfits.{IsSuggestionOf}
use Rattle.rj_line.specs.Suggested.{column_line, column_lines, is_identifier, name_text, texts_for, type_word}
use Rattle.rj_line.specs.declared.suggest.suggestion.Suggestion.{Suggestion}

-- a text may be cut on both sides of an ASCII byte
cut-at : (front text : List ℕ) (b : ℕ) → b < 128 → IsUtf8 (front ++ b ∷ text) → IsUtf8 front × IsUtf8 text
cut-at front text b small h =
    let all = front ++ b ∷ text in
    let at : get_or all (length front) 0 ≡ b = get_or-append_seam front b text 0 in
    let inside : length front < length all = omega (arith, length-append front (b ∷ text)) in
    let low : get_or all (length front) 0 < 128 = omega (arith, at, small) in (
      subst IsUtf8 (take-append_seam front (b ∷ text)) (IsUtf8-take all (length front) h (IsCharBoundary-before_ascii all (length front) inside low)),
      subst IsUtf8 (drop-append-add front (b ∷ text) 1) (IsUtf8-drop all (length front + 1) h (IsCharBoundary-after_ascii all (length front) h inside low)),
    )

-- a text stays one when each double quote behind a front of it is doubled
doubled-text : (front text : List ℕ) → IsUtf8 (front ++ text) → IsUtf8 (front ++ doubled 34 text)
unfolding encode
doubled-text front [] h = h
doubled-text front (b ∷ text) h = elim (cases_Bool (b == 34)) [
  | inl quote ↦
      let is : b ≡ 34 = eqb-true b 34 quote in
      let parts = cut-at front text b (omega (arith, is)) h in
      rw quote (IsUtf8-append front (34 ∷ 34 ∷ doubled 34 text) parts.0 (IsUtf8-append (34 ∷ 34 ∷ []) (doubled 34 text) (34 ∷ 34 ∷ [], (refl, refl)) (doubled-text [] text parts.1)))
  | inr other ↦
      rw other (subst IsUtf8 (append_assoc front (b ∷ []) (doubled 34 text)) (doubled-text (front ++ b ∷ []) text (subst IsUtf8 (sym (append_assoc front (b ∷ []) text)) h)))
]

name-text : (name : List ℕ) → IsUtf8 name → IsUtf8 (name_text name)
unfolding encode
name-text name h = elim (cases_Bool (is_identifier name)) [
  | inl plain ↦ rw plain h
  | inr quoted ↦
      rw quoted (IsUtf8-append (34 ∷ []) (doubled 34 name ++ 34 ∷ []) (34 ∷ [], (refl, refl)) (IsUtf8-append (doubled 34 name) (34 ∷ []) (doubled-text [] name h) (34 ∷ [], (refl, refl))))
]

number-text : (n : ℕ) → n < 100 → IsUtf8 (decimal n)
number-text n less = IsUtf8-from_ascii (decimal n) (IsAscii-decimal n (omega (arith, less)))

word-text : (p s : ℕ) → p < 100 → s < 100 → IsUtf8 ((codes "num(" ++ decimal p) ++ (codes "," ++ (decimal s ++ codes ")")))
unfolding encode
word-text p s low few =
    IsUtf8-append (codes "num(" ++ decimal p) (codes "," ++ (decimal s ++ codes ")"))
    (IsUtf8-append (codes "num(") (decimal p) (codes "num(", (refl, refl)) (number-text p low))
    (IsUtf8-append (codes ",") (decimal s ++ codes ")") (codes ",", (refl, refl)) (IsUtf8-append (decimal s) (codes ")") (number-text s few) (codes ")", (refl, refl))))

type-text : (k : ColumnType) → IsUtf8 (type_word k)
unfolding encode
type-text kind.Int = (codes "int", (refl, refl))
type-text (kind.Num n) = word-text n.precision n.scale (omega (arith, n.limits)) (omega (arith, n.limits))
type-text kind.Text = (codes "text", (refl, refl))

line-text : (name : List ℕ) (k : ColumnType) → IsUtf8 name → IsUtf8 (column_line name k)
unfolding encode
line-text name k h =
    IsUtf8-append (name_text name) (61 ∷ (type_word k ++ 10 ∷ [])) (name-text name h)
    (IsUtf8-append (61 ∷ []) (type_word k ++ 10 ∷ []) (61 ∷ [], (refl, refl)) (IsUtf8-append (type_word k) (10 ∷ []) (type-text k) (10 ∷ [], (refl, refl))))

lines-text : (seen names : List (List ℕ)) (kinds : List ColumnType) → name_fault seen names ≡ None → IsUtf8 (column_lines names kinds)
unfolding name_fault
lines-text seen [] kinds lawful = IsUtf8-nil
lines-text seen (name ∷ names) [] lawful = IsUtf8-nil
lines-text seen (name ∷ names) (k ∷ kinds) lawful = elim (cases_Bool (is_name name)) [
  | inr bad ↦ let no : Some (build.BadName (length seen + 1)) ≡ None = rw bad at lawful in absurd cc
  | inl good ↦ elim (cases_Bool (list_any (str_eq_ignore_ascii_case name) seen)) [
    | inl again ↦ let no : Some (build.RepeatedName (length seen + 1)) ≡ None = rw (good, again) at lawful in absurd cc
    | inr new ↦
        let rest : name_fault (seen ++ name ∷ []) names ≡ None = rw (good, new) at lawful in
        let text : IsUtf8 name = IsUtf8-from_is_utf8 name (and_parts _ _ good).1 in
        IsUtf8-append (column_line name k) (column_lines names kinds) (line-text name k text) (lines-text (seen ++ name ∷ []) names kinds rest)
  ]
]

-- the names of a table that was read
module _ (nulls : List (List ℕ)) (types : List ColumnType) (t : TableValue) where
  begun : (header : List (List ℕ)) (start : TableValue) → empty_table header types ≡ Ok start → name_fault [] start.names ≡ None
  begun header start e = elim (cases_Bool (nat_lt 256 (length header))) [
    | inl many ↦ let no : Err _ ≡ Ok start = rw many at e in absurd cc
    | inr few ↦ go few (name_fault [] header) refl
  ]
    where
      go : nat_lt 256 (length header) ≡ false → (o : Option BuildRefused) → name_fault [] header ≡ o → name_fault [] start.names ≡ None
      go few (Some x) f = let no : Err x ≡ Ok start = rw (few, f) at e in absurd cc
      go few None f = elim (cases_Bool (length header == length types)) [
        | inl same ↦
            let is : Ok record { names = header; types = types; rows = [] } ≡ Ok start = rw (few, f, same) at e in
            let names : header ≡ start.names = cc in
            ap (name_fault []) (sym names) ∙ f
        | inr other ↦ let no : Err build.TypeCount ≡ Ok start = rw (few, f, other) at e in absurd cc
      ]

  under : (header : List (List ℕ)) (rest : List (List (List ℕ))) (begins : Result TableValue BuildRefused) → empty_table header types ≡ begins
      → read_records nulls types (header ∷ rest) ≡ Ok t → name_fault [] t.names ≡ None
  under header rest (Err f) b r = let no : Err (of_begun f) ≡ Ok t = rw b at r in absurd cc
  under header rest (Ok start) b r = go (read_rows nulls types [] rest) refl
    where
      go : (x : Result (List (List Content)) ReadRefused) → read_rows nulls types [] rest ≡ x → name_fault [] t.names ≡ None
      go (Err x) is = let no : Err x ≡ Ok t = rw (b, is) at r in absurd cc
      go (Ok rows) is =
          let made : Ok record start { rows = rows } ≡ Ok t = rw (b, is) at r in
          let last : record start { rows = rows } ≡ t = cc in
          ap (λ (s : TableValue). name_fault [] s.names) (sym last) ∙ begun header start b

  lawful_names : (rs : List (List (List ℕ))) → records_read rs types nulls ≡ Ok t → name_fault [] t.names ≡ None
  lawful_names rs e = elim (cases_Bool (are_null_texts nulls)) [
    | inl lawful ↦ of_records rs (rw lawful at e)
    | inr unlawful ↦ let no : Err refused.BadNull ≡ Ok t = rw unlawful at e in absurd cc
  ]
    where
      of_records : (all : List (List (List ℕ))) → read_records nulls types all ≡ Ok t → name_fault [] t.names ≡ None
      of_records [] r = absurd cc
      of_records (header ∷ rest) r = under header rest (empty_table header types) refl r

-- what records suggest is a text
pub suggested-text : (rs : List (List (List ℕ))) (nulls : List (List ℕ)) (s : Suggestion) → IsSuggestionOf rs nulls s → IsUtf8 s.list.items
suggested-text rs nulls s told =
    subst IsUtf8 (sym told.lines) (lines-text [] told.table.names told.kinds (lawful_names nulls (texts_for rs) told.table rs told.are.read))
