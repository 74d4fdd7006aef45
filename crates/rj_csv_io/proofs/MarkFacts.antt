-- A text of records begins with a byte order mark only where its first field does.
use Rattle.std.proofs.Common.{◌≡◌, ◌∙◌, ℕ, List, [], ◌∷◌, ◌++◌, map, get_or, Bool, true, false, refl, ap, append_assoc}
use Rattle.std.specs.Prelude.{◌==◌, ◌&&◌, if◌then◌else◌}
use Rattle.std.proofs.lemmas.Bool.{and_left, and_right}
use Rattle.csv.specs.Writing.{escaped, field_text, fields_text, is_blank, needs_quotes, row_text}
use Rattle.rj_columns.specs.Contents.{Content}
use Rattle.rj_csv_io.specs.Grammar.{may_delimit}
use Rattle.rj_csv_io.specs.Cuts.{has_bom}
use Rattle.rj_csv_io.specs.Shown.{rows_text, shown, table_text, writer_of}
use Rattle.rj_csv_io.proofs.DelimiterFacts.{delimiter-other}

-- a byte of no mark
record IsPlain (c : ℕ) : Type 0 where
  first : (c == 0xEF) ≡ false
  second : (c == 0xBB) ≡ false
  third : (c == 0xBF) ≡ false

delimiter-plain : (d : ℕ) → may_delimit d ≡ true → IsPlain d
delimiter-plain d lawful = record { first = delimiter-other d lawful 0xEF refl; second = delimiter-other d lawful 0xBB refl; third = delimiter-other d lawful 0xBF refl }

quote-plain : IsPlain 34
quote-plain = record { first = refl; second = refl; third = refl }

feed-plain : IsPlain 10
feed-plain = record { first = refl; second = refl; third = refl }

plain-start : (c : ℕ) (tail : List ℕ) → IsPlain c → has_bom (c ∷ tail) ≡ false
unfolding has_bom
plain-start c [] plain = refl
plain-start c (d ∷ []) plain = refl
plain-start c (d ∷ e ∷ tail) plain = rw plain.first refl

-- such a byte behind a text that begins with no mark
plain-behind : (text : List ℕ) (c : ℕ) (tail : List ℕ) → IsPlain c → has_bom text ≡ false → has_bom (text ++ c ∷ tail) ≡ false
unfolding has_bom
plain-behind [] c tail plain unmarked = plain-start c tail plain
plain-behind (a ∷ []) c [] plain unmarked = refl
plain-behind (a ∷ []) c (d ∷ tail) plain unmarked = rw plain.second (and_left ((a == 0xEF) && false) (d == 0xBF) (and_right (a == 0xEF) false refl))
plain-behind (a ∷ b ∷ []) c tail plain unmarked = rw plain.third (and_right ((a == 0xEF) && (b == 0xBB)) false refl)
plain-behind (a ∷ b ∷ d ∷ text) c tail plain unmarked = unmarked

-- behind the first field of a record stands such a byte
record Behind (first text : List ℕ) : Type 0 where
  byte : ℕ
  tail : List ℕ
  plain : IsPlain byte
  parts : text ≡ first ++ byte ∷ tail

module _ (d : ℕ) (lawful : may_delimit d ≡ true) where
  behind-first : (f : List ℕ) (fields : List (List ℕ)) (more : List ℕ) → Behind (field_text (writer_of d) f) (row_text (writer_of d) (f ∷ fields) ++ more)
  unfolding fields_text is_blank
  behind-first f [] more = go (is_blank (writer_of d) (f ∷ []))
    where
      go : (b : Bool) → Behind (field_text (writer_of d) f) (((field_text (writer_of d) f ++ []) ++ ((if b then 34 ∷ 34 ∷ [] else []) ++ 10 ∷ [])) ++ more)
      go true = record {
        byte = 34;
        tail = 34 ∷ 10 ∷ more;
        plain = quote-plain;
        parts = append_assoc (field_text (writer_of d) f ++ []) (34 ∷ 34 ∷ 10 ∷ []) more ∙ append_assoc (field_text (writer_of d) f) [] (34 ∷ 34 ∷ 10 ∷ more);
      }
      go false = record {
        byte = 10;
        tail = more;
        plain = feed-plain;
        parts = append_assoc (field_text (writer_of d) f ++ []) (10 ∷ []) more ∙ append_assoc (field_text (writer_of d) f) [] (10 ∷ more);
      }
  behind-first f (g ∷ fields) more = record {
    byte = d;
    tail = (field_text (writer_of d) g ++ fields_text (writer_of d) fields) ++ 10 ∷ more;
    plain = delimiter-plain d lawful;
    parts = append_assoc (field_text (writer_of d) f ++ fields_text (writer_of d) (g ∷ fields)) (10 ∷ []) more
        ∙ append_assoc (field_text (writer_of d) f) (fields_text (writer_of d) (g ∷ fields)) (10 ∷ more);
  }

  -- between quotes a field begins with none, and else as it is written
  field-unmarked : (f : List ℕ) → has_bom f ≡ false → has_bom (field_text (writer_of d) f) ≡ false
  field-unmarked f unmarked = go (needs_quotes (writer_of d) f)
    where
      go : (b : Bool) → has_bom (if b then 34 ∷ (escaped (writer_of d) f ++ (34 ∷ [])) else f) ≡ false
      go true = plain-start 34 (escaped (writer_of d) f ++ (34 ∷ [])) quote-plain
      go false = unmarked

  record-unmarked : (fields : List (List ℕ)) (more : List ℕ) → has_bom (get_or fields 0 []) ≡ false → has_bom (row_text (writer_of d) fields ++ more) ≡ false
  unfolding is_blank
  record-unmarked [] more unmarked = plain-start 34 (34 ∷ 10 ∷ more) quote-plain
  record-unmarked (f ∷ fields) more unmarked =
      let b = behind-first f fields more in
      ap has_bom b.parts ∙ plain-behind (field_text (writer_of d) f) b.byte b.tail b.plain (field-unmarked f unmarked)

  pub table-unmarked : (null : List ℕ) (names : List (List ℕ)) (rows : List (List Content)) → has_bom (get_or names 0 []) ≡ false → has_bom (table_text d null names rows) ≡ false
  unfolding rows_text
  table-unmarked null names rows unmarked = record-unmarked names (rows_text d (map (map (shown null)) rows)) unmarked
