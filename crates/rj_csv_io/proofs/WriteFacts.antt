-- What a writer has written after one more field, and after the end of a record.
use Rattle.std.proofs.Common.{◌≡◌, ◌≢◌, ◌==◌, ◌∙◌, ◌<◌, ◌+◌, ◌-◌, ◌^◌, ℕ, List, [], ◌∷◌, ◌++◌, length, Option, Some, None, Result, Ok, Err, true, false, refl, sym, ap, append_assoc, arith, Vec, Global}
use Rattle.std.specs.Prelude.{OnOk, not, min}
use Rattle.std.specs.Result.{is_ok}
use Rattle.std.specs.Io.KnownBytes.{Appends}
use Rattle.std.proofs.lemmas.List.{append-nil, length-append}
use Rattle.csv.specs.declared.writer.QuoteStyle.TheVariants as style
use Rattle.csv.specs.declared.writer.Writer.{Writer}
use Rattle.csv.specs.declared.writer.WriterBuilder.{WriterBuilder}
use Rattle.csv.specs.Writing.{row_text, row_body, is_blank, next_sep, field_text, tail_text, text_written, writer_setup, fields_written, has_written}
use Rattle.csv.proofs.WriteFacts.{row-more, blank-more}
use Rattle.rj_csv_io.specs.Shown.{writer_of}
use Rattle.rj_csv_io.specs.Written.{HasWritten}

abbrev known : Vec ℕ Global → Option (List ℕ)
known v = Some v.items

appended : (a b : Option (List ℕ)) (t bs : List ℕ) → a ≡ Some t → Appends a b bs → b ≡ Some (t ++ bs)
appended None b t bs e h = absurd (cc)
appended (Some x) None t bs e h = absurd h
appended (Some x) (Some y) t bs e h = let q : x ≡ t = cc in rw (h, q) refl

plain-style : (d : ℕ) (cfg : WriterBuilder) → cfg ≡ writer_of d → cfg.style ≢ style.NonNumeric
plain-style d cfg e = rw e (λ h. cc h)

-- a new writer behind a text
pub nothing-written : (d : ℕ) (w : Writer (Vec ℕ Global)) (text : List ℕ) → writer_setup w ≡ writer_of d → fields_written w ≡ 0 → has_written w ≡ false
    → text_written known w ≡ Some text → HasWritten d w text []
unfolding is_blank
nothing-written d w text setup fields wrote bytes = record { setup = setup; count = fields; blank = rw wrote refl; bytes = bytes ∙ ap Some (sym (append-nil text)) }

-- one more field of a record
pub field-written : (d : ℕ) (a b : Writer (Vec ℕ Global)) (text : List ℕ) (fields : List (List ℕ)) (f : List ℕ) → length fields < 2 ^ 64 - 1 → HasWritten d a text fields
    → ((writer_setup a).style ≢ style.NonNumeric → Appends (text_written known a) (text_written known b) (next_sep (writer_setup a) (fields_written a) ++ field_text (writer_setup a) f))
    → writer_setup b ≡ writer_setup a → fields_written b ≡ min (fields_written a + 1) (2 ^ 64 - 1)
    → (has_written a ≡ false → (writer_setup a).style ≢ style.NonNumeric → has_written b ≡ not (length (field_text (writer_setup a) f) == 0))
    → (has_written a ≡ true → has_written b ≡ true) → HasWritten d b text (fields ++ f ∷ [])
field-written d a b text fields f room h bytes same count wrote stays =
    let plain = plain-style d (writer_setup a) h.setup in
    let size : length (fields ++ f ∷ []) ≡ length fields + 1 = length-append fields (f ∷ []) in
    let body = row-more (writer_of d) fields f in
    let more = rw (h.setup, h.count) at (bytes plain) in
    record {
      setup = same ∙ h.setup;
      count = count ∙ rw (h.count, size) (omega arith);
      blank = rw size (blank-more (writer_of d) fields f (has_written a) (has_written b) h.blank (λ w. rw h.setup at (wrote w plain)) stays);
      bytes = appended (text_written known a) (text_written known b) (text ++ row_body (writer_of d) fields) _ h.bytes more
          ∙ ap Some (append_assoc text (row_body (writer_of d) fields) _ ∙ ap (λ t. text ++ t) (sym body));
    }

-- the end of a record
pub record-written : (d : ℕ) (a b : Writer (Vec ℕ Global)) (text : List ℕ) (fields : List (List ℕ)) → HasWritten d a text fields
    → Appends (text_written known a) (text_written known b) (tail_text (writer_setup a) (has_written a) (fields_written a))
    → writer_setup b ≡ writer_setup a → fields_written b ≡ 0 → has_written b ≡ false → HasWritten d b (text ++ row_text (writer_of d) fields) []
unfolding is_blank
record-written d a b text fields h bytes same count wrote =
    let tail = rw (h.setup, h.count, ← h.blank) at bytes in
    record {
      setup = same ∙ h.setup;
      count = count;
      blank = rw wrote refl;
      bytes = appended (text_written known a) (text_written known b) (text ++ row_body (writer_of d) fields) _ h.bytes tail
          ∙ ap Some (append_assoc text (row_body (writer_of d) fields) _ ∙ sym (append-nil (text ++ row_text (writer_of d) fields)));
    }

-- what holds where a call went well
pub ok-holds : {T E P : Type 0} (r : Result T E) → is_ok r ≡ true → OnOk r P → P
ok-holds (Ok x) e h = h
ok-holds (Err x) e h = absurd (cc)
