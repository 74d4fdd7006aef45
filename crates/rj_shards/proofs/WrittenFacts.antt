-- What a writer of records, and an output behind it, got by one more record.
use Rattle.std.proofs.Common.{◌≡◌, ◌∙◌, ℕ, List, [], ◌∷◌, ◌++◌, map, Option, Some, None, true, false, Result, Ok, Err, refl, sym, ap, subst, append_assoc, Vec, Global}
use Rattle.std.specs.Prelude.{OnOk}
use Rattle.std.specs.Option.{is_some}
use Rattle.std.specs.Result.{is_ok}
use Rattle.std.specs.Io.KnownBytes.{Appends}
use Rattle.std.proofs.KnownBytes.{Appends-nil}
use Rattle.std.proofs.lemmas.Bool.{false≢true}
use Rattle.std.proofs.lemmas.List.{append-nil, map-append}
use Rattle.csv.specs.declared.writer.Writer.{Writer}
use Rattle.csv.specs.Writing.{row_text}
use Rattle.rj_csv_io.specs.Shown.{rows_text, writer_of}
use Rattle.rj_csv_io.specs.Written.{HasWritten}
use Rattle.rj_shards.specs.declared.merge.place.Place.{Place}
use Rattle.rj_shards.specs.declared.merge.place.Placed.{Placed}
use Rattle.rj_shards.specs.MergedTexts.{IsTold, head_rows, records_text}

-- what holds where a call went well, and what follows from it
pub on-ok : {T E P Q : Type 0} (r : Result T E) → OnOk r P → (P → Q) → OnOk r Q
on-ok (Ok x) h f = f h
on-ok (Err x) h f = tt

pub ok-if : {T E Q : Type 0} (r : Result T E) → (is_ok r ≡ true → Q) → OnOk r Q
ok-if (Ok x) f = f refl
ok-if (Err x) f = tt

-- an output that got nothing yet, one more record, and a block that was put
pub told-none : (d : ℕ) (start : Option (List ℕ)) (text : List ℕ) (block : Writer (Vec ℕ Global)) → HasWritten d block text [] → IsTold d start text block start
told-none d start text block h = record { put = []; kept = text; whole = refl; got = Appends-nil start; written = h }

pub told-more : (d : ℕ) (start : Option (List ℕ)) (text row : List ℕ) (a b : Writer (Vec ℕ Global)) (told : Option (List ℕ)) → IsTold d start text a told
    → ((kept : List ℕ) → HasWritten d a kept [] → HasWritten d b (kept ++ row) []) → IsTold d start (text ++ row) b told
told-more d start text row a b told t write = record {
  put = t.put;
  kept = t.kept ++ row;
  whole = ap (λ l. l ++ row) t.whole ∙ append_assoc t.put t.kept row;
  got = t.got;
  written = write t.kept t.written;
}

pub told-all : (d : ℕ) (start : Option (List ℕ)) (text : List ℕ) (block : Writer (Vec ℕ Global)) (told : Option (List ℕ)) → Appends start told text → HasWritten d block [] [] → IsTold d start text block told
told-all d start text block told got written = record { put = text; kept = []; whole = sym (append-nil text); got = got; written = written }

pub rows_text-append : (d : ℕ) (xs ys : List (List (List ℕ))) → rows_text d (xs ++ ys) ≡ rows_text d xs ++ rows_text d ys
unfolding rows_text
rows_text-append d [] ys = refl
rows_text-append d (x ∷ xs) ys = ap (λ t. row_text (writer_of d) x ++ t) (rows_text-append d xs ys) ∙ sym (append_assoc (row_text (writer_of d) x) (rows_text d xs) (rows_text d ys))

rows_text-one : (d : ℕ) (r : List (List ℕ)) → rows_text d (r ∷ []) ≡ row_text (writer_of d) r
unfolding rows_text
rows_text-one d r = append-nil (row_text (writer_of d) r)

-- no rows, one row more, and a header before rows
pub no_records : (d : ℕ) → records_text d [] ≡ []
unfolding rows_text
no_records d = refl

pub records-more : (d : ℕ) (text : List ℕ) (rows : List (Placed (List (List ℕ)))) (row : Placed (List (List ℕ))) → (text ++ records_text d rows) ++ row_text (writer_of d) row.row ≡ text ++ records_text d (rows ++ row ∷ [])
records-more d text rows row =
    append_assoc text (records_text d rows) (row_text (writer_of d) row.row)
    ∙ ap (λ t. text ++ t) (sym (ap (rows_text d) (map-append (λ (p : Placed (List (List ℕ))). p.row) rows (row ∷ [])) ∙ rows_text-append d (map (λ p. p.row) rows) (row.row ∷ []) ∙ ap (λ t. records_text d rows ++ t) (rows_text-one d row.row)))

pub under-head : (d : ℕ) (head : List (List (List ℕ))) (rows : List (Placed (List (List ℕ)))) → rows_text d head ++ records_text d rows ≡ rows_text d (head ++ map (λ p. p.row) rows)
under-head d head rows = sym (rows_text-append d head (map (λ p. p.row) rows))

-- the text of one row, and of none
pub one-row : (d : ℕ) (header : List (List ℕ)) → row_text (writer_of d) header ≡ rows_text d (header ∷ [])
one-row d header = sym (rows_text-one d header)

pub no-row : (d : ℕ) → rows_text d [] ≡ []
unfolding rows_text
no-row d = refl

-- a block that begins with a header, or with none
pub begun-later : (d : ℕ) (from : Option Place) (header : List (List ℕ)) (w : Writer (Vec ℕ Global)) → is_some from ≡ true → HasWritten d w [] [] → HasWritten d w (rows_text d (head_rows from header)) []
begun-later d None header w is h = absurd (false≢true is)
begun-later d (Some place) header w is h = subst (λ t. HasWritten d w t []) (sym (no-row d)) h

pub begun-first : (d : ℕ) (from : Option Place) (header names : List (List ℕ)) (w : Writer (Vec ℕ Global)) → is_some from ≡ false → names ≡ header → HasWritten d w (row_text (writer_of d) names) []
    → HasWritten d w (rows_text d (head_rows from header)) []
begun-first d None header names w is same h = subst (λ t. HasWritten d w t []) (ap (row_text (writer_of d)) same ∙ one-row d header) h
begun-first d (Some place) header names w is same h = absurd (false≢true (sym is))
