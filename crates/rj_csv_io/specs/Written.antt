-- What a writer of records in memory has written so far.
use Rattle.std.specs.Prelude.{◌≡◌, ◌==◌, ◌||◌, ◌&&◌, not, ℕ, List, [], ◌++◌, length, Some}
use Rattle.std.specs.declared.alloc.Global.{Global}
use Rattle.std.specs.declared.vec.Vec.{Vec}
use Rattle.csv.specs.declared.writer.Writer.{Writer}
use Rattle.csv.specs.Writing.{row_body, is_blank, writer_setup, fields_written, has_written, text_written, writer_under}
use Rattle.rj_csv_io.specs.Shown.{writer_of}

-- with this delimiter, this text of whole records, and then these fields of one that isn't ended
pub record HasWritten (d : ℕ) (w : Writer (Vec ℕ Global)) (text : List ℕ) (fields : List (List ℕ)) : Type 0 where
  pub setup : writer_setup w ≡ writer_of d
  pub count : fields_written w ≡ length fields
  pub blank : is_blank (writer_of d) fields ≡ (not (has_written w) && ((length fields == 0) || (length fields == 1)))
  pub bytes : text_written (λ v. Some v.items) w ≡ Some (text ++ row_body (writer_of d) fields)

-- all that it wrote is whole records, and stands in the text under the writer
abbrev pub IsSettled : ℕ → Writer (Vec ℕ Global) → Type 0
IsSettled d w = HasWritten d w (writer_under w).items []
