-- The laws of this crate, for proofs of the crates above.
use Rattle.std.specs.Prelude.{◌≡◌, ◌<◌, ◌++◌, ℕ, Bool, true, List, length}
use Rattle.csv.specs.Reading.{records}
use Rattle.rj_csv_io.specs.Grammar.{Derives, File, file_text, may_delimit, names_of, records_of}
use Rattle.rj_csv_io.specs.JoinedTexts.{joined}
use Rattle.rj_csv_io.specs.StrictReading.{config_of, quoted, without_empty}
use Rattle.rj_csv_io.specs.declared.strict.header.HeaderPlace.{HeaderPlace}
use Rattle.rj_csv_io.specs.declared.strict.header.HeaderPlace.TheVariants.{Above, First}
use Rattle.rj_csv_io.proofs.Complete.{one}
use Rattle.rj_csv_io.proofs.CsvFacts.{reads, reads-all}
use Rattle.rj_csv_io.proofs.HeaderFacts.{with-header}
use Rattle.rj_csv_io.proofs.JoinedFacts.{both}
use Rattle.rj_csv_io.proofs.Lawful.{lawful-is}
use Rattle.rj_csv_io.proofs.QuotedFacts.{reads-quoted}

-- a text has at most one derivation
pub one_derivation : (d : ℕ) (header : HeaderPlace) (full : Bool) (text : List ℕ) (file other : File)
    → may_delimit d ≡ true → Derives d header full text file → Derives d header full text other → file ≡ other
one_derivation d header full text file other lawful = one d (lawful-is d lawful) header full text file other

-- csv reads the records of the derivation, without its empty lines
pub reads_records : (d : ℕ) (header : HeaderPlace) (full : Bool) (text : List ℕ) (file : File)
    → may_delimit d ≡ true → Derives d header full text file → records (config_of d) text ≡ records_of (without_empty file)
reads_records d header full text file lawful = reads d (lawful-is d lawful) header full text file

-- with more than one name it reads all of them
pub reads_all_records : (d : ℕ) (header : HeaderPlace) (full : Bool) (text : List ℕ) (file : File)
    → may_delimit d ≡ true → Derives d header full text file → 1 < names_of header file.lines → records (config_of d) text ≡ records_of file
reads_all_records d header full text file lawful = reads-all d (lawful-is d lawful) header full text file

-- with `""` in each empty line it reads all of them
pub reads_quoted_records : (d : ℕ) (header : HeaderPlace) (full : Bool) (text : List ℕ) (file : File)
    → may_delimit d ≡ true → Derives d header full text file → records (config_of d) (file_text d (quoted file)) ≡ records_of file
reads_quoted_records d header full text file lawful = reads-quoted d (lawful-is d lawful) header full text file

-- a derived text of whole lines, and one derived below its header, are derived as one
pub joined_texts : (d : ℕ) (header : HeaderPlace) (full : Bool) (text more : List ℕ) (file other : File)
    → may_delimit d ≡ true → Derives d header true text file → 0 < length file.lines → Derives d (Above (names_of header file.lines)) full more other
    → Derives d header full (text ++ more) (joined file other)
joined_texts d header full text more file other lawful = both d header full text more file other

-- a text derived under several names is derived with its header in it
pub derived_with_header : (d names : ℕ) (full : Bool) (text : List ℕ) (file : File)
    → 1 < names → may_delimit d ≡ true → Derives d (Above names) full text file → Derives d First full text file
derived_with_header d names full text file many lawful = with-header d names full text file many
