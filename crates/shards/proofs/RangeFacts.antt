-- The rows of a range, and what its parts get.
use Rattle.std.proofs.Common.{◌≡◌, ◌≢◌, ◌∙◌, ◌<◌, ◌∷◌, ◌++◌, ℕ, zero, suc, List, [], All, Bool, false, true, true≢false, Option, None, Some, Ok, Err, refl, sym, ap, ap₂, subst, arith, inl, inr, length, map, get_or, take}
use Rattle.std.specs.Prelude.{IfSome, nat_lt, replicate, ◌==◌}
use Rattle.std.specs.Io.KnownBytes.{Appends}
use Rattle.std.proofs.Math.Seq.{take-append_seam}
use Rattle.std.proofs.lemmas.Bool.{cases_Bool}
use Rattle.std.proofs.lemmas.List.{get_or-set_same, length-map}
use Rattle.rj_columns.specs.Contents.{Content}
use Rattle.rj_columns.specs.Names.{empty_table, name_fault}
use Rattle.rj_columns.specs.Tables.{TableValue}
use Rattle.rj_columns.specs.declared.cell.ColumnType.{ColumnType}
use Rattle.rj_columns.specs.declared.refused.BuildRefused.{BuildRefused}
use Rattle.rj_columns.specs.declared.refused.BuildRefused.TheVariants as build
use Rattle.rj_csv_io.specs.Devices.{after_failure}
use Rattle.rj_shards.specs.Divisions.{counts_after}
use Rattle.rj_shards.specs.Headers.{HaveText, HaveTextBefore}
use Rattle.rj_shards.specs.Texts.{HaveFirstRows, IsTextDivided}
use Rattle.rj_shards.specs.declared.division.refused.DivideRefused.{DivideRefused}
use Rattle.rj_shards.specs.declared.division.refused.DivideRefused.TheVariants as refused
use Rattle.rj_line.specs.declared.fault.Fault.{Fault}
use Rattle.shards.specs.Lines.{operand_of}
use Rattle.shards.specs.Ranges.{AreAllRows, AreParted, HaveHeaderBefore, IsFileFault, IsOfPartRows, IsOfParts, IsOfRows, IsRowsFault, bytes_between, range_begin, range_bytes, range_dividing, range_file, range_header, range_reading}
use Rattle.shards.specs.declared.dividing.Range.{Range}
use Rattle.shards.specs.declared.failure.Failure.{Failure}
use Rattle.shards.specs.declared.failure.Failure.TheVariants.{Told}
use Rattle.rj_shards.proofs.DivisionFacts.{part-none}
use Rattle.rj_shards.proofs.FirstFacts.{begin-none}
use Rattle.shards.specs.declared.line.Operand.{Operand}
use Rattle.shards.proofs.StorageFacts.{if-told}

-- a table has the types with which it was begun
pub begun-types : (names : List (List ℕ)) (types : List ColumnType) (t : TableValue) → empty_table names types ≡ Ok t → t.types ≡ types
begun-types names types t e = elim (cases_Bool (nat_lt 256 (length names))) [
  | inl many ↦ let no : Err build.TooManyColumns ≡ Ok t = rw many at e in absurd cc
  | inr few ↦ go few (name_fault [] names) refl
]
  where
    go : nat_lt 256 (length names) ≡ false → (o : Option BuildRefused) → name_fault [] names ≡ o → t.types ≡ types
    go few (Some x) f = let no : Err x ≡ Ok t = rw (few, f) at e in absurd cc
    go few None f = elim (cases_Bool (length names == length types)) [
      | inl same ↦
          let is : Ok record { names = names; types = types; rows = [] } ≡ Ok t = rw (few, f, same) at e in
          let q : record { names = names; types = types; rows = [] } ≡ t = cc in
          sym (ap (λ (v : TableValue). v.types) q)
      | inr other ↦ let no : Err build.TypeCount ≡ Ok t = rw (few, f, other) at e in absurd cc
    ]

-- so it begins with its own types
pub begun-by-own : (names : List (List ℕ)) (types own : List ColumnType) (t : TableValue) → empty_table names types ≡ Ok t → own ≡ t.types → empty_table names own ≡ Ok t
begun-by-own names types own t e is = ap (empty_table names) (is ∙ begun-types names types t e) ∙ e

-- parts that have got none of the rows of a range
none-got : (part : List Content → ℕ) (file : Option (List ℕ)) (range : Range) (told : List (Option (List ℕ))) (e : DivideRefused)
    → IfSome file (λ text. HaveFirstRows (range_dividing part range) (range_reading range.line.now.strict range.from) (range_bytes range text) told told e)
none-got part file range told e =
    if-told file (λ text. HaveFirstRows (range_dividing part range) (range_reading range.line.now.strict range.from) (range_bytes range text) told told e) (λ text p low other. (
      [],
      begin-none range.delimiter (length range.types.now) (range_reading range.line.now.strict range.from) (range_bytes range text),
      part-none (range_dividing part range) told told p refl,
    ))

-- a file that can't be opened has no rows that are divided
pub unopened-rows : (part : List Content → ℕ) (file : Option (List ℕ)) (range : Range) (told : List (Option (List ℕ))) (f : Fault) → IsFileFault range.line.now.side f
    → IsOfPartRows part file range told told (Told f)
unopened-rows part file range told f (inl device) = (refused.ReadDevice, ap Told device, if-told file _ (λ text. tt), none-got part file range told refused.ReadDevice)
unopened-rows part file range told f (inr memory) = (refused.Memory, ap Told memory, if-told file _ (λ text. tt), none-got part file range told refused.Memory)

-- nor any that are read, whatever is written
pub unread-rows : (part : List Content → ℕ) (file : Option (List ℕ)) (range : Range) (parts : ℕ) (f : Fault) → IsFileFault range.line.now.side f
    → IsOfRows part file range parts (Told f)
unread-rows part file range parts f (inl device) = (refused.ReadDevice, ap Told device, if-told file _ (λ text. tt))
unread-rows part file range parts f (inr memory) = (refused.Memory, ap Told memory, if-told file _ (λ text. tt))

-- an error that no output has is one also if there are none
pub unwritten-rows : (part : List Content → ℕ) (file : Option (List ℕ)) (range : Range) (parts : ℕ) (e : DivideRefused) → IsRowsFault part file range parts e
    → ((p : ℕ) → e ≡ refused.WriteDevice p → p < parts → ⊥) → IsRowsFault part file range 0 e
unwritten-rows part None range parts e why kept = tt
unwritten-rows part (Some text) range parts (refused.Read f) why kept = why
unwritten-rows part (Some text) range parts refused.TooLong why kept = why
unwritten-rows part (Some text) range parts refused.ReadDevice why kept = why
unwritten-rows part (Some text) range parts (refused.Broken f) why kept = why
unwritten-rows part (Some text) range parts (refused.WriteDevice p) why kept = absurd (kept p refl why)
unwritten-rows part (Some text) range parts refused.Memory why kept = why

-- outputs that never fail
zero-at : {X : Type 0} (count : X → ℕ) (xs : List X) (p : ℕ) → ((x : X) → count x ≡ 0) → get_or (map count xs) p 0 ≡ 0
zero-at count [] p never = refl
zero-at count (x ∷ xs) zero never = never x
zero-at count (x ∷ xs) (suc p) never = zero-at count xs p never

pub none-failed : {X : Type 0} (count : X → ℕ) (old new : List X) (e : DivideRefused) (p : ℕ) → ((x : X) → count x ≡ 0)
    → map count new ≡ counts_after {T = ℕ} (Err e) (map count old) → e ≡ refused.WriteDevice p → p < length old → ⊥
none-failed count old new e p never same is low =
    let counts = map count old in
    let one : 0 ≡ 1 =
    sym (zero-at count new p never)
    ∙ (ap (λ l. get_or l p 0) (same ∙ ap (λ r. counts_after {T = ℕ} (Err r) counts) is)
    ∙ (get_or-set_same counts p (after_failure (get_or counts p 0)) 0 (omega (arith, low, length-map old count))
    ∙ ap after_failure (zero-at count old p never))) in
    absurd (omega (arith, one))

-- the rows of a range that was divided
pub all-rows : (part : List Content → ℕ) (file : Option (List ℕ)) (range : Range) (before after : List (Option (List ℕ))) (n : ℕ)
    → IfSome file (λ text. IsTextDivided (range_dividing part range) (range_reading range.line.now.strict range.from) (range_bytes range text) before after n) → AreAllRows file range n
all-rows part None range before after n divided = tt
all-rows part (Some text) range before after n divided = (divided.0, divided.2.rows, divided.1, divided.2.read, divided.2.many)

abbrev is_write : DivideRefused → Bool
is_write (refused.WriteDevice p) = true
is_write _ = false

-- what the parts have of a header that isn't written to all
pub header-before : (header : List ℕ) (before after : List (Option (List ℕ))) (e : DivideRefused) → ((p : ℕ) → e ≡ refused.WriteDevice p → HaveTextBefore p header before after)
    → (((p : ℕ) → e ≢ refused.WriteDevice p) → after ≡ before) → HaveHeaderBefore header before after e
header-before header before after (refused.WriteDevice p) failed kept = failed p refl
header-before header before after e failed kept = kept (λ p is. true≢false (sym (ap is_write is)))

-- an output that had got nothing has what was put
only-put : (before after : Option (List ℕ)) (text : List ℕ) → before ≡ Some [] → Appends before after text → after ≡ Some text
only-put before after text none put = go after (subst (λ o. Appends o after text) none put)
  where
    go : (after : Option (List ℕ)) → Appends (Some []) after text → after ≡ Some text
    go None put = absurd put
    go (Some got) put = ap Some put

-- outputs that had got nothing have the header
headed : (text : List ℕ) (before after : List (Option (List ℕ))) → length after ≡ length before → All (λ t. t ≡ Some []) before → HaveText text before after
    → after ≡ replicate (length after) (Some text)
headed text before [] size none put = refl
headed text [] (a ∷ after) size none put = absurd (omega (arith, size))
headed text (b ∷ before) (a ∷ after) size none put =
    let first = only-put b a text (none 0 b (omega arith)) (put 0 (omega arith)) in
    let rest = headed text before after (omega (arith, size)) (λ k d lt. none (suc k) d (omega (arith, lt))) (λ p lt. put (suc p) (omega (arith, lt))) in
    ap₂ (λ (x : Option (List ℕ)) (xs : List (Option (List ℕ))). x ∷ xs) first rest

-- what holds of each part holds of what each tells
pub all-told : {X : Type 0} (told : X → Option (List ℕ)) (parts : List X) → All (λ p. told p ≡ Some []) parts → All (λ t. t ≡ Some []) (map told parts)
all-told {X} told parts none = λ k d lt.
    let size = length-map parts told in
    go parts none k d (omega (arith, size, lt))
  where
    go : (parts : List X) → All (λ p. told p ≡ Some []) parts → (k : ℕ) (d : Option (List ℕ)) → k < length parts → get_or (map told parts) k d ≡ Some []
    go [] none k d lt = absurd (omega arith)
    go (p ∷ parts) none zero d lt = none 0 p (omega arith)
    go (p ∷ parts) none (suc k) d lt = go parts (λ j e below. none (suc j) e (omega (arith, below))) k d (omega (arith, lt))

-- parts that got the header and then the rows of a range
pub parted : (file : Option (List ℕ)) (part : List Content → ℕ) (range : Range) (before mid after : List (Option (List ℕ))) (n : ℕ)
    → All (λ t. t ≡ Some []) before → length mid ≡ length before → length after ≡ length mid → HaveText (range_header range) before mid
    → IfSome file (λ text. IsTextDivided (range_dividing part range) (range_reading range.line.now.strict range.from) (range_bytes range text) mid after n)
    → AreParted file part range after n
parted file part range before mid after n none same alike put divided =
    let had : mid ≡ replicate (length after) (Some (range_header range)) =
    headed (range_header range) before mid same none put ∙ ap (λ k. replicate k (Some (range_header range))) (sym alike) in
    subst (λ had. IfSome file (λ text. IsTextDivided (range_dividing part range) (range_reading range.line.now.strict range.from) (range_bytes range text) had after n)) had divided

-- a slice that is written back to its list
pub written-back : {X : Type 0} (n : ℕ) (slice rest : List X) → n ≡ length slice → take n (slice ++ rest) ≡ slice
written-back n slice rest is = ap (λ k. take k (slice ++ rest)) is ∙ take-append_seam slice rest

-- a device that tells the bytes of a file between the places of a range tells those of the range
pub range-told : (holds : List ℕ → Option (List ℕ)) (range : Range) (o : Operand) (begin : ℕ) (tells : Option (List ℕ)) → o ≡ operand_of range.line.now range.line.now.side
    → begin ≡ range_begin range → IfSome (holds o.file.now) (λ text. tells ≡ Some (bytes_between begin range.to text))
    → IfSome (range_file holds range) (λ text. tells ≡ Some (range_bytes range text))
range-told holds range o begin tells own from told =
    subst (λ b. IfSome (range_file holds range) (λ text. tells ≡ Some (bytes_between b range.to text))) from
    (subst (λ (p : Operand). IfSome (holds p.file.now) (λ text. tells ≡ Some (bytes_between begin range.to text))) own told)

-- why parts aren't filled, told of all of them and not of a slice
pub written-fault : {X : Type 0} (told : X → Option (List ℕ)) (file : Option (List ℕ)) (range : Range) (len : ℕ) (part other : List Content → ℕ) (slice items new rest : List X) (e : Failure)
    → part ≡ other → slice ≡ items → len ≡ length new → IsOfParts part file range (map told slice) (map told new) e
    → IsOfParts other file range (map told items) (map told (take len (new ++ rest))) e
written-fault {X} told file range len part other slice items new rest e alike same size why =
    subst (λ p. IsOfParts p file range (map told items) (map told (take len (new ++ rest))) e) alike
    (subst (λ (l : List X). IsOfParts part file range (map told items) (map told l) e) (sym (written-back len new rest size))
    (subst (λ (l : List X). IsOfParts part file range (map told l) (map told new) e) same why))

-- so the parts that a slice of them filled have what it got
pub written-parts : {X : Type 0} (told : X → Option (List ℕ)) (file : Option (List ℕ)) (range : Range) (n len : ℕ) (part other : List Content → ℕ) (slice items new rest : List X)
    → part ≡ other → slice ≡ items → len ≡ length new → (All (λ p. told p ≡ Some []) slice → AreParted file part range (map told new) n)
    → All (λ p. told p ≡ Some []) items → AreParted file other range (map told (take len (new ++ rest))) n
written-parts {X} told file range n len part other slice items new rest alike same size filled none =
    let got = filled (subst (λ (l : List X). All (λ p. told p ≡ Some []) l) (sym same) none) in
    subst (λ p. AreParted file p range (map told (take len (new ++ rest))) n) alike
    (subst (λ (l : List X). AreParted file part range (map told l) n) (sym (written-back len new rest size)) got)
