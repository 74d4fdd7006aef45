-- What a side's file has, by the operand that a line has for it.
use Rattle.std.proofs.Common.{◌≡◌, ◌≢◌, ◌∙◌, ◌&&◌, Bool, Bor, List, [], Option, Result, Ok, Err, inl, inr, ap, ap₂, subst, sym, ◌⊎◌, true, false}
use Rattle.std.specs.Prelude.{IfErr, IfOk, MatchResult, min, ◌^◌}
use Rattle.std.proofs.lemmas.Bool.{and_parts, false≢true}
use Rattle.clap.specs.Words.{Text}
use Rattle.rj_columns.specs.Tables.{TableValue}
use Rattle.rj_csv_io.specs.Tables.{are_null_texts, is_null_text}
use Rattle.rj_csv_io.specs.Typed.{null_texts}
use Rattle.rj_shards.specs.Divisions.{written_null}
use Rattle.rj_shards.proofs.NullFacts.{written_lawful}
use Rattle.rj_line.specs.declared.fault.Fault.{Fault}
use Rattle.rj_line.specs.declared.fault.Fault.TheVariants as fault
use Rattle.rj_line.specs.declared.fault.Side.{Side}
use Rattle.shards.specs.Heads.{HasHead, HasHeadFault}
use Rattle.shards.specs.Lines.{operand_of}
use Rattle.shards.specs.Outputs.{Printed}
use Rattle.shards.specs.Plans.{HasSideHead, HasSideHeadFault, IsHeaderFault, IsOtherFailure, IsRangeFailure, IsRangeOf, IsToldAfter, of_keys, of_rows, has_lawful_nulls, header_table, other_side}
use Rattle.shards.specs.Ranges.{IsOfReading, range_file}
use Rattle.shards.specs.declared.dividing.Range.{Range}
use Rattle.shards.specs.declared.failure.Failure.{Failure}
use Rattle.shards.specs.declared.head.Head.{Head}
use Rattle.shards.specs.declared.line.Bounds.{Bounds}
use Rattle.shards.specs.declared.line.Line.{Line}
use Rattle.shards.specs.declared.line.Operand.{Operand}

module _ (holds : Text → Option Text) (l : Line) (s t : Side) (o : Operand) (side : s ≡ t) (own : o ≡ operand_of l s) where
  same : o ≡ operand_of l t
  same = own ∙ ap (operand_of l) side

  pub side-head : (h : Head) → HasHead l.strict o.delimiter (holds o.file.now) h → HasSideHead holds l t h
  side-head h is = subst (λ (p : Operand). HasHead l.strict p.delimiter (holds p.file.now) h) same is

  pub side-fault : (f : Fault) → HasHeadFault l.strict o.delimiter s (holds o.file.now) f → HasSideHeadFault holds l t f
  side-fault f is =
      subst (λ (u : Side). HasHeadFault l.strict (operand_of l t).delimiter u (holds (operand_of l t).file.now) f) side
      (subst (λ (p : Operand). HasHeadFault l.strict p.delimiter s (holds p.file.now) f) same is)

  pub side-table : (h : Head) (table : TableValue) → header_table h o ≡ Ok table → header_table h (operand_of l t) ≡ Ok table
  side-table h table is = subst (λ (p : Operand). header_table h p ≡ Ok table) same is

  pub table-fault : (h : Head) (f : Fault) → (f ≢ fault.Memory → IsHeaderFault h o s f) → f ≢ fault.Memory → IsHeaderFault h (operand_of l t) t f
  table-fault h f why = λ not.
      subst (λ (u : Side). IsHeaderFault h (operand_of l t) u f) side (subst (λ (p : Operand). IsHeaderFault h p s f) same (why not))

  pub head-read : (r : Result Head Fault) → IfOk r (HasHead l.strict o.delimiter (holds o.file.now)) → IfErr r (HasHeadFault l.strict o.delimiter s (holds o.file.now))
      → MatchResult r (HasSideHead holds l t) (HasSideHeadFault holds l t)
  head-read (Ok h) read unread = side-head h read
  head-read (Err f) read unread = side-fault f unread

-- the texts for NULL of both operands are lawful
pub lawful-nulls : (l : Line) (r : Bool) (nulls others : List (Bor Text)) (o p : Operand) (s : Side) → r ≡ (are_null_texts (null_texts nulls) && are_null_texts (null_texts others))
    → nulls ≡ o.nulls.items → others ≡ p.nulls.items → o ≡ operand_of l l.side → p ≡ operand_of l s → s ≡ other_side l.side → has_lawful_nulls l ≡ r
lawful-nulls l r nulls others o p s is first second own other side =
    let mine : nulls ≡ (operand_of l l.side).nulls.items = first ∙ ap (λ (x : Operand). x.nulls.items) own in
    let theirs : others ≡ (operand_of l (other_side l.side)).nulls.items =
    second ∙ (ap (λ (x : Operand). x.nulls.items) other ∙ ap (λ u. (operand_of l u).nulls.items) side) in
    sym (is ∙ ap₂ (λ (x y : List (Bor Text)). are_null_texts (null_texts x) && are_null_texts (null_texts y)) mine theirs)

-- the text that is written for NULL is a lawful one
pub written-null : (l : Line) (nulls : List (Bor Text)) (o : Operand) → has_lawful_nulls l ≡ true → o ≡ operand_of l l.side → nulls ≡ o.nulls.items
    → is_null_text (written_null (null_texts nulls)) ≡ true
written-null l nulls o lawful own are =
    let same : nulls ≡ (operand_of l l.side).nulls.items = are ∙ ap (λ (x : Operand). x.nulls.items) own in
    let mine = (and_parts (are_null_texts (null_texts (operand_of l l.side).nulls.items)) (are_null_texts (null_texts (operand_of l (other_side l.side)).nulls.items)) lawful).0 in
    written_lawful (null_texts nulls) (ap (λ (x : List (Bor Text)). are_null_texts (null_texts x)) same ∙ mine)

-- a range has what the operand of its side has
pub range-is : (holds : Text → Option Text) (l : Line) (bounds : Bounds) (o : Operand) (range : Range) → o ≡ operand_of l l.side → range.line.now ≡ l
    → HasSideHead holds l l.side range.head.now → header_table range.head.now (operand_of l l.side) ≡ Ok range.own.now → range.types.now ≡ range.own.now.types
    → range.nulls.now ≡ o.nulls.items → range.delimiter ≡ o.delimiter → range.from ≡ min bounds.from (2 ^ 62) → range.to ≡ bounds.to → IsRangeOf holds l bounds range
range-is holds l bounds o range own line head table types nulls delimiter from to = record {
  line = line;
  head = head;
  own = table;
  types = types;
  nulls = nulls ∙ ap (λ (p : Operand). p.nulls.items) own;
  delimiter = delimiter ∙ ap (λ (p : Operand). p.delimiter) own;
  from = from;
  to = to;
}

-- the failure of a range whose rows were looked at
pub looked : (holds : Text → Option Text) (tells : Bool) (l : Line) (bounds : Bounds) (range : Range) (found e : Failure) (told : List (Option Text)) (old new : Printed)
    → has_lawful_nulls l ≡ true → IsRangeOf holds l bounds range → IsOtherFailure holds l range.own.now found
    → ((e ≡ found) × IsToldAfter (range_file holds range) range old new found) ⊎ IsOfReading (range_file holds range) range old new e → told ≡ []
    → IsRangeFailure holds tells l bounds told old new e
looked holds tells l bounds range found e told old new lawful is other (inl rows) none =
    subst (IsRangeFailure holds tells l bounds told old new) (sym rows.0) (of_keys range found lawful is other rows.1 none)
looked holds tells l bounds range found e told old new lawful is other (inr why) none = of_rows range e lawful is why none

-- a failure that was found after the rows were looked at
pub looked-at : {Same Counted Kept Other : Type 0} (after : Bool) → after ≡ true → (Same × Counted) ⊎ Other → (Same × ((after ≡ true → Counted) × (after ≡ false → Kept))) ⊎ Other
looked-at after is (inl rows) = inl (rows.0, ((λ _. rows.1), λ before. absurd (false≢true (sym before ∙ is))))
looked-at after is (inr why) = inr why
