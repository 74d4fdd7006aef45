-- What writing says of a whole run.
use Rattle.std.proofs.Common.{◌≡◌, ◌∙◌, ◌++◌, ◌∷◌, [], Bool, true, false, cond, inl, inr, ap, refl, subst, sym, true≢false, List, Option, Some, None, ℕ}
use Rattle.std.specs.Prelude.{◌≢◌, ◌⊎◌, if◌then◌else◌, option_map, Result, Ok, Err, IfOk, IfErr}
use Rattle.std.proofs.lemmas.Bool.{cases_Bool}
use Rattle.csv.specs.Reading.{records, strip_bom}
use Rattle.rj_columns.specs.Names.{empty_table}
use Rattle.rj_csv_io.specs.Tables.{records_read}
use Rattle.rj_csv_io.specs.Grammar.{records_of}
use Rattle.rj_csv_io.specs.StrictReading.{config_of}
use Rattle.rj_settings.specs.Columns.{name_fault, types_under}
use Rattle.std.proofs.lemmas.Result.{IfOk-weaker, IfErr-weaker}
use Rattle.rj_columns.specs.Tables.{TableValue}
use Rattle.rj_condition.specs.declared.refused.ParseRefused.{ParseRefused}
use Rattle.rj_condition.specs.declared.refused.ParseRefused.TheVariants as parse
use Rattle.rj_condition.specs.declared.refused.BindRefused.{BindRefused}
use Rattle.rj_condition.specs.declared.refused.BindRefused.TheVariants as bind
use Rattle.rj_csv_io.specs.declared.refused.ReadRefused.{ReadRefused}
use Rattle.rj_csv_io.specs.declared.refused.ReadRefused.TheVariants as read
use Rattle.rj_command.specs.Operands.{AreOperands, IsClauseFault, IsFirstFault, IsNameFault, in_clause, in_headers, in_left, in_right}
use Rattle.rj_command.specs.Operands as operands
use Rattle.rj_command.specs.Refused.{bind_fault, naming_fault, parse_fault}
use Rattle.rj_engine.specs.declared.naming.NamingRefused.{NamingRefused}
use Rattle.rj_engine.specs.declared.naming.NamingRefused.TheVariants as naming
use Rattle.rj_command.specs.SuchRows.{unkept_side, unless_unkept, with_rows}
use Rattle.rj_command.specs.Undeclared.{bound_for, bound_or, column_fault, undeclared_column, unbound_fault}
use Rattle.rj_condition.specs.Bound.{bound}
use Rattle.rj_condition.specs.Joins.{kind_of_join}
use Rattle.rj_condition.specs.declared.bound.BoundJoin.{BoundJoin}
use Rattle.rj_condition.specs.declared.undeclared.TableColumn.{TableColumn}
use Rattle.rj_condition.specs.declared.undeclared.TableColumn.TheVariants as column
use Rattle.rj_command.specs.Sides.{IsStrictFault, IsTableFaultBy, delimiter_of, fault_below, has_lawful_nulls, header_records, is_no_header, nulls_of, of_records, of_text, records_in_lines, side_records, stands, strict_fault, told, told_first, types_of}
use Rattle.rj_line.specs.Faults.{read_fault}
use Rattle.rj_command.specs.Runs.{CanBeWritten, HasJoined, IsJoined, IsReady, IsRunFault, IsUnwritten, WritesJoined, WritesTables, chosen_text}
use Rattle.rj_line.specs.declared.fault.Fault.{Fault}
use Rattle.rj_line.specs.declared.fault.Fault.TheVariants as fault
use Rattle.rj_line.specs.declared.fault.Side.{Side}
use Rattle.rj_line.specs.declared.fault.Side.TheVariants as side
use Rattle.rj_command.specs.declared.join.operands.Operands.{Operands}
use Rattle.rj_line.specs.declared.request.Request.{Request}
use Rattle.rj_line.specs.declared.request.Strictness.{Strictness}
use Rattle.rj_line.specs.declared.request.Strictness.TheVariants as strictness
use Rattle.rj_command.specs.declared.join.stats.Stats.{Stats}
use Rattle.rj_csv_io.specs.declared.strict.fault.StrictFault.{StrictFault}
use Rattle.rj_csv_io.specs.declared.strict.fault.StrictFault.TheVariants as strict

-- what can be written of the operands' joined table is the text of that of the bytes
pub joined_of_ready : (left right : List ℕ) (q : Request) (o : Operands) (stats : Stats) → AreOperands left right q o.left o.right o.join
    → (j : IsReady q o stats) → IsJoined left right q stats (chosen_text q j.names o.join o.left o.right)
joined_of_ready left right q o stats operands j = record {
  l = o.left;
  r = o.right;
  join = o.join;
  operands = operands;
  counts = j.counted;
  expected = j.expected;
  told_apart = j.told_apart;
  names = j.names;
  named = j.named;
  shown = refl;
}

-- what was written of the operands was written of the bytes
pub joined_of_operands : (left right : List ℕ) (q : Request) (o : Operands) (before after : Option (List ℕ)) (result : Result Stats Fault)
    → AreOperands left right q o.left o.right o.join
    → IfOk result (WritesTables q o before after) → IfOk result (WritesJoined left right q before after)
joined_of_operands left right q o before after result operands =
    IfOk-weaker result _ _ (λ stats h. (chosen_text q h.0.names o.join o.left o.right, joined_of_ready left right q o stats operands h.0, h.1))

-- what can be written of the operands can be written of the bytes
pub has_joined : (left right : List ℕ) (q : Request) (o : Operands) → AreOperands left right q o.left o.right o.join
    → CanBeWritten q o → HasJoined left right q
has_joined left right q o operands h = (h.0, chosen_text q h.1.names o.join o.left o.right, joined_of_ready left right q o h.0 operands h.1)

-- the first fault of the operands is one of a run
pub of_operands : (left right : List ℕ) (q : Request) (result : Result Stats Fault) (f : Fault) → result ≡ Err f → (f ≢ fault.Memory → IsFirstFault true left right q f) → IfErr result (IsRunFault left right q)
of_operands left right q result f is told = subst (λ (r : Result Stats Fault). IfErr r (IsRunFault left right q)) (sym is) (λ m d. inl (told m))

-- what holds of a fault holds of the result that it is
pub of_fault : {T : Type 0} (P : Fault → Type 0) (result : Result T Fault) (f : Fault) → result ≡ Err f → P f → IfErr result P
of_fault {T} P result f is holds = subst (λ (r : Result T Fault). IfErr r P) (sym is) holds

-- columns without names are one
pub of_names : (left right : List ℕ) (q : Request) (o : Operands) (f : Fault) → AreOperands left right q o.left o.right o.join
    → (f ≡ fault.Memory) ⊎ ((true ≡ true) × IsNameFault q o.join o.left o.right f) → IsRunFault left right q f
of_names left right q o f operands told memory device = elim told [
  | inl is ↦ absurd (memory is)
  | inr nameless ↦ inr (record { l = o.left; r = o.right; join = o.join; operands = operands; told = inl nameless.1 })
]

-- what holds of an outcome holds of the result that it is
pub of_outcome : (P : Stats → Type 0) (result outcome : Result Stats Fault) → result ≡ outcome → IfOk outcome P → IfOk result P
of_outcome P result outcome is = subst (λ (r : Result Stats Fault). IfOk r P) (sym is)

pub of_outcome_fault : (P : Fault → Type 0) (result outcome : Result Stats Fault) → result ≡ outcome → IfErr outcome P → IfErr result P
of_outcome_fault P result outcome is = subst (λ (r : Result Stats Fault). IfErr r P) (sym is)

-- a fault of writing is one of a run
pub no_other : (left right : List ℕ) (q : Request) (o : Operands) (result : Result Stats Fault) → AreOperands left right q o.left o.right o.join
    → IfErr result (IsUnwritten q o) → IfErr result (IsRunFault left right q)
no_other left right q o result operands = IfErr-weaker result _ _ (λ f h m d. elim h [
  | inl e ↦ absurd (m e)
  | inr other ↦ elim other [
    | inl e ↦ absurd (d e)
    | inr told ↦ inr (record { l = o.left; r = o.right; join = o.join; operands = operands; told = told })
  ]
])

abbrev pub is_device : Fault → Bool
is_device fault.WriteDevice = true
is_device _ = false

read_apart : (s : Side) (e : ReadRefused) → is_device (read_fault s e) ≡ false
read_apart s read.NoHeader = refl
read_apart s (read.BadName column) = refl
read_apart s (read.RepeatedName column) = refl
read_apart s read.TypeCount = refl
read_apart s (read.RaggedRow row) = refl
read_apart s (read.BadInteger row column) = refl
read_apart s (read.BadText row column) = refl
read_apart s read.TooManyRows = refl
read_apart s read.TooManyColumns = refl
read_apart s read.BadNull = refl
read_apart s read.ReadDevice = refl
read_apart s read.Memory = refl

strict_apart : (s : Side) (e : StrictFault) → is_device (strict_fault s e) ≡ false
strict_apart s (strict.OpenQuote row column) = refl
strict_apart s (strict.AfterQuote row column) = refl
strict_apart s (strict.BareQuote row column) = refl
strict_apart s (strict.BareReturn row column) = refl
strict_apart s (strict.EmptyLine row) = refl
strict_apart s (strict.CutShort row) = refl

told_apart : (s : Side) (r : Result TableValue ReadRefused) (f : Fault) → told s r ≡ Err f → is_device f ≡ false
told_apart s (Ok t) f e = let g : ◌≡◌ {A = Result TableValue Fault} (Ok t) (Err f) = e in cc
told_apart s (Err x) f e =
    let g : ◌≡◌ {A = Result TableValue Fault} (Err (read_fault s x)) (Err f) = e in
    let same : f ≡ read_fault s x = cc in
    ap is_device same ∙ read_apart s x

named_apart : (s : Side) (stands : Bool) (o : Option (List ℕ)) (r : Result TableValue ReadRefused) (f : Fault)
    → told_first (if stands then option_map (fault.TypeName s) o else None) (told s r) ≡ Err f → is_device f ≡ false
named_apart s true None r f e = told_apart s r f e
named_apart s true (Some name) r f e = let g : ◌≡◌ {A = Result TableValue Fault} (Err (fault.TypeName s name)) (Err f) = e in let same : f ≡ fault.TypeName s name = cc in ap is_device same
named_apart s false o r f e = told_apart s r f e

header_apart : (q : Request) (s : Side) (rs : List (List (List ℕ))) (f : Fault) → header_records q s rs ≡ Err f → is_device f ≡ false
header_apart q s [] f e = told_apart s (records_read [] [] (nulls_of q s)) f e
header_apart q s (header ∷ rest) f e =
    named_apart s (stands (empty_table header (types_under (types_of q s) header))) (name_fault (types_of q s) header)
    (records_read (header ∷ rest) (types_under (types_of q s) header) (nulls_of q s)) f e

records_apart : (q : Request) (s : Side) (rs : List (List (List ℕ))) (f : Fault) → side_records q s rs ≡ Err f → is_device f ≡ false
records_apart q s rs f e = go (has_lawful_nulls q) e
  where
    go : (b : Bool) → (if b then header_records q s rs else Err fault.BadNull) ≡ Err f → is_device f ≡ false
    go true e = header_apart q s rs f e
    go false e = let g : ◌≡◌ {A = Result TableValue Fault} (Err fault.BadNull) (Err f) = e in let same : f ≡ fault.BadNull = cc in ap is_device same

below_apart : (s : Side) (f : StrictFault) (r : Result TableValue Fault) → ((g : Fault) → r ≡ Err g → is_device g ≡ false) → is_device (fault_below s f r) ≡ false
below_apart s f (Ok t) apart = strict_apart s f
below_apart s f (Err g) apart = elim (cases_Bool (is_no_header g)) [
  | inl h ↦ ap (λ (b : Bool). is_device (cond b (strict_fault s f) g)) h ∙ strict_apart s f
  | inr h ↦ ap (λ (b : Bool). is_device (cond b (strict_fault s f) g)) h ∙ apart g refl
]

text_apart : (full : Bool) (q : Request) (s : Side) (bytes : List ℕ) (f : Fault) → IsStrictFault full q s bytes f → is_device f ≡ false
text_apart full q s bytes _ (of_records file f derives told) = records_apart q s (records_of file) f told
text_apart full q s bytes _ (of_text f lines has above) = below_apart s f _ (records_apart q s (records_in_lines lines))

table_apart : (x : Strictness) (q : Request) (s : Side) (bytes : List ℕ) (f : Fault) → IsTableFaultBy x q s bytes f → is_device f ≡ false
table_apart strictness.Off q s bytes f told = records_apart q s (records (config_of (delimiter_of q s)) (strip_bom bytes)) f told
table_apart strictness.On q s bytes f told = text_apart false q s bytes f told
table_apart strictness.Full q s bytes f told = text_apart true q s bytes f told

parse_apart : (e : ParseRefused) → is_device (parse_fault e) ≡ false
parse_apart (parse.Syntax byte) = refl
parse_apart parse.TooDeep = refl
parse_apart parse.TooLong = refl
parse_apart parse.Memory = refl

bind_apart : (e : BindRefused) → is_device (bind_fault e) ≡ false
bind_apart bind.UnknownColumn = refl
bind_apart bind.AmbiguousColumn = refl
bind_apart bind.TypeMismatch = refl
bind_apart bind.RepeatedUsing = refl
bind_apart bind.Memory = refl

column_apart : (l r : TableValue) (x : TableColumn) → is_device (column_fault l r x) ≡ false
column_apart l r (column.Left i) = refl
column_apart l r (column.Right j) = refl

unbound_apart : (l r : TableValue) (e : BindRefused) (o : Option TableColumn) → is_device (unbound_fault e (option_map (column_fault l r) o)) ≡ false
unbound_apart l r bind.TypeMismatch None = refl
unbound_apart l r bind.TypeMismatch (Some x) = column_apart l r x
unbound_apart l r e o = bind_apart e

bound_apart : (l r : TableValue) (a : Result BoundJoin BindRefused) (o : Option TableColumn) (f : Fault) → bound_or a (option_map (column_fault l r) o) ≡ Err f → is_device f ≡ false
bound_apart l r (Ok join) None f e = cc
bound_apart l r (Ok join) (Some x) f e = let same : f ≡ column_fault l r x = cc in ap is_device same ∙ column_apart l r x
bound_apart l r (Err g) o f e =
    let same : f ≡ unbound_fault g (option_map (column_fault l r) o) = cc in ap is_device same ∙ unbound_apart l r g o

unkept_apart : (join : BoundJoin) (o : Option Side) (f : Fault) → unless_unkept join o ≡ Err f → is_device f ≡ false
unkept_apart join None f e = let g : ◌≡◌ {A = Result BoundJoin Fault} (Ok join) (Err f) = e in cc
unkept_apart join (Some s) f e =
    let g : ◌≡◌ {A = Result BoundJoin Fault} (Err (fault.NoSuchRows s)) (Err f) = e in let same : f ≡ fault.NoSuchRows s = cc in ap is_device same

rows_apart : (q : Request) (a : Result BoundJoin Fault) (f : Fault) → (a ≡ Err f → is_device f ≡ false) → with_rows q a ≡ Err f → is_device f ≡ false
rows_apart q (Ok join) f apart e = unkept_apart join (if q.short then unkept_side q.choice.rows (kind_of_join join) else None) f e
rows_apart q (Err g) f apart e = apart e

names_apart : (o : Option (List ℕ)) (f : Fault) → option_map fault.SharedTypeName o ≡ Some f → is_device f ≡ false
names_apart None f e = let g : ◌≡◌ {A = Option Fault} None (Some f) = e in cc
names_apart (Some name) f e = let g : ◌≡◌ {A = Option Fault} (Some (fault.SharedTypeName name)) (Some f) = e in let same : f ≡ fault.SharedTypeName name = cc in ap is_device same

clause_apart : (q : Request) (l r : TableValue) (f : Fault) → IsClauseFault q l r f → is_device f ≡ false
clause_apart q l r _ (operands.of_types f told) = names_apart (name_fault q.shared_types.items (l.names ++ r.names)) f told
clause_apart q l r _ (operands.of_text e other told named) = parse_apart e
clause_apart q l r _ (operands.of_clause c f has told named) =
    rows_apart q (bound_for q l r c) f (bound_apart l r (bound c l r) (undeclared_column q l r c) f) told

pub naming_apart : (e : NamingRefused) → is_device (naming_fault e) ≡ false
naming_apart (naming.NoFreeName column) = refl
naming_apart (naming.SelectedName entry) = refl
naming_apart naming.Memory = refl

first_apart : (named : Bool) (left right : List ℕ) (q : Request) (f : Fault) → IsFirstFault named left right q f → is_device f ≡ false
first_apart named left right q _ (in_headers f told) = elim told.told [
  | inl refused ↦ clause_apart q told.l told.r f refused
  | inr nameless ↦ ap is_device nameless.3.2 ∙ naming_apart nameless.3.0
]
first_apart named left right q _ (in_left f none told) = table_apart q.strict q side.Left left f told
first_apart named left right q _ (in_right l f none is told) = table_apart q.strict q side.Right right f told
first_apart named left right q _ (in_clause l r f none is also told) = clause_apart q l r f told

-- the first fault of the operands is none of the device that is written to
pub not_of_device : (named : Bool) (left right : List ℕ) (q : Request) (f : Fault) → (f ≢ fault.Memory → IsFirstFault named left right q f) → f ≢ fault.WriteDevice
not_of_device named left right q f told is =
    let apart : is_device f ≡ false = first_apart named left right q f (told (λ memory. true≢false (sym (ap is_device is) ∙ ap is_device memory))) in
    true≢false (sym (ap is_device is) ∙ apart)
