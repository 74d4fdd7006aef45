-- What is made of two tables before what is chosen of their joined table is written.
use Rattle.std.proofs.Common.{◌≡◌, ◌∙◌, [], Bool, Err, None, Option, Some, ap, false, inl, inr, length, map, refl, subst, sym, true, true≢false, List, ℕ}
use Rattle.std.specs.Prelude.{◌≢◌, ◌⊎◌, ◌-◌, IfOk, Ok, Result, is_none, string_bytes}
use Rattle.std.proofs.lemmas.Bool.{and_parts}
use Rattle.std.specs.declared.alloc.AllocError.{AllocError}
use Rattle.rj_columns.specs.Contents.{Content}
use Rattle.rj_columns.specs.Tables.{TableValue}
use Rattle.rj_condition.specs.Splits.{keys_of}
use Rattle.rj_condition.specs.declared.bound.BoundJoin.{BoundJoin}
use Rattle.rj_engine.specs.Chosen.{chosen_view}
use Rattle.rj_csv_io.proofs.ApartFacts.{told_apart}
use Rattle.rj_csv_io.specs.Ambiguous.{AreClear}
use Rattle.rj_csv_io.specs.Tables.{is_null_text}
use Rattle.rj_engine.specs.Expected.{HasAtMost}
use Rattle.rj_engine.specs.Join.{JoinedValue, Outcome}
use Rattle.rj_engine.specs.Naming.{chosen_names}
use Rattle.rj_engine.specs.Partitioned.{sizes_of}
use Rattle.rj_engine.specs.Pools.{pieces_of_sizes}
use Rattle.rj_engine.specs.Results.{joined_of}
use Rattle.rj_engine.specs.declared.naming.NamingRefused.{NamingRefused}
use Rattle.rj_engine.specs.declared.naming.NamingRefused.TheVariants as naming
use Rattle.rj_csv_io.specs.declared.write.WriteRefused.{WriteRefused}
use Rattle.rj_csv_io.specs.declared.write.WriteRefused.TheVariants as write
use Rattle.rj_line.specs.Faults.{IsOfWriting, write_fault}
use Rattle.rj_line.specs.declared.fault.Fault.{Fault}
use Rattle.rj_line.specs.declared.fault.Fault.TheVariants as fault
use Rattle.rj_line.specs.declared.request.Hash.{Hash}
use Rattle.rj_line.specs.declared.request.Request.{Request}
use Rattle.rj_line.specs.declared.request.Strictness.{Strictness}
use Rattle.rj_line.specs.declared.request.Strictness.TheVariants as strictness
use Rattle.rj_command.specs.Expected.{IsExpected, IsUnexpected, expects_nothing, expects_rows_alone}
use Rattle.rj_command.specs.Operands.{HasNames, IsNameFault}
use Rattle.rj_command.specs.Refused.{naming_fault}
use Rattle.rj_command.specs.Internal.Prepared.{IsOutcome, IsPrepared}
use Rattle.rj_command.specs.Runs.{AreNames, AreReadApart, IsNullFault, IsReady, IsUnprepared, IsUnwritten, hash_value, is_read_as_null, takes_any, tells_nulls, tells_nulls_by}
use Rattle.rj_command.specs.declared.join.operands.Operands.{Operands}
use Rattle.rj_command.specs.declared.join.running.Prepared.{Prepared}
use Rattle.rj_command.proofs.ApartFacts.{view-apart}
use Rattle.rj_command.proofs.CountFacts.{few_expected}
use Rattle.rj_command.proofs.RunFacts.{is_device, naming_apart}

-- what a join by a hash gives, where that is the hash that is asked for
pub outcome_of : (q : Request) (o : Operands) (h : Hash) (result : Result Outcome AllocError) → q.hash ≡ h
    → IfOk result (λ j. j.members ≡ joined_of o.join o.left o.right)
    → IfOk result (λ j. j.left_sizes ≡ sizes_of (hash_value h) q.settings.bits1 o.left (map (λ k. k.0) (keys_of o.join)))
    → IfOk result (λ j. j.right_sizes ≡ sizes_of (hash_value h) q.settings.bits1 o.right (map (λ k. k.1) (keys_of o.join)))
    → IfOk result (λ j. j.pieces ≡ pieces_of_sizes q.settings.piece j.left_sizes j.right_sizes)
    → IfOk result (IsOutcome q o)
outcome_of q o h (Ok j) is members left right pieces = record {
  members = members;
  left_sizes = subst (λ (x : Hash). j.left_sizes ≡ sizes_of (hash_value x) q.settings.bits1 o.left (map (λ k. k.0) (keys_of o.join))) (sym is) left;
  right_sizes = subst (λ (x : Hash). j.right_sizes ≡ sizes_of (hash_value x) q.settings.bits1 o.right (map (λ k. k.1) (keys_of o.join))) (sym is) right;
  pieces = pieces;
}
outcome_of q o h (Err e) is members left right pieces = tt

-- what was delivered can be forgotten
pub forgotten : (q : Request) (o : Operands) (j : Outcome) → IsOutcome q o j → IsOutcome q o (record j { ledgers = [] })
forgotten q o j is = record { members = is.members; left_sizes = is.left_sizes; right_sizes = is.right_sizes; pieces = is.pieces }

-- what is prepared can be written
abbrev pub ready_of : (q : Request) (o : Operands) (p : Prepared) → IsPrepared q o p → IsReady q o p.stats
ready_of q o p made = record {
  counted = made.counted;
  expected = made.expected;
  told_apart = made.chosen.told_apart;
  names = map string_bytes p.chosen.names.items;
  named = made.named;
}

-- why chosen columns have no names
pub unnamed : (q : Request) (join : BoundJoin) (l r : TableValue) (e : NamingRefused) (f : Fault) → (e ≢ naming.Memory → chosen_names q.choice join l r ≡ Err e)
    → f ≡ naming_fault e → (f ≡ fault.Memory) ⊎ IsNameFault q join l r f
unnamed q join l r naming.Memory f told is = inl is
unnamed q join l r (naming.NoFreeName column) f told is = inr (naming.NoFreeName column, told (λ memory. cc), is)
unnamed q join l r (naming.SelectedName entry) f told is = inr (naming.SelectedName entry, told (λ memory. cc), is)

-- why nothing is prepared: of the names
pub of_names : (q : Request) (o : Operands) (f : Fault) → (f ≡ fault.Memory) ⊎ IsNameFault q o.join o.left o.right f → IsUnprepared q o f
of_names q o f told = elim told [
  | inl memory ↦ inl memory
  | inr nameless ↦ inr (inl nameless)
]

-- of a joined table that isn't as expected
pub of_unexpected : (q : Request) (o : Operands) (f : Fault) (names : List (List ℕ)) → AreNames q o.join o.left o.right names
    → (f ≡ fault.Memory) ⊎ IsUnexpected q o.join o.left o.right f → IsUnprepared q o f
of_unexpected q o f names named told = elim told [
  | inl memory ↦ inl memory
  | inr unexpected ↦ inr (inr ((names, named), inl unexpected))
]

-- of a cell that can't be told from null
pub of_null : (q : Request) (o : Operands) (f : Fault) (names : List (List ℕ)) → AreNames q o.join o.left o.right names → IsExpected q o.join o.left o.right
    → (f ≡ fault.Memory) ⊎ IsNullFault q.strict q.out_null.now (chosen_view q.choice o.join o.left o.right).cells f → IsUnprepared q o f
of_null q o f names named expected told = elim told [
  | inl memory ↦ inl memory
  | inr null ↦ inr (inr ((names, named), inr (expected, null)))
]

null_apart : (x : Strictness) (null : List ℕ) (rows : List (List Content)) (f : Fault) → IsNullFault x null rows f → is_device f ≡ false
null_apart strictness.Off null rows f told = absurd told
null_apart strictness.On null rows f told = ap is_device told.2
null_apart strictness.Full null rows f told = ap is_device told.2

unprepared_apart : (q : Request) (o : Operands) (f : Fault) → IsUnprepared q o f → is_device f ≡ false
unprepared_apart q o f told = elim told [
  | inl memory ↦ ap is_device memory
  | inr other ↦ elim other [
    | inl nameless ↦ ap is_device nameless.2 ∙ naming_apart nameless.0
    | inr seen ↦ elim seen.1 [
      | inl unexpected ↦ ap is_device unexpected.0
      | inr null ↦ null_apart q.strict q.out_null.now (chosen_view q.choice o.join o.left o.right).cells f null.1
    ]
  ]
]

-- nothing is written then
pub unwritten_of : (q : Request) (o : Operands) (f : Fault) → IsUnprepared q o f → IsUnwritten q o f
unwritten_of q o f told = elim told [
  | inl memory ↦ inl memory
  | inr other ↦ inr (inr other)
]

-- and of the writing
pub unwritten_by : (q : Request) (o : Operands) (w : WriteRefused) → IsUnwritten q o (write_fault w)
unwritten_by q o write.Memory = inl refl
unwritten_by q o write.WriteDevice = inr (inl refl)

-- it is never that the writer failed
pub never_failed : {T A : Type 0} (q : Request) (o : Operands) (f : Fault) (result : Result T Fault) → result ≡ Err f → IsUnprepared q o f
    → result ≡ Err fault.WriteDevice → A
never_failed {T} q o f result is told failed =
    let same : ◌≡◌ {A = Result T Fault} (Err f) (Err fault.WriteDevice) = sym is ∙ failed in
    let device : f ≡ fault.WriteDevice = cc in
    absurd (true≢false (sym (ap is_device device) ∙ unprepared_apart q o f told))

at-most : (o : Option ℕ) (j : JoinedValue) → is_none o ≡ true → HasAtMost o j
at-most None j none = tt
at-most (Some most) j none = absurd (true≢false (sym none))

clear-told : (x : Strictness) (null : List ℕ) (rows : List (List Content)) (read : Bool) (f : Fault) → tells_nulls_by x read ≡ true → (read ≡ true → AreClear null rows)
    → IsNullFault x null rows f → ⊥
clear-told strictness.Off null rows read f tells clear told = told
clear-told strictness.On null rows read f tells clear told = true≢false (sym told.3.first.here ∙ clear tells (told.0 - 1) (told.1 - 1))
clear-told strictness.Full null rows read f tells clear told = true≢false (sym told.3.first.here ∙ clear tells (told.0 - 1) (told.1 - 1))

-- where any joined table is taken whose chosen columns have names, nothing else is told
pub taken : (q : Request) (o : Operands) (f : Fault) → AreReadApart q o → is_null_text q.out_null.now ≡ true → takes_any q ≡ true → HasNames q o.join o.left o.right
    → IsUnwritten q o f → IsOfWriting f
taken q o f apart lawful any named told =
    let null = q.out_null.now in
    let asks = and_parts (expects_nothing q.expectation) (tells_nulls q) any in
    let expects = and_parts (expects_rows_alone q.expectation) (is_none q.expectation.most_rows) asks.0 in
    let rows = (chosen_view q.choice o.join o.left o.right).cells in
    elim told [
      | inl memory ↦ inl memory
      | inr other ↦ elim other [
        | inl device ↦ inr device
        | inr result ↦ elim result [
          | inl nameless ↦ let g : ◌≡◌ {A = Result (List (List ℕ)) NamingRefused} (Ok named.0) (Err nameless.0) = sym named.1 ∙ nameless.1 in absurd (cc)
          | inr seen ↦ elim seen.1 [
            | inl unexpected ↦ absurd (unexpected.1 (few_expected q.expectation (length o.left.rows) (joined_of o.join o.left o.right) expects.0
                (at-most q.expectation.most_rows (joined_of o.join o.left o.right) expects.1)))
            | inr unclear ↦ absurd (clear-told q.strict null rows (is_read_as_null q) f asks.1
                (λ read. let sides = and_parts _ _ read in
                told_apart null rows lawful (view-apart null o.left o.right (apart.0 sides.0) (apart.1 sides.1) q.choice o.join)) unclear.1)
          ]
        ]
      ]
    ]
