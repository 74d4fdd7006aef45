use Rattle.std.proofs.Common.{rules, ◌≡◌, ◌≤◌, ℕ, List, arith, inl, inr, length, map, refl, subst, take, true, false}
use Rattle.std.specs.Io.KnownBytes.{IsAtEnd}
use Rattle.std.proofs.lemmas.Bool.{cases_Bool}
use Rattle.std.proofs.lemmas.List.{length-map}
use Rattle.rj_shards.specs.Divisions.{after_rows, dividing}
use Rattle.rj_shards.specs.Readings.{IsHeaderRefusal}
use Rattle.rj_shards.specs.Texts.{AreRecordsOf, HaveFirstRows, IsDivisionFault, IsPieceFault, reading_of_piece}
use Rattle.rj_shards.specs.Internal.Underway.{ReadsOn}
use Rattle.rj_shards.specs.declared.division.reading.Reading.{Reading}
use Rattle.rj_shards.specs.declared.division.refused.DivideRefused.TheVariants as refused
use Rattle.rj_shards.proofs.DivisionFacts.{piece-reads}
use Rattle.rj_shards.proofs.ReadingFacts.{input-fault}
use Rattle.rj_shards.proofs.UnderwayFacts.{fault-in, finish, first-kept, first-more, go-on}
use Rattle.rj_csv_io.specs.Grammar.{may_delimit}
use Rattle.rj_csv_io.proofs.StrictLawFacts.{reads_records}
use Rattle.rj_shards.proofs.division.whole.divide_next.Goals as goal

pub returns-clause-more : goal.returns-clause-more
returns-clause-more g c = λ e how begin n u.
    let d = dividing g.R.Route.part c.args.division.now in let p = c.in-Ok.piece in let bytes = c.next_piece.new.bytes.items in
    let is : p.is_last ≡ false = cc in
    let found = c.in-Ok-divide_piece.ensures.divided in
    let piece = subst (λ (r : Reading). AreRecordsOf d.delimiter (length d.types) r (take p.end c.deref.result.now) found.0) c.of_piece-reading.ensures found.1 in
    let are = subst (λ (t : List ℕ). AreRecordsOf d.delimiter (length d.types) (reading_of_piece c.args.rest.now.reading p.is_last) (take p.end t) found.0) c.deref.ensures.value piece in
    let many : length (map g.O.Output.told c.divide_piece.new.outputs) ≡ length (map g.O.Output.told c.args.outputs.now) =
    omega (arith, length-map c.divide_piece.new.outputs g.O.Output.told, length-map c.args.outputs.now g.O.Output.told, c.divide_piece.auto.outputs) in
    let within : p.end ≤ length bytes = search rules in
    let ends : p.is_last ≡ true → (p.end ≡ length bytes) × IsAtEnd (g.I.Input.tells c.next_piece.new.input) =
    λ e. let end = c.in-Ok.ensures.last e in let all : p.end ≡ length bytes = search (rules, end.0) in (all, end.1) in
    let on = subst (λ (t : List ℕ). ReadsOn d.delimiter c.args.rest.now.reading (take p.end t) c.in-Ok-after.after) c.deref.ensures.value c.in-Ok-after.ensures in
    go-on d how begin c.args.rest.now bytes (g.I.Input.tells c.args.input.now) (g.I.Input.tells c.next_piece.new.input) (map g.O.Output.told c.args.outputs.now) n p.end p.is_last u
    c.in-Ok.ensures.bytes ends c.in-Ok.ensures.records found.0 (map g.O.Output.told c.divide_piece.new.outputs) c.in-Ok-divide_piece.rows are found.2
    _ is many within (c.in-Ok.ensures.line is) (c.in-Ok.ensures.rest is) on c.drop_front.ensures refl

pub returns-clause-last : goal.returns-clause-last
returns-clause-last g c = λ e how begin n u.
    let d = dividing g.R.Route.part c.args.division.now in let p = c.in-Ok.piece in let bytes = c.next_piece.new.bytes.items in
    let is : p.is_last ≡ true = cc in
    let found = c.in-Ok-divide_piece.ensures.divided in
    let piece = subst (λ (r : Reading). AreRecordsOf d.delimiter (length d.types) r (take p.end c.deref.result.now) found.0) c.of_piece-reading.ensures found.1 in
    let are = subst (λ (t : List ℕ). AreRecordsOf d.delimiter (length d.types) (reading_of_piece c.args.rest.now.reading p.is_last) (take p.end t) found.0) c.deref.ensures.value piece in
    let ends : p.is_last ≡ true → (p.end ≡ length bytes) × IsAtEnd (g.I.Input.tells c.next_piece.new.input) =
    λ e. let end = c.in-Ok.ensures.last e in let all : p.end ≡ length bytes = search (rules, end.0) in (all, end.1) in
    finish d how begin c.args.rest.now bytes (g.I.Input.tells c.args.input.now) (g.I.Input.tells c.next_piece.new.input) (map g.O.Output.told c.args.outputs.now) n p.end p.is_last u
    c.in-Ok.ensures.bytes ends c.in-Ok.ensures.records found.0 (map g.O.Output.told c.divide_piece.new.outputs) c.in-Ok-divide_piece.rows are found.2
    _ is refl

pub returns-in-Err-clause-fault : goal.returns-in-Err-clause-fault
returns-in-Err-clause-fault g c = λ t how begin n b u.
    input-fault (IsDivisionFault (dividing g.R.Route.part c.args.division.now) c.args.block how begin.text (length c.args.outputs.now)) tt tt c.in-Err.refused c.in-Err.ensures.fault

pub returns-in-Err-clause-refusal : goal.returns-in-Err-clause-refusal
returns-in-Err-clause-refusal g c = λ b begins none. input-fault (IsHeaderRefusal b) tt tt c.in-Err.refused c.in-Err.ensures.fault

pub returns-in-Err-divide_piece-clause-reads : goal.returns-in-Err-divide_piece-clause-reads
returns-in-Err-divide_piece-clause-reads g c = piece-reads ℕ c.in-Err-divide_piece.refused _ _ c.in-Err-divide_piece.ensures.read c.in-Ok.ensures.count

pub returns-in-Err-divide_piece-clause-fault : goal.returns-in-Err-divide_piece-clause-fault
returns-in-Err-divide_piece-clause-fault g c = λ t how begin n b u.
    let d = dividing g.R.Route.part c.args.division.now in let p = c.in-Ok.piece in let bytes = c.next_piece.new.bytes.items in
    let within : p.end ≤ length bytes = search rules in
    let may = subst (λ (x : ℕ). may_delimit x ≡ true) c.byte-byte.ensures.value c.byte-byte.ensures.lawful in
    let outputs = length c.args.outputs.now in
    let piece = subst (λ (r : Reading). IsPieceFault d r (take p.end c.deref.result.now) c.args.rest.now.rows outputs c.in-Err-divide_piece.refused) c.of_piece-reading.ensures (c.in-Err-divide_piece.ensures.fault t b) in
    let ends : p.is_last ≡ true → (p.end ≡ length bytes) × IsAtEnd (g.I.Input.tells c.next_piece.new.input) =
    λ e. let end = c.in-Ok.ensures.last e in let all : p.end ≡ length bytes = search (rules, end.0) in (all, end.1) in
    fault-in d how begin c.args.rest.now bytes (g.I.Input.tells c.args.input.now) (g.I.Input.tells c.next_piece.new.input) (map g.O.Output.told c.args.outputs.now) n p.end p.is_last u
    c.in-Ok.ensures.bytes ends c.in-Ok.ensures.records may (λ header whole text file derived. reads_records d.delimiter header whole text file may derived) c.args.block outputs c.in-Err-divide_piece.refused c.in-Ok.ensures.read
    (elim (cases_Bool p.is_last) [ inl is ↦ inl is | inr is ↦ inr (is, within, c.in-Ok.ensures.line is) ])
    (subst (λ (t : List ℕ). IsPieceFault d (reading_of_piece c.args.rest.now.reading p.is_last) (take p.end t) c.args.rest.now.rows outputs c.in-Err-divide_piece.refused) c.deref.ensures.value piece)

pub returns-in-Err-clause-partly : goal.returns-in-Err-clause-partly
returns-in-Err-clause-partly g c = λ how begin n u.
    first-kept (dividing g.R.Route.part c.args.division.now) how begin c.args.rest.now (g.I.Input.tells c.args.input.now) (map g.O.Output.told c.args.outputs.now) n c.in-Err.refused u

pub returns-in_default-clause-partly : goal.returns-in_default-clause-partly
returns-in_default-clause-partly g c = λ how begin n u.
    first-kept (dividing g.R.Route.part c.args.division.now) how begin c.args.rest.now (g.I.Input.tells c.args.input.now) (map g.O.Output.told c.args.outputs.now) n refused.Memory u

pub returns-in-Err-divide_piece-clause-partly : goal.returns-in-Err-divide_piece-clause-partly
returns-in-Err-divide_piece-clause-partly g c = λ how begin n u.
    let d = dividing g.R.Route.part c.args.division.now in let p = c.in-Ok.piece in let bytes = c.next_piece.new.bytes.items in
    let before = map g.O.Output.told c.args.outputs.now in let after = map g.O.Output.told c.divide_piece.new.outputs in let e = c.in-Err-divide_piece.refused in
    let within : p.end ≤ length bytes = search rules in
    let piece = subst (λ (r : Reading). HaveFirstRows (after_rows c.args.rest.now.rows d) r (take p.end c.deref.result.now) before after e) c.of_piece-reading.ensures c.in-Err-divide_piece.ensures.partly in
    let ends : p.is_last ≡ true → (p.end ≡ length bytes) × IsAtEnd (g.I.Input.tells c.next_piece.new.input) =
    λ e. let end = c.in-Ok.ensures.last e in let all : p.end ≡ length bytes = search (rules, end.0) in (all, end.1) in
    first-more d how begin c.args.rest.now bytes (g.I.Input.tells c.args.input.now) (g.I.Input.tells c.next_piece.new.input) before n p.end p.is_last u
    c.in-Ok.ensures.bytes ends c.in-Ok.ensures.records
    (elim (cases_Bool p.is_last) [ inl is ↦ inl is | inr is ↦ inr (is, within, c.in-Ok.ensures.line is) ]) after e
    (subst (λ (t : List ℕ). HaveFirstRows (after_rows c.args.rest.now.rows d) (reading_of_piece c.args.rest.now.reading p.is_last) (take p.end t) before after e) c.deref.ensures.value piece)
