use Rattle.std.proofs.Common.{ℕ, [], arith, inl, inr, length, map}
use Rattle.rj_csv_io.specs.Pieces.{names_in, piece_records}
use Rattle.rj_shards.proofs.DivisionFacts.{reading-counts}
use Rattle.rj_shards.proofs.ReadingFacts.{piece-fault, read-rows, refusal-of}
use Rattle.rj_csv_io.specs.Typed.{null_texts}
use Rattle.rj_shards.specs.Divisions.{dividing}
use Rattle.rj_shards.proofs.division.piece.divide_records.Goals as goal

pub returns-then-before-gt-MOST_ROWS-clause-fault : goal.returns-then-before-gt-MOST_ROWS-clause-fault
returns-then-before-gt-MOST_ROWS-clause-fault g c = λ t b. inr (omega (arith, c.if-before-gt-MOST_ROWS.true))

pub returns-in-Err-clause-counts : goal.returns-in-Err-clause-counts
returns-in-Err-clause-counts g c = reading-counts ℕ c.fault_behind.result (map g.O.Output.count c.args.outputs.now) c.fault_behind.ensures.reading

pub returns-in-Err-clause-fault : goal.returns-in-Err-clause-fault
returns-in-Err-clause-fault g c =
    let d = c.args.division.now in
    piece-fault (dividing g.R.Route.part d) c.args.before (piece_records d.delimiter c.args.is_first c.args.text.now) c.in-Err.e c.fault_behind.result (names_in d.header.now) (length c.args.outputs.now)
    c.fault_behind.ensures.fault c.in-Err.ensures

pub divide_table-requires-clause-places : goal.divide_table-requires-clause-places
divide_table-requires-clause-places g c = omega (arith, c.requires.first, c.if-before-gt-MOST_ROWS.false, c.rows-rows.ensures.count, c.rows-rows.ensures.within)

pub returns-in-Ok-divide_table-clause-divided : goal.returns-in-Ok-divide_table-clause-divided
returns-in-Ok-divide_table-clause-divided g c =
    let d = c.args.division.now in
    let reading = c.in-Ok.ensures in
    record {
      rows = c.in-Ok.table.rows;
      read = read-rows (null_texts d.nulls.now) d.types.now (piece_records d.delimiter c.args.is_first c.args.text.now) c.in-Ok.table.rows reading.1;
      many = c.rows-rows.ensures.count;
      parts = rw c.written_null-null.ensures at c.in-Ok-divide_table.ensures.divided;
    }

pub returns-in-Err-clause-refusal : goal.returns-in-Err-clause-refusal
returns-in-Err-clause-refusal g c = λ b begins none.
    let d = c.args.division.now in
    refusal-of (null_texts d.nulls.now) d.types.now (names_in d.header.now) (piece_records d.delimiter c.args.is_first c.args.text.now) c.args.before c.in-Err.e c.fault_behind.result b
    c.fault_behind.ensures.fault c.in-Err.ensures begins

pub returns-in-Ok-divide_table-clause-begins : goal.returns-in-Ok-divide_table-clause-begins
returns-in-Ok-divide_table-clause-begins g c = (record c.in-Ok.table { rows = [] }, c.in-Ok.ensures.0)

pub returns-in-Ok-divide_table-clause-untouched : goal.returns-in-Ok-divide_table-clause-untouched
returns-in-Ok-divide_table-clause-untouched g c = λ b begins. let made = c.in-Ok.ensures.0 in absurd (cc)

pub returns-clause-partly : goal.returns-clause-partly
returns-clause-partly g c = λ p low ne.
    let d = c.args.division.now in
    let partly = rw c.written_null-null.ensures at c.in-Err-divide_table.ensures.partly in
    elim (partly p low ne) [
      | inl same ↦ inl same
      | inr got ↦ inr (record {
        rows = c.in-Ok.table.rows;
        read = read-rows (null_texts d.nulls.now) d.types.now (piece_records d.delimiter c.args.is_first c.args.text.now) c.in-Ok.table.rows c.in-Ok.ensures.1;
        got = got;
      })
    ]
