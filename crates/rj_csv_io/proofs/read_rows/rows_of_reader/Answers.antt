use Rattle.std.proofs.Common.{◌≡◌, ◌+◌, ◌∙◌, [], List, Ok, ap, sym, arith}
use Rattle.rj_columns.specs.Contents.{Content}
use Rattle.rj_columns.specs.Tables.{BuilderValue, TableValue}
use Rattle.rj_csv_io.proofs.RowsFacts.{rows-end, read-on, read-same, read-size, row-room}
use Rattle.rj_csv_io.specs.Typed.{null_texts}
use Rattle.rj_csv_io.proofs.read_rows.rows_of_reader.Goals as goal

pub returns-then-not-branch-clause-table : goal.returns-then-not-branch-clause-table
returns-then-not-branch-clause-table c =
    let all = c.in_ok-next_row.ensures.all (ap Ok c.if-not-branch.true) in
    let same : c.finish.result ≡ c.rows.builder.table = c.finish.ensures ∙ ap (λ (v : BuilderValue). v.table) all.same in
    let rows = ap (λ (t : TableValue). t.rows) same in (
      c.rows.invariant.read ∙ rw all.none (rows-end (null_texts c.args.nulls.now) c.args.types.now c.rows.builder.table.rows) ∙ ap Ok (sym rows),
      same ∙ ap (λ (v : BuilderValue). v.table) c.rows.invariant.same ∙ ap (λ (r : List (List Content)). record c.args.builder.table { rows = r }) (sym rows),
    )

pub rows-preserved : goal.rows-preserved
rows-preserved c =
    let read = c.in_ok-next_row.ensures.row (ap Ok c.if-not-branch.false) in
    let size = read-size (null_texts c.args.nulls.now) c.args.types.now c.rows.reader c.next_row.new.reader c.rows.builder c.next_row.new.builder read in
    let room = row-room (null_texts c.args.nulls.now) c.args.types.now _ read.fields read.cells read.row in
    record {
      between = read.between;
      same = read-same (null_texts c.args.nulls.now) c.args.types.now c.rows.reader c.next_row.new.reader c.rows.builder c.next_row.new.builder read ∙ ap (λ (v : BuilderValue). record { table = record v.table { rows = c.next_row.new.builder.table.rows }; row = [] }) c.rows.invariant.same;
      read = c.rows.invariant.read ∙ read-on (null_texts c.args.nulls.now) c.args.types.now c.rows.reader c.next_row.new.reader c.rows.builder c.next_row.new.builder read;
      count = size ∙ ap (λ n. n + 1) c.rows.invariant.count;
      few = omega (arith, size, room);
    }
