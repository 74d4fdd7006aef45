use Rattle.std.proofs.Common.{rules, ◌∷◌, ◌≤◌, ◌<◌, ◌+◌, ◌-◌, ◌^◌, ◌∙◌, [], sym, ap, refl, arith, length, map, drop, Err, List, ℕ, Bor}
use Rattle.std.proofs.lemmas.List.{length-map, length-append, drop-drop}
use Rattle.csv.specs.Records.{fields_of}
use Rattle.rj_columns.specs.Tables.{rows_of_all}
use Rattle.rj_csv_io.specs.Parts.{moved}
use Rattle.rj_csv_io.proofs.PartFacts.{none-read, part-more, part-over, part-stops, rows-more}
use Rattle.rj_csv_io.proofs.RowPartFacts.{head-at}
use Rattle.rj_csv_io.specs.Typed.{null_texts}
use Rattle.rj_csv_io.proofs.read_parts.tables_of_parts.Goals as goal

pub loop-i-init : goal.loop-i-init
loop-i-init c =
    let none = none-read c.args.format.now.delimiter (null_texts c.args.format.now.nulls.now) c.args.types.now (fields_of c.args.header.now) in
    record {
      rest = refl;
      end = search rules;
      read = rw c.new-tables.ensures.items none;
      count = rw c.new-tables.ensures.items refl;
      rows = rw c.new-tables.ensures.items refl;
    }

pub returns-then-more-gt-MAX_ROWS-clause-fault : goal.returns-then-more-gt-MAX_ROWS-clause-fault
returns-then-more-gt-MAX_ROWS-clause-fault c = λ _.
    let texts = map (λ (t : Bor (List ℕ)). t.now) c.args.texts.now in
    let size = length-map c.args.texts.now (λ (t : Bor (List ℕ)). t.now) in
    let h : c.loop-i._i < length texts = omega (arith, size, c.loop-i-test.true, c.loop-i.invariant.end, c.requires.count) in
    part-over c.args.format.now.delimiter (null_texts c.args.format.now.nulls.now) c.args.types.now (fields_of c.args.header.now) texts c.args.parts.items c.requires.parts c.loop-i._i h c.loop-i.tables.items c.loop-i.invariant.read c.in-Ok.table
    (head-at c.args.parts.items c.loop-i.parts.items c.loop-i._i _ c.loop-i.invariant.rest c.in-Ok.ensures.value)
    (omega (arith, c.rows.ensures.count, c.loop-i.invariant.rows, c.if-more-gt-MAX_ROWS.true))

pub returns-in-Err-clause-fault : goal.returns-in-Err-clause-fault
returns-in-Err-clause-fault c = λ ne.
    let texts = map (λ (t : Bor (List ℕ)). t.now) c.args.texts.now in
    let size = length-map c.args.texts.now (λ (t : Bor (List ℕ)). t.now) in
    let h : c.loop-i._i < length texts = omega (arith, size, c.loop-i-test.true, c.loop-i.invariant.end, c.requires.count) in
    let is = c.moved_on.ensures ∙ ap (λ n. moved n c.in-Err.e) c.loop-i.invariant.rows in
    part-stops c.args.format.now.delimiter (null_texts c.args.format.now.nulls.now) c.args.types.now (fields_of c.args.header.now) texts c.args.parts.items c.requires.parts c.loop-i._i h c.loop-i.tables.items c.loop-i.invariant.read c.in-Err.e
    (head-at c.args.parts.items c.loop-i.parts.items c.loop-i._i _ c.loop-i.invariant.rest c.in-Err.ensures.value) (λ q. ne (is ∙ q)) ∙ ap Err (sym is)

pub loop-i-preserved : goal.loop-i-preserved
loop-i-preserved c =
    let texts = map (λ (t : Bor (List ℕ)). t.now) c.args.texts.now in
    let size = length-map c.args.texts.now (λ (t : Bor (List ℕ)). t.now) in
    let h : c.loop-i._i < length texts = omega (arith, size, c.loop-i-test.true, c.loop-i.invariant.end, c.requires.count) in
    let fits : length (rows_of_all c.loop-i.tables.items) + length c.in-Ok.table.rows ≤ 2 ^ 31 - 1 = omega (arith, c.rows.ensures.count, c.loop-i.invariant.rows, c.if-more-gt-MAX_ROWS.false) in
    let one = length-append c.loop-i.tables.items (c.in-Ok.table ∷ []) in
    let more = rows-more c.loop-i.tables.items c.in-Ok.table in
    record {
      rest = c.in-Ok.ensures.items ∙ (ap (λ l. drop 1 l) c.loop-i.invariant.rest ∙ drop-drop 1 c.loop-i._i c.args.parts.items);
      end = c.loop-i.invariant.end;
      read = rw c.in-Ok-push.ensures.items
          (part-more c.args.format.now.delimiter (null_texts c.args.format.now.nulls.now) c.args.types.now (fields_of c.args.header.now) texts c.args.parts.items c.requires.parts c.loop-i._i h c.loop-i.tables.items c.loop-i.invariant.read c.in-Ok.table
          (head-at c.args.parts.items c.loop-i.parts.items c.loop-i._i _ c.loop-i.invariant.rest c.in-Ok.ensures.value) fits);
      count = rw c.in-Ok-push.ensures.items (omega (arith, one, c.loop-i.invariant.count));
      rows = rw c.in-Ok-push.ensures.items (omega (arith, more, c.rows.ensures.count, c.loop-i.invariant.rows));
    }
