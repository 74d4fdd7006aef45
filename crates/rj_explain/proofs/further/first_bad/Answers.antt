use Rattle.std.proofs.Common.{◌∙◌, List, ℕ, arith, refl, subst, sym}
use Rattle.rj_csv_io.specs.Pieces.{names_in}
use Rattle.rj_explain.specs.Places.{EndsFirst, first_byte, line_of}
use Rattle.rj_explain.proofs.FurtherFacts.{good_more}
use Rattle.rj_explain.proofs.PlaceFacts.{no-row, records-none, rest-drop, row-is, stands-more}
use Rattle.rj_explain.proofs.further.first_bad.Goals as goal

pub returns-in_default-clause-bad : goal.returns-in_default-clause-bad
returns-in_default-clause-bad c =
    let column = c.args.column.now in
    let text = column.text.now in
    let row = c.loop-row.row in
    let none = rw (c.in_default.is, rest-drop text c.loop-row.at) at c.in_ok-fields.ensures in record {
      end = row;
      good = c.loop-row.invariant.good;
      last = no-row column.delimiter text row row c.loop-row.at c.loop-row.invariant.stands (omega arith) (records-none column.delimiter _ none);
    }

pub returns-in_default-first_record-clause-bad : goal.returns-in_default-first_record-clause-bad
returns-in_default-first_record-clause-bad c =
    let column = c.args.column.now in
    let text = column.text.now in
    let row = c.loop-row.row in
    let none = rw (rest-drop text c.loop-row.at) at c.in_default-first_record.ensures.record in record {
      end = row;
      good = c.loop-row.invariant.good;
      last = no-row column.delimiter text row row c.loop-row.at c.loop-row.invariant.stands (omega arith) none;
    }

pub returns-then-branch-clause-bad : goal.returns-then-branch-clause-bad
returns-then-branch-clause-bad c =
    let column = c.args.column.now in
    let text = column.text.now in
    let found = rw (c.in-Some.is, rest-drop text c.loop-row.at) at c.in_ok-fields.ensures in record {
      behind = c.loop-row.invariant.behind;
      above = c.loop-row.invariant.good;
      here = row-is column.delimiter text c.loop-row.row c.loop-row.at c.line_from.result (names_in c.in-Some.fields) found.0 c.loop-row.invariant.stands found.1
          c.line_from.ensures;
      bad = sym c.in_ok-has_bad.ensures ∙ c.if-branch.true;
    }

pub returns-then-branch-clause-below : goal.returns-then-branch-clause-below
returns-then-branch-clause-below c =
    let column = c.args.column.now in
    let text = column.text.now in
    let at = c.loop-row.at in
    let size = c.in-Some-first_record.size in
    let more = subst (λ (xs : List ℕ). EndsFirst column.delimiter xs size) (rest-drop text at) c.in-Some-first_record.ensures.record in
    stands-more column.delimiter text c.loop-row.row at size c.loop-row.invariant.stands more

pub loop-row-preserved : goal.loop-row-preserved
loop-row-preserved c =
    let column = c.args.column.now in
    let text = column.text.now in
    let row = c.loop-row.row in
    let at = c.loop-row.at in
    let size = c.in-Some-first_record.size in
    let stands = c.loop-row.invariant.stands in
    let more = subst (λ (xs : List ℕ). EndsFirst column.delimiter xs size) (rest-drop text at) c.in-Some-first_record.ensures.record in
    let found = rw (c.in-Some.is, rest-drop text at) at c.in_ok-fields.ensures in
    let names = names_in c.in-Some.fields in
    let line = line_of text (first_byte text at) in
    let here = row-is column.delimiter text row at line names found.0 stands found.1 refl in record {
      within = omega (arith, c.in-Some-first_record.ensures.within);
      rows = omega (arith, c.in-Some-first_record.ensures.size);
      behind = omega arith;
      stands = stands-more column.delimiter text row at size stands more;
      good = good_more column c.args.from.row row line names c.loop-row.invariant.good here (sym c.in_ok-has_bad.ensures ∙ c.if-branch.false);
    }
