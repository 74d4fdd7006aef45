use Rattle.std.proofs.Common.{◌≡◌, ◌∙◌, ◌<◌, ℕ, Some, None, false, true, arith, sym, ap, length}
use Rattle.std.specs.HashSet.{contains}
use Rattle.std.specs.Ordering.{int_eq}
use Rattle.rj_columns.specs.Tables.{cell_of}
use Rattle.rj_line.specs.Keys.{units_in}
use Rattle.rj_line.proofs.KeyFacts.{cell-fits, has_units, key-more, no-units, null-no_key, one-more, repeated, units-equal, units-own, units-present}
use Rattle.rj_line.proofs.suggest.keys.are_key_numbers.Goals as goal

pub returns-in_default : goal.returns-in_default
returns-in_default c =
    let t = c.args.table.now in
    let col = c.args.col in
    let row = c.loop-row.row in
    let inside : row < length t.rows = omega (arith, c.loop-row-test.true, c.loop-row.invariant.end) in
    let (k, is, numbers) = c.requires.numbers in
    let none : None ≡ units_in (cell_of t row col) = sym c.in_default.is ∙ (c.units_of.ensures ∙ ap units_in c.cell.ensures.content) in
    let null = no-units k (cell_of t row col) (cell-fits t row col k c.columns-columns.ensures.typed inside c.requires.col is) numbers none in
    (λ e. absurd cc, λ key. absurd (null-no_key t col row inside null key))

pub returns-then-not-branch : goal.returns-then-not-branch
returns-then-not-branch c =
    let t = c.args.table.now in
    let col = c.args.col in
    let row = c.loop-row.row in
    let v = c.in-Some.units in
    let inside : row < length t.rows = omega (arith, c.loop-row-test.true, c.loop-row.invariant.end) in
    let (k, is, numbers) = c.requires.numbers in
    let fits = λ (i : ℕ) (l : i < length t.rows). cell-fits t i col k c.columns-columns.ensures.typed l c.requires.col is in
    let some : Some v ≡ units_in (cell_of t row col) = sym c.in-Some.is ∙ (c.units_of.ensures ∙ ap units_in c.cell.ensures.content) in
    let old : contains int_eq c.loop-row.seen v ≡ true = grind (arith, c.in_ok-insert.ensures.added, c.if-not-branch.true) in
    let same = λ (i : ℕ) (l : i < row). units-equal k (cell_of t row col) (cell_of t i col) v (fits row inside) (fits i (omega (arith, l, inside))) some in
    (λ e. absurd cc, λ key. absurd (repeated has_units t col row (contains int_eq c.loop-row.seen) v c.loop-row.invariant.seen old inside same key))

pub loop-row-preserved : goal.loop-row-preserved
loop-row-preserved c =
    let t = c.args.table.now in
    let col = c.args.col in
    let row = c.loop-row.row in
    let v = c.in-Some.units in
    let before = contains int_eq c.loop-row.seen in
    let after = contains int_eq c.insert.new.self in
    let inside : row < length t.rows = omega (arith, c.loop-row-test.true, c.loop-row.invariant.end) in
    let (k, is, numbers) = c.requires.numbers in
    let fits = λ (i : ℕ) (l : i < length t.rows). cell-fits t i col k c.columns-columns.ensures.typed l c.requires.col is in
    let some : Some v ≡ units_in (cell_of t row col) = sym c.in-Some.is ∙ (c.units_of.ensures ∙ ap units_in c.cell.ensures.content) in
    let new : before v ≡ false = grind (arith, c.in_ok-insert.ensures.added, c.if-not-branch.false) in
    let same = λ (i : ℕ) (l : i < row). units-equal k (cell_of t row col) (cell_of t i col) v (fits row inside) (fits i (omega (arith, l, inside))) some in
    record {
      end = c.loop-row.invariant.end;
      above = key-more has_units t col row before v c.loop-row.invariant.seen new (units-present (cell_of t row col) v some) same c.loop-row.invariant.above;
      seen = one-more has_units t col row before after (int_eq v) c.loop-row.invariant.seen (λ q. units-own (cell_of t row col) v q some) (λ q. grind (arith, c.in_ok-insert.ensures.updates.0 q));
    }
