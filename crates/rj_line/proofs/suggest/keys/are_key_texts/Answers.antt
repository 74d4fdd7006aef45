use Rattle.std.proofs.Common.{◌≡◌, ◌∙◌, ◌<◌, ℕ, Bool, List, Bor, Option, Some, None, false, true, arith, sym, ap, length}
use Rattle.std.specs.Prelude.{nat_eq, option_map}
use Rattle.std.specs.Cmp.Lexicographic.{pointwise}
use Rattle.std.specs.HashSet.{contains}
use Rattle.rj_columns.specs.declared.cell.ColumnType.TheVariants as kind
use Rattle.rj_columns.specs.Tables.{cell_of}
use Rattle.rj_line.specs.Suggested.{text_in}
use Rattle.rj_line.proofs.KeyFacts.{cell-fits, has_text, key-more, no-text, null-no_key, one-more, repeated, text-equal, text-own, text-present}
use Rattle.rj_line.proofs.suggest.keys.are_key_texts.Goals as goal

-- whether two texts are the same
abbrev same_text : Bor (List ℕ) → Bor (List ℕ) → Bool
same_text x y = pointwise nat_eq x.now y.now

pub returns-in_default : goal.returns-in_default
returns-in_default c =
    let t = c.args.table.now in
    let col = c.args.col in
    let row = c.loop-row.row in
    let inside : row < length t.rows = omega (arith, c.loop-row-test.true, c.loop-row.invariant.end) in
    let none : None ≡ text_in (cell_of t row col) = ap (λ (o : Option (Bor (List ℕ))). option_map (λ s. s.now) o) (sym c.in_default.is) ∙ c.text_at.ensures in
    let null = no-text (cell_of t row col) (cell-fits t row col kind.Text c.columns-columns.ensures.typed inside c.requires.col c.requires.texts) none in
    (λ e. absurd cc, λ key. absurd (null-no_key t col row inside null key))

pub returns-then-not-branch : goal.returns-then-not-branch
returns-then-not-branch c =
    let t = c.args.table.now in
    let col = c.args.col in
    let row = c.loop-row.row in
    let v = c.in-Some.text in
    let inside : row < length t.rows = omega (arith, c.loop-row-test.true, c.loop-row.invariant.end) in
    let some : Some v.now ≡ text_in (cell_of t row col) = ap (λ (o : Option (Bor (List ℕ))). option_map (λ s. s.now) o) (sym c.in-Some.is) ∙ c.text_at.ensures in
    let old : contains same_text c.loop-row.seen v ≡ true = grind (arith, c.in_ok-insert.ensures.added, c.if-not-branch.true) in
    let same = λ (i : ℕ) (l : i < row). text-equal (cell_of t row col) (cell_of t i col) v some in
    (λ e. absurd cc, λ key. absurd (repeated has_text t col row (contains same_text c.loop-row.seen) v c.loop-row.invariant.seen old inside same key))

pub loop-row-preserved : goal.loop-row-preserved
loop-row-preserved c =
    let t = c.args.table.now in
    let col = c.args.col in
    let row = c.loop-row.row in
    let v = c.in-Some.text in
    let before = contains same_text c.loop-row.seen in
    let after = contains same_text c.insert.new.self in
    let some : Some v.now ≡ text_in (cell_of t row col) = ap (λ (o : Option (Bor (List ℕ))). option_map (λ s. s.now) o) (sym c.in-Some.is) ∙ c.text_at.ensures in
    let new : before v ≡ false = grind (arith, c.in_ok-insert.ensures.added, c.if-not-branch.false) in
    let same = λ (i : ℕ) (l : i < row). text-equal (cell_of t row col) (cell_of t i col) v some in
    record {
      end = c.loop-row.invariant.end;
      above = key-more has_text t col row before v c.loop-row.invariant.seen new (text-present (cell_of t row col) v.now some) same c.loop-row.invariant.above;
      seen = one-more has_text t col row before after (same_text v) c.loop-row.invariant.seen (λ q. text-own (cell_of t row col) v q some) c.in_ok-insert.ensures.updates.0;
    }
