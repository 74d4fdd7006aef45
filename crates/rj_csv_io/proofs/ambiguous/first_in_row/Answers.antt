use Rattle.std.proofs.Common.{◌≡◌, ◌∙◌, ◌<◌, ◌≤◌, ◌+◌, ◌-◌, ℕ, [], length, false, sym, ap, arith, rules, below_more}
use Rattle.rj_columns.specs.Tables.{cell_in}
use Rattle.rj_csv_io.specs.Ambiguous.{is_ambiguous}
use Rattle.rj_csv_io.proofs.BlockFacts.{place, placed, offset-none, offset-more}
use Rattle.rj_csv_io.proofs.ambiguous.first_in_row.Goals as goal

pub loop-col-init : goal.loop-col-init
loop-col-init g c = record {
  clear = λ col h. absurd (omega arith);
  end = c.columns-col-end.ensures.count;
  base = sym (offset-none (c.args.block.now.to - c.args.block.now.from));
  wide = c.columns-col-end.ensures.wide c.args.row [] (omega (arith, c.requires.holds.inside, c.requires.to));
}

pub index-requires : goal.index-requires
index-requires g c =
    let inside : c.loop-col.col < g.S.RowSource.width c.args.source.now = omega (arith, c.loop-col-test.true, c.columns-col-end.ensures.count) in
    let p = place (g.S.RowSource.contents c.args.source.now) (g.S.RowSource.width c.args.source.now) c.args.row c.loop-col.col c.args.block.now c.requires.holds c.requires.from c.requires.to inside in
    let low : c.loop-col.base + (c.args.row - c.args.block.now.from) < length c.args.block.now.cells.items = rw c.loop-col.invariant.base p.0 in
    search rules

pub overflow_add-base : goal.overflow_add-base
overflow_add-base g c =
    let inside : c.loop-col.col < g.S.RowSource.width c.args.source.now = omega (arith, c.loop-col-test.true, c.columns-col-end.ensures.count) in
    let p = place (g.S.RowSource.contents c.args.source.now) (g.S.RowSource.width c.args.source.now) c.args.row c.loop-col.col c.args.block.now c.requires.holds c.requires.from c.requires.to inside in
    let low : c.loop-col.base + (c.args.row - c.args.block.now.from) < length c.args.block.now.cells.items = rw c.loop-col.invariant.base p.0 in
    search rules

pub overflow_add-base-in-loop-col : goal.overflow_add-base-in-loop-col
overflow_add-base-in-loop-col g c =
    let inside : c.loop-col.col < g.S.RowSource.width c.args.source.now = omega (arith, c.loop-col-test.true, c.columns-col-end.ensures.count) in
    let p = place (g.S.RowSource.contents c.args.source.now) (g.S.RowSource.width c.args.source.now) c.args.row c.loop-col.col c.args.block.now c.requires.holds c.requires.from c.requires.to inside in
    let low : c.loop-col.base + (c.args.block.now.to - c.args.block.now.from) ≤ length c.args.block.now.cells.items = rw c.loop-col.invariant.base p.1 in
    search rules

pub returns-then-has_null_text-clause-first : goal.returns-then-has_null_text-clause-first
returns-then-has_null_text-clause-first g c =
    let inside : c.loop-col.col < g.S.RowSource.width c.args.source.now = omega (arith, c.loop-col-test.true, c.columns-col-end.ensures.count) in
    let cell = placed (g.S.RowSource.contents c.args.source.now) (g.S.RowSource.width c.args.source.now) c.args.row c.loop-col.col c.args.block.now
    (c.loop-col.base + (c.args.row - c.args.block.now.from)) c.index.result.now c.requires.holds c.requires.from c.requires.to inside
    (ap (λ b. b + (c.args.row - c.args.block.now.from)) c.loop-col.invariant.base) c.index.ensures in
    record {
      here = ap (is_ambiguous c.args.null.now) (sym cell) ∙ (sym c.has_null_text.ensures ∙ c.if-has_null_text.true);
      before = c.loop-col.invariant.clear;
    }

pub loop-col-preserved : goal.loop-col-preserved
loop-col-preserved g c =
    let inside : c.loop-col.col < g.S.RowSource.width c.args.source.now = omega (arith, c.loop-col-test.true, c.columns-col-end.ensures.count) in
    let cell = placed (g.S.RowSource.contents c.args.source.now) (g.S.RowSource.width c.args.source.now) c.args.row c.loop-col.col c.args.block.now
    (c.loop-col.base + (c.args.row - c.args.block.now.from)) c.index.result.now c.requires.holds c.requires.from c.requires.to inside
    (ap (λ b. b + (c.args.row - c.args.block.now.from)) c.loop-col.invariant.base) c.index.ensures in
    record {
      clear = below_more (λ (k : ℕ). is_ambiguous c.args.null.now (cell_in (g.S.RowSource.contents c.args.source.now) c.args.row k) ≡ false) c.loop-col.col c.loop-col.invariant.clear
          (ap (is_ambiguous c.args.null.now) (sym cell) ∙ (sym c.has_null_text.ensures ∙ c.if-has_null_text.false));
      end = c.loop-col.invariant.end;
      base = ap (λ b. b + (c.args.block.now.to - c.args.block.now.from)) c.loop-col.invariant.base ∙ sym (offset-more (c.args.block.now.to - c.args.block.now.from) c.loop-col.col);
      wide = c.loop-col.invariant.wide;
    }
