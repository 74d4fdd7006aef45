use Rattle.std.proofs.Common.{◌≡◌, ◌≤◌, ◌∙◌, ◌+◌, ◌-◌, ap, arith, length, subst, sym, take, List, ℕ}
use Rattle.std.proofs.lemmas.List.{length-take-le}
use Rattle.rj_csv_io.specs.StrictFaults.{AreAbove, row_at}
use Rattle.rj_csv_io.specs.Grammar.{Line, lines_text}
use Rattle.rj_csv_io.specs.StrictReading.{body_of}
use Rattle.rj_csv_io.proofs.MarkedParts.{body-short, body-start}
use Rattle.rj_csv_io.proofs.strict.above.above_fault.Goals as goal

pub overflow_sub-mark : goal.overflow_sub-mark
overflow_sub-mark c = rw c.body-unmarked.ensures (body-short c.args.header c.args.text.now)

pub slice_bounds-result-end : goal.slice_bounds-result-end
slice_bounds-result-end c =
    let text = c.args.text.now in
    let short = body-short c.args.header text in
    let size = ap (λ (x : List ℕ). length x) c.body-unmarked.ensures in
    sym (length-take-le (length text - length c.body-unmarked.result.now + c.start_of_row-start.result) text (omega (arith, short, size, c.start_of_row-start.ensures.within)))

pub returns : goal.returns
returns c =
    let text = c.args.text.now in
    let h = c.args.header in
    let start = c.start_of_row-start.result in
    let is = c.body-unmarked.ensures in
    let found = subst (λ (d : ℕ). (lines : List Line) × AreAbove d h c.body-unmarked.result.now c.row.result lines × (take start c.body-unmarked.result.now ≡ lines_text d lines))
    c.byte.ensures.value c.start_of_row-start.ensures.lines in
    let size = ap (λ (x : List ℕ). length x) is in
    let within : start ≤ length (body_of h text) = omega (arith, size, c.start_of_row-start.ensures.within) in (
      found.0,
      subst (λ (x : List ℕ). AreAbove c.args.delimiter h x (row_at c.args.fault) found.0) is (subst (λ (r : ℕ). AreAbove c.args.delimiter h c.body-unmarked.result.now r found.0) c.row.ensures found.1),
      ap (λ (x : List ℕ). body_of h (take (length text - length x + start) text)) is
          ∙ (body-start h text start within ∙ (ap (λ (x : List ℕ). take start x) (sym is) ∙ found.2)),
    )
