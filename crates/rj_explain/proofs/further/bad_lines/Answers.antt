use Rattle.std.proofs.Common.{◌≡◌, ◌∙◌, ◌<◌, ◌+◌, ◌-◌, ◌++◌, [], List, ℕ, ap, append-nil, append_assoc, arith, subst, sym}
use Rattle.std.specs.Prelude.{string_bytes}
use Rattle.rj_csv_io.specs.Pieces.{names_in}
use Rattle.rj_explain.specs.Further.{AreBadTold, bad_line, more_line}
use Rattle.rj_explain.specs.Places.{at_column}
use Rattle.rj_explain.proofs.FurtherFacts.{told-next}
use Rattle.rj_explain.proofs.further.bad_lines.Goals as goal

pub returns-in_default : goal.returns-in_default
returns-in_default c =
    let column = c.args.column.now in
    let row = c.loop-told.place.row in
    let none = rw c.in_default.is at c.in_ok-found.ensures.bad in
    let told = c.loop-told.invariant.told [] (AreBadTold.none row (19 - c.loop-told._told) none) in
    subst (λ (s : List ℕ). AreBadTold column c.args.from.row 19 s) (append-nil (string_bytes c.loop-told.lines)) told

pub loop-told-preserved : goal.loop-told-preserved
loop-told-preserved c =
    let column = c.args.column.now in
    let row = c.loop-told.place.row in
    let found = c.in-Some.found in
    let names = names_in found.row.fields in
    let line = bad_line found.number found.row.line (at_column column.number names) in
    let lines = string_bytes c.loop-told.lines in
    let first = rw c.in-Some.is at c.in_ok-found.ensures.bad in
    let below = rw c.in-Some.is at c.in_ok-found.ensures.next in
    let left : 19 - (c.loop-told._told + 1) ≡ 19 - c.loop-told._told - 1 = omega arith in
    let some : 0 < 19 - c.loop-told._told = omega arith in
    let pushed = c.in_ok-push_str.ensures.bytes ∙ ap (λ (s : List ℕ). lines ++ s) (c.as_str.ensures.value ∙ c.in_ok-line.ensures) in record {
      within = rw c.in-Some.is at c.in_ok-found.ensures.within;
      rows = rw c.in-Some.is at c.in_ok-found.ensures.rows;
      stands = rw c.in-Some.is at c.in_ok-found.ensures.below;
      told = λ rest more.
          let by-row = subst (λ (r : ℕ). AreBadTold column r (19 - (c.loop-told._told + 1)) rest) below more in
          let by-count = subst (λ (n : ℕ). AreBadTold column (found.number + 1) n rest) left by-row in
          let next = told-next column row (19 - c.loop-told._told) found.number found.row.line names rest some first by-count in
          let told = c.loop-told.invariant.told (line ++ rest) next in
          subst (λ (s : List ℕ). AreBadTold column c.args.from.row 19 s) (sym (ap (λ (s : List ℕ). s ++ rest) pushed ∙ append_assoc lines line rest)) told;
    }

pub returns-in_default-2 : goal.returns-in_default-2
returns-in_default-2 c =
    let column = c.args.column.now in
    let row = c.loop-told.place.row in
    let none = rw c.in_default-2.is at c.in_ok-_next.ensures.bad in
    let told = c.loop-told.invariant.told [] (AreBadTold.none row (19 - c.loop-told._told) none) in
    subst (λ (s : List ℕ). AreBadTold column c.args.from.row 19 s) (append-nil (string_bytes c.loop-told.lines)) told

pub returns : goal.returns
returns c =
    let column = c.args.column.now in
    let row = c.loop-told.place.row in
    let found = c.in-Some-2._next in
    let first = rw c.in-Some-2.is at c.in_ok-_next.ensures.bad in
    let left : 0 ≡ 19 - c.loop-told._told = omega arith in
    let more = subst (λ (n : ℕ). AreBadTold column row n more_line) left (AreBadTold.more row found.number found.row.line (names_in found.row.fields) first) in
    subst (λ (s : List ℕ). AreBadTold column c.args.from.row 19 s) (sym c.in_ok-push_str-2.ensures.bytes) (c.loop-told.invariant.told more_line more)
