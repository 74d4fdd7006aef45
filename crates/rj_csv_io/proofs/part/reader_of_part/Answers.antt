use Rattle.std.proofs.Common.{◌∙◌, Ok, ap, sym, List, ℕ, drop}
use Rattle.rj_csv_io.proofs.part.reader_of_part.Goals as goal

pub returns-then-not-branch-clause-reader : goal.returns-then-not-branch-clause-reader
returns-then-not-branch-clause-reader c =
    let none = sym c.open_reader-reader.ensures.records ∙ c.in_ok-next_record.ensures.none (ap Ok c.if-not-branch.true) in
    rw c.if-not-has_header.false (ap (λ (r : List (List (List ℕ))). drop 1 r) none)

pub returns-clause-reader : goal.returns-clause-reader
returns-clause-reader c =
    let first = sym c.open_reader-reader.ensures.records ∙ c.in_ok-next_record.ensures.next (ap Ok c.if-not-branch.false) in
    (c.in_ok-next_record.ensures.between (ap Ok c.if-not-branch.false), rw c.if-not-has_header.false (sym (ap (λ (r : List (List (List ℕ))). drop 1 r) first)))
