use Rattle.std.proofs.Common.{◌≡◌, true, false, Some, Bor, List, ℕ}
use Rattle.rj_csv_io.proofs.RemainingFacts.{read-more, read-none}
use Rattle.rj_csv_io.proofs.read_rows.next_record.Goals as goal

pub returns-clause-next : goal.returns-clause-next
returns-clause-next c = λ e.
    let found : c.in-Ok.found ≡ true = cc in
    (read-more (λ (s : Bor (List ℕ)). Some s.now) c.args.reader.now c.read_byte_record.new.self c.in-Ok.found _ c.requires found c.in-Ok.ensures.reads c.in-Ok.ensures.ready).0

pub returns-clause-between : goal.returns-clause-between
returns-clause-between c = λ e.
    let found : c.in-Ok.found ≡ true = cc in
    (read-more (λ (s : Bor (List ℕ)). Some s.now) c.args.reader.now c.read_byte_record.new.self c.in-Ok.found _ c.requires found c.in-Ok.ensures.reads c.in-Ok.ensures.ready).1

pub returns-clause-none : goal.returns-clause-none
returns-clause-none c = λ e.
    let none : c.in-Ok.found ≡ false = cc in
    read-none (λ (s : Bor (List ℕ)). Some s.now) c.args.reader.now c.read_byte_record.new.self c.in-Ok.found _ c.requires none c.in-Ok.ensures.reads
