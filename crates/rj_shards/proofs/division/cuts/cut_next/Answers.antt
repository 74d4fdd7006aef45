use Rattle.std.proofs.Common.{rules, ◌≡◌, ◌≤◌, ◌+◌, ◌^◌, inl, inr, true, length, refl, take, arith}
use Rattle.std.specs.Result.{is_ok}
use Rattle.std.proofs.lemmas.Bool.{cases_lt}
use Rattle.csv.specs.Reading.{records}
use Rattle.rj_csv_io.specs.StrictReading.{config_of}
use Rattle.rj_shards.specs.Internal.Underway.{SplitsAs}
use Rattle.rj_shards.proofs.RangeFacts.{finish-cuts, pass, put, too-long}
use Rattle.rj_shards.proofs.division.cuts.cut_next.Goals as goal

pub returns-then-piece-clause-last : goal.returns-then-piece-clause-last
returns-then-piece-clause-last g c = λ _ text n u.
    finish-cuts c.args.delimiter c.args.size c.args.block text c.args.cutting.now c.next_piece.new.bytes.items (g.I.Input.tells c.args.input.now) (g.I.Input.tells c.next_piece.new.input) n u
    c.in-Ok.ensures.bytes c.in-Ok.ensures.read (c.in-Ok.ensures.last c.if-piece.true).1

pub returns-in-None-clause-fault : goal.returns-in-None-clause-fault
returns-in-None-clause-fault g c = λ text n u.
    let within : c.in-Ok.piece.end ≤ length c.next_piece.new.bytes.items = search rules in
    let high : 2 ^ 64 ≤ c.args.cutting.now.place + c.in-Ok.piece.end = elim (cases_lt (c.args.cutting.now.place + c.in-Ok.piece.end) (2 ^ 64)) [ inl low ↦ absurd (c.in-None.ensures low) | inr high ↦ high ] in
    too-long c.args.delimiter c.args.size c.args.block text c.args.cutting.now c.next_piece.new.bytes.items (g.I.Input.tells c.args.input.now) (g.I.Input.tells c.next_piece.new.input) n u
    c.in-Ok.ensures.bytes c.in-Ok.piece.end within high

pub returns-else-not-is_first-clause-more : goal.returns-else-not-is_first-clause-more
returns-else-not-is_first-clause-more g c = λ _ text n u.
    let end = c.in-Ok.piece.end in let ahead = c.in-Ok-is_header_ahead.is_first in
    let within : end ≤ length c.next_piece.new.bytes.items = search rules in
    let law : SplitsAs c.args.cutting.now.is_first (records (config_of c.args.delimiter) (take end c.next_piece.new.bytes.items)) ahead = λ more. search (rules, c.in-Ok-is_header_ahead.ensures more) in
    pass c.args.delimiter c.args.size c.args.block text c.args.cutting.now c.next_piece.new.bytes.items (g.I.Input.tells c.args.input.now) (g.I.Input.tells c.next_piece.new.input) n u
    c.in-Ok.ensures.bytes end within (c.in-Ok.ensures.line c.if-piece.false) (c.in-Ok.ensures.rest c.if-piece.false) ahead law
    _ c.drop_front.ensures c.in-Some.ensures.1 refl refl refl (λ e. search rules)

pub returns-else-is_err-clause-more : goal.returns-else-is_err-clause-more
returns-else-is_err-clause-more g c = λ _ text n u.
    let end = c.in-Ok.piece.end in let ahead = c.in-Ok-is_header_ahead.is_first in
    let within : end ≤ length c.next_piece.new.bytes.items = search rules in
    let law : SplitsAs c.args.cutting.now.is_first (records (config_of c.args.delimiter) (take end c.next_piece.new.bytes.items)) ahead = λ more. search (rules, c.in-Ok-is_header_ahead.ensures more) in
    let ok : is_ok c.push.result ≡ true = search rules in
    put c.args.delimiter c.args.size c.args.block text c.args.cutting.now c.next_piece.new.bytes.items (g.I.Input.tells c.args.input.now) (g.I.Input.tells c.next_piece.new.input) n u
    c.in-Ok.ensures.bytes end within (c.in-Ok.ensures.line c.if-piece.false) (c.in-Ok.ensures.rest c.if-piece.false) ahead law
    _ c.drop_front.ensures c.in-Some.ensures.1 refl (rw ok at c.push.ensures.items) refl c.if-not-is_first.true (omega (arith, c.if-saturating_sub-size.true, c.saturating_sub.ensures))
    c.in-Ok.ensures.read
