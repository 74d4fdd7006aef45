use Rattle.std.proofs.Common.{◌∙◌, refl, arith}
use Rattle.std.proofs.lemmas.List.{take_all}
use Rattle.rj_csv_io.proofs.InputFacts.{front-on}
use Rattle.rj_csv_io.proofs.filling.read_up_to.Goals as goal

pub loop-input-init : goal.loop-input-init
loop-input-init g c = record {
  bytes = λ start h. h;
  count = refl;
  front = take_all _ c.args.bytes.now.items (omega arith);
  bound = λ less. absurd (omega (arith, less));
}

pub loop-input-preserved : goal.loop-input-preserved
loop-input-preserved g c = record {
  bytes = λ start h. c.in_ok-read_piece.ensures.bytes start (c.loop-input.invariant.bytes start h);
  count = c.in_ok-read_piece.ensures.count.1 (λ q. cc q) ∙ c.loop-input.invariant.count;
  front = front-on _ _ _ c.loop-input.invariant.front c.in_ok-read_piece.ensures.front;
  bound = λ less. omega (arith, c.in_ok-read_piece.ensures.bound);
}
