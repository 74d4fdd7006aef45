use Rattle.std.proofs.Common.{length, length-append, sym, ap, ◌∙◌, subst, refl, arith, All}
use Rattle.std.proofs.lemmas.List.Elements.{All-push}
use Rattle.rj_exchange.specs.Halt.{IsNewHalt}
use Rattle.rj_exchange.specs.Halting.{halt_token}
use Rattle.rj_exchange.proofs.Halting.{cuts}
use Rattle.rj_exchange.proofs.HaltSeats.{IsHaltAt}
use Rattle.rj_exchange.proofs.halt.Halt.open.Goals as goal

pub split_seat-seat-requires : goal.split_seat-seat-requires
split_seat-seat-requires c = let i = c.loop.invariant in
    (i.same, (let o = c.in_ok-table.ensures.0 in omega arith), cuts _ _ _ (let t = c.loop-test.true in let p = i.parts in let d = i.dealt in omega arith))

pub loop-preserved : goal.loop-preserved
loop-preserved c = let i = c.loop.invariant in let k = c.split_seat-seat.ensures in let e = c.in_ok-push.ensures.items in let f = k.2 in let l = ap length e ∙ length-append c.loop.dealt.items _ in record {
  same = k.0 ∙ i.same;
  view = f ∙ (λ j. (halt_token (ap (λ m. m.0.parts) (sym f) j) (i.view j).0.raises (i.view j).0.sees, (i.view j).1));
  parts = (let p = i.parts in let q = ap (λ m. m.0.parts) f in let t = c.loop-test.true in let d = i.dealt in omega arith);
  dealt = (let d = i.dealt in omega arith);
  theirs = subst (All (IsHaltAt _)) (sym e) (All-push (IsHaltAt _) _ _ i.theirs (k.3 ∙ i.same));
  fresh = subst (All IsNewHalt) (sym e) (All-push IsNewHalt _ _ i.fresh (refl, refl));
}

pub returns-clause-seats : goal.returns-clause-seats
returns-clause-seats c = let i = c.loop.invariant in let e = c.in_ok-push-2.ensures.items in let l = ap length e ∙ length-append c.loop.dealt.items _ in let k = c.in_ok-table.ensures in (
  (
    (let d = i.dealt in let t = c.loop-test.false in let r = c.requires in let q = k.5 in let n = c.loop.auto.counter-end in omega arith),
    subst (All (IsHaltAt _)) (sym e) (All-push (IsHaltAt _) _ _ i.theirs i.same),
  ),
  subst (All IsNewHalt) (sym e) (All-push IsNewHalt _ _ i.fresh (refl, refl)),
)
