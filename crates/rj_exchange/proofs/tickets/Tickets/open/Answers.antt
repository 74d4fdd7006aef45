use Rattle.std.proofs.Common.{◌≡◌, ℕ, length, length-append, sym, ap, ◌∙◌, subst, refl, arith, All}
use Rattle.std.proofs.lemmas.List.Elements.{All-push}
use Rattle.rj_exchange.specs.Tickets.{IsNew}
use Rattle.rj_exchange.specs.declared.tickets.Plan.{Plan}
use Rattle.rj_exchange.specs.Drawing.{draw}
use Rattle.rj_exchange.proofs.Drawing.{cuts}
use Rattle.rj_exchange.proofs.Seats.{IsDealt}
use Rattle.rj_exchange.proofs.tickets.Tickets.open.Goals as goal

pub split_seat-seat-requires : goal.split_seat-seat-requires
split_seat-seat-requires c = let i = c.loop.invariant in
    (i.same, (let o = c.in_ok-table.ensures.0 in omega arith), cuts _ _ _ (let t = c.loop-test.true in let p = i.parts in let d = i.dealt in omega arith) (ap (λ m. m.0.nones) i.view))

pub loop-preserved : goal.loop-preserved
loop-preserved c = let i = c.loop.invariant in let k = c.split_seat-seat.ensures in let e = c.in_ok-push.ensures.items in let f = k.2 in let l = ap length e ∙ length-append c.loop.dealt.items _ in
    let limit : c.loop.all.me.0.limit ≡ c.args.n = ap (λ m. m.0.limit) i.view in record {
      same = k.0 ∙ i.same;
      view = f ∙ (λ j. (draw (ap (λ m. m.0.limit) i.view j) (ap (λ (m : ℕ). m) (ap (λ m. m.0.parts) (sym f)) j) (i.view j).0.drawn (i.view j).0.nones, (i.view j).1));
      parts = (let p = i.parts in let q = ap (λ m. m.0.parts) f in let t = c.loop-test.true in let d = i.dealt in omega arith);
      dealt = (let d = i.dealt in omega arith);
      theirs = subst (All (IsDealt _ _)) (sym e) (All-push (IsDealt _ _) _ _ i.theirs (k.3 ∙ i.same, ap (λ m. m.0.limit) k.4 ∙ limit));
      fresh = subst (All IsNew) (sym e) (All-push IsNew _ _ i.fresh (ap (λ m. m.0.drawn) k.4, refl));
    }

pub returns-clause-seats : goal.returns-clause-seats
returns-clause-seats c = let i = c.loop.invariant in let e = c.in_ok-push-2.ensures.items in let l = ap length e ∙ length-append c.loop.dealt.items _ in let k = c.in_ok-table.ensures in (
  (
    (let d = i.dealt in let t = c.loop-test.false in let r = c.requires.seats in let q = ap (λ (p : Plan). p.seats) k.5 in let n = c.loop.auto.counter-end in omega arith),
    subst (All (IsDealt _ _)) (sym e) (All-push (IsDealt _ _) _ _ i.theirs (i.same, ap (λ m. m.0.limit) i.view)),
  ),
  subst (All IsNew) (sym e) (All-push IsNew _ _ i.fresh (ap (λ m. m.0.drawn) i.view, refl)),
)
