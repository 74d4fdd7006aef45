use Rattle.std.proofs.Common.{◌≡◌, ℕ, suc, ◌+◌, ◌<◌, [], sym, ap, ◌∙◌, ◌++◌, ◌∷◌, arith}
use Rattle.crossbeam_queue.specs.Passes.{view}
use Rattle.rj_exchange.specs.declared.stripes.StripeShare.{StripeShare}
use Rattle.rj_exchange.specs.Totals.{total, total_below}
use Rattle.rj_exchange.specs.Striping.{share, stripe, opening}
use Rattle.rj_exchange.proofs.Striping.{total-below, total-without, nothing, first_left}
use Rattle.rj_exchange.proofs.stripes.calls.fill.Goals as goal

pub loop-number-init : goal.loop-number-init
loop-number-init g c = let k = c.requires.view.1 in record {
  pass = c.requires.pass.0;
  knows = k ∙ (λ i. share c.args.n (view c.args.pass.now).seats (view c.args.pass.now).parts (sym k i).held (sym k i).drawn (sym k i).put);
  left = λ h. (let e = ap (λ (u : StripeShare). total h u.held) k in let b = total-below h c.args.n in omega arith);
  drawn = ap (λ (u : StripeShare). u.drawn) k;
  put = ap (λ (u : StripeShare). u.put) k;
}

pub give-requires-clause-view : goal.give-requires-clause-view
give-requires-clause-view g c = let i = c.loop-number.invariant in let x : ℕ = c.loop-number.number in let lt : x < c.args.n = c.loop-number-test.true in (
  (let p = ap (λ (u : StripeShare). u.parts) i.knows in let some_part = c.requires.view.0 in omega arith),
  first_left x c.args.n _ i.left lt,
  ap (λ (u : StripeShare). u.limit) i.knows ∙ sym c.requires.pass.1,
)

pub loop-number-preserved : goal.loop-number-preserved
loop-number-preserved g c = let i = c.loop-number.invariant in let x : ℕ = c.loop-number.number in let e = c.give.ensures in let k = i.knows in let v = view c.loop-number.pass in record {
  pass = (e.pass.0 ∙ i.pass.0, e.pass.2 ∙ i.pass.1);
  knows = e.view ∙ (λ j. share (k j).limit (k j).seats (k j).parts (sym e.view j).held (sym e.view j).drawn (sym e.view j).put);
  left = λ h. (let w = total-without h x v.held (first_left x c.args.n v.held i.left c.loop-number-test.true) in let a = ap (λ (u : StripeShare). total h u.held) e.view in
      let m : x + 1 ≡ suc x = omega arith in let b = ap (total_below h) m in let s = i.left h in omega arith);
  drawn = ap (λ (u : StripeShare). u.drawn) e.view ∙ i.drawn;
  put = ap (λ (u : StripeShare). u.put) e.view ∙ ap (λ l. l ++ stripe x 0 ∷ []) i.put ∙ (let m : suc x ≡ x + 1 = omega arith in ap opening m);
}

pub returns-clause-view : goal.returns-clause-view
returns-clause-view g c = let i = c.loop-number.invariant in let f : ℕ → ℕ = λ _. 1 in
    let all : c.loop-number.number ≡ c.args.n = (let t = c.loop-number-test.false in let a = c.loop-number.auto.number-end in omega arith) in
    let none : total f (view c.loop-number.pass).held ≡ 0 = (let s = i.left f in let e = ap (total_below f) all in omega arith) in
    let held = nothing _ none in let put = i.put ∙ ap opening all in i.knows ∙ (λ j. share c.args.n (view c.args.pass.now).seats (view c.args.pass.now).parts (held j) (i.drawn j) (put j))
