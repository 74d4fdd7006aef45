use Rattle.std.proofs.Common.{◌≡◌, [], ◌∷◌, length, length-append, sym, ap, ◌∙◌, refl, arith, Some, true≢false}
use Rattle.std.proofs.lemmas.List.Elements.{All-pop}
use Rattle.crossbeam_queue.specs.Passes.{view}
use Rattle.rj_exchange.specs.declared.stripes.StripeShare.{StripeShare}
use Rattle.rj_exchange.specs.Totals.{total}
use Rattle.rj_exchange.specs.Stripes.{held_by, stripes_drawn_by, stripes_put_by, IsStripeSeatOf}
use Rattle.rj_exchange.proofs.Totals.{total-append}
use Rattle.rj_exchange.proofs.Striping.{accounts, merges}
use Rattle.rj_exchange.proofs.Seats.{popped, ends}
use Rattle.rj_exchange.proofs.Shares.{IsStripeDealt, all_held, not_all_held, counted}
use Rattle.rj_exchange.proofs.stripes.Stripes.finish.Goals as goal

pub loop-next-init : goal.loop-next-init
loop-next-init g c = let s = c.in-Some.field-0 in let e = c.in-Some.ensures.items in let p = All-pop (IsStripeSeatOf c.args.self) c.args.seats.items c.pop.new.self.items (Some s) e c.requires.1 in let k = p.1.1 in record {
  pass = p.1.0;
  limit = ap (λ (u : StripeShare). u.limit) k;
  seats = ap (λ (u : StripeShare). u.seats) k;
  some = (let q = ap (λ (u : StripeShare). u.parts) k in omega arith);
  parts = (let l = ap length e in let a = length-append c.pop.new.self.items (s ∷ []) in let n = c.requires.0 in let q = ap (λ (u : StripeShare). u.parts) k in omega arith);
  numbers = λ h. (let t = popped (λ x. total h (held_by x)) _ _ s e in omega arith);
  drawn = λ h. (let t = popped (λ x. total h (stripes_drawn_by x)) _ _ s e in omega arith);
  put = λ h. (let t = popped (λ x. total h (stripes_put_by x)) _ _ s e in omega arith);
  theirs = p.0;
}

pub absorb-requires-clause-rule : goal.absorb-requires-clause-rule
absorb-requires-clause-rule g c = merges _ _ _ _ c.loop-next.invariant.some

pub loop-next-preserved : goal.loop-next-preserved
loop-next-preserved g c = let s = c.in-Some-pop.next in let i = c.loop-next.invariant in let e = c.in-Some-pop.ensures.items in let v = view c.loop-next.all in
    let p = All-pop (IsStripeDealt c.args.self.queue c.args.self.limit c.args.self.seats) _ _ (Some s) e i.theirs in let is = c.absorb.ensures.rule in let same = c.absorb.ensures.queue in record {
      pass = (same.0 ∙ i.pass.0, same.2 ∙ i.pass.1);
      limit = ap (λ (u : StripeShare). u.limit) is ∙ i.limit;
      seats = ap (λ (u : StripeShare). u.seats) is ∙ i.seats;
      some = (let q = ap (λ (u : StripeShare). u.parts) is in let n = i.some in omega arith);
      parts = (let q = ap (λ (u : StripeShare). u.parts) is in let w = ap (λ (u : StripeShare). u.parts) p.1.1 in let l = ap length e in let a = length-append c.pop-in-loop-next.new.self.items (s ∷ []) in let n = i.parts in omega arith);
      numbers = λ h. (let q = ap (λ (u : StripeShare). total h u.held) is in let t = popped (λ x. total h (held_by x)) _ _ s e in let a = total-append h v.held (held_by s) in let n = i.numbers h in omega arith);
      drawn = λ h. (let q = ap (λ (u : StripeShare). total h u.drawn) is in let t = popped (λ x. total h (stripes_drawn_by x)) _ _ s e in let a = total-append h v.drawn (stripes_drawn_by s) in let n = i.drawn h in omega arith);
      put = λ h. (let q = ap (λ (u : StripeShare). total h u.put) is in let t = popped (λ x. total h (stripes_put_by x)) _ _ s e in let a = total-append h v.put (stripes_put_by s) in let n = i.put h in omega arith);
      theirs = p.0;
    }

pub len_as-left-requires-clause-rule : goal.len_as-left-requires-clause-rule
len_as-left-requires-clause-rule g c = accounts _ _ c.loop-next.invariant.some

pub returns-then-left-eq0-clause-held : goal.returns-then-left-eq0-clause-held
returns-then-left-eq0-clause-held g c = let i = c.loop-next.invariant in let none : length c.loop-next.seats.items ≡ 0 = (let a = c.in_default-pop.ensures.cases in omega (arith, c.loop-next.seats.ok)) in
    let look = c.len_as-left.ensures.rule.1 in (
      (λ _. all_held _ _ look.0 _ look.2 (let n = i.parts in let m = i.seats in omega arith) i.limit (λ h. let n = i.numbers h in let z = ends (λ s. total h (held_by s)) _ none in omega arith)
          (let t = c.if-left-eq0.true in let l = look.1 in omega arith)),
      λ _. refl,
    )

pub returns-then-left-eq0-clause-drawn : goal.returns-then-left-eq0-clause-drawn
returns-then-left-eq0-clause-drawn g c = let i = c.loop-next.invariant in let none : length c.loop-next.seats.items ≡ 0 = (let a = c.in_default-pop.ensures.cases in omega (arith, c.loop-next.seats.ok)) in
    let look = c.len_as-left.ensures.rule.1 in λ h. let e = counted _ _ look.0 c.args.seats.items look.2 (let n = i.parts in let m = i.seats in omega arith) i.limit
    (λ f. let n = i.drawn f in let z = ends (λ s. total f (stripes_drawn_by s)) _ none in omega arith) (λ f. let n = i.put f in let z = ends (λ s. total f (stripes_put_by s)) _ none in omega arith) h in omega arith

pub returns-then-left-eq0-clause-all : goal.returns-then-left-eq0-clause-all
returns-then-left-eq0-clause-all g c = let i = c.loop-next.invariant in let none : length c.loop-next.seats.items ≡ 0 = (let a = c.in_default-pop.ensures.cases in omega (arith, c.loop-next.seats.ok)) in
    let look = c.len_as-left.ensures.rule.1 in λ _ h. let e = counted _ _ look.0 c.args.seats.items look.2 (let n = i.parts in let m = i.seats in omega arith) i.limit
    (λ f. let n = i.drawn f in let z = ends (λ s. total f (stripes_drawn_by s)) _ none in omega arith) (λ f. let n = i.put f in let z = ends (λ s. total f (stripes_put_by s)) _ none in omega arith) h in
    let q = ends h look.0 (let t = c.if-left-eq0.true in let l = look.1 in omega arith) in omega arith

pub returns-clause-held : goal.returns-clause-held
returns-clause-held g c = let i = c.loop-next.invariant in let none : length c.loop-next.seats.items ≡ 0 = (let a = c.in_default-pop.ensures.cases in omega (arith, c.loop-next.seats.ok)) in
    let look = c.len_as-left.ensures.rule.1 in (
      (λ no. absurd (true≢false (sym no))),
      λ once. absurd (not_all_held _ _ look.0 _ look.2 (let n = i.parts in let m = i.seats in omega arith) i.limit
          (λ h. let n = i.numbers h in let z = ends (λ s. total h (held_by s)) _ none in omega arith) (let t = c.if-left-eq0.false in let l = look.1 in omega arith) once),
    )

pub returns-clause-drawn : goal.returns-clause-drawn
returns-clause-drawn g c = let i = c.loop-next.invariant in let none : length c.loop-next.seats.items ≡ 0 = (let a = c.in_default-pop.ensures.cases in omega (arith, c.loop-next.seats.ok)) in
    let look = c.len_as-left.ensures.rule.1 in λ h. let e = counted _ _ look.0 c.args.seats.items look.2 (let n = i.parts in let m = i.seats in omega arith) i.limit
    (λ f. let n = i.drawn f in let z = ends (λ s. total f (stripes_drawn_by s)) _ none in omega arith) (λ f. let n = i.put f in let z = ends (λ s. total f (stripes_put_by s)) _ none in omega arith) h in omega arith
