use Rattle.std.proofs.Common.{◌≡◌, min, [], ◌∷◌, length, length-append, ap, ◌∙◌, arith, Some}
use Rattle.std.proofs.lemmas.List.Elements.{All-pop, All-weaker}
use Rattle.rj_exchange.specs.Totals.{total, total_below}
use Rattle.rj_exchange.specs.Tickets.{drawn_by, IsSeatOf}
use Rattle.rj_exchange.proofs.Totals.{total-append}
use Rattle.rj_exchange.proofs.Drawing.{merges}
use Rattle.rj_exchange.proofs.Seats.{IsAt, nones, popped, each_once, closes, any_none, ends}
use Rattle.rj_exchange.proofs.tickets.Tickets.finish.Goals as goal

pub unreachable-requires : goal.unreachable-requires
unreachable-requires c = let p = c.in_default.ensures.cases in let n = c.requires.0 in let f = c.args.self.few in omega (arith, c.args.seats.ok)

pub loop-next-init : goal.loop-next-init
loop-next-init c = let s = c.in-Some.field-0 in let e = c.in-Some.ensures.items in let p = All-pop (IsSeatOf c.args.self) c.args.seats.items c.pop.new.self.items (Some s) e c.requires.1 in record {
  same = p.1.0;
  empty = s.whole.0;
  parts = (let l = ap length e in let a = length-append c.pop.new.self.items (s ∷ []) in let n = c.requires.0 in let w = s.whole.1 in omega arith);
  numbers = λ h. (let t = popped (λ x. total h (drawn_by x)) _ _ s e in omega arith);
  spent = (let t = popped nones _ _ s e in omega arith);
  theirs = All-weaker (IsSeatOf c.args.self) (IsAt c.args.self.table.shared.table_id) (λ x h. h.0) _ p.0;
}

pub join_seat-requires : goal.join_seat-requires
join_seat-requires c = let s = c.in-Some-pop.next in let i = c.loop-next.invariant in let e = c.in-Some-pop.ensures.items in
    let p = All-pop (IsAt c.args.self.table.shared.table_id) _ _ (Some s) e i.theirs in
    (i.same, p.1, s.whole.0, (let o = c.args.self.one_word.0 in omega arith), merges _ _ _ _ _)

pub loop-next-preserved : goal.loop-next-preserved
loop-next-preserved c = let s = c.in-Some-pop.next in let i = c.loop-next.invariant in let e = c.in-Some-pop.ensures.items in let all = c.loop-next.all.me.0 in
    let p = All-pop (IsAt c.args.self.table.shared.table_id) _ _ (Some s) e i.theirs in let is = c.join_seat.ensures.2 in record {
      same = c.join_seat.ensures.0 ∙ i.same;
      empty = ap (λ m. m.1) is ∙ i.empty;
      parts = (let q = ap (λ m. m.0.parts) is in let l = ap length e in let a = length-append c.pop-in-loop-next.new.self.items (s ∷ []) in let n = i.parts in let w = s.whole.1 in omega arith);
      numbers = λ h. (let q = ap (λ m. total h m.0.drawn) is in let t = popped (λ x. total h (drawn_by x)) _ _ s e in let a = total-append h all.drawn s.seat.me.0.drawn in let n = i.numbers h in omega arith);
      spent = (let q = ap (λ m. m.0.nones) is in let t = popped nones _ _ s e in let n = i.spent in omega arith);
      theirs = p.0;
    }

pub returns-then-word-limit-clause-numbers : goal.returns-then-word-limit-clause-numbers
returns-then-word-limit-clause-numbers c = let i = c.loop-next.invariant in let k = c.args.self.table.shared.key in let word = c.word-word.result in
    let none : length c.loop-next.seats.items ≡ 0 = (let a = c.in_default-pop.ensures.cases in omega (arith, c.loop-next.seats.ok)) in
    let f = closes k _ _ _ _ word c.close_with-closed.ensures.values.2 (let n = i.parts in omega arith) c.word-word.ensures in
    let m : min word k.limit ≡ word = (let l = c.args.self.limited.0 in let t = c.if-word-limit.true in omega arith) in
    each_once _ _ _ (λ h. f.0 h ∙ ap (total_below h) m) (λ h. let n = i.numbers h in let z = ends (λ s. total h (drawn_by s)) _ none in omega arith)

pub returns-then-word-limit-clause-spent : goal.returns-then-word-limit-clause-spent
returns-then-word-limit-clause-spent c = let i = c.loop-next.invariant in let k = c.args.self.table.shared.key in let word = c.word-word.result in
    let none : length c.loop-next.seats.items ≡ 0 = (let a = c.in_default-pop.ensures.cases in omega (arith, c.loop-next.seats.ok)) in
    let f = closes k _ _ _ _ word c.close_with-closed.ensures.values.2 (let n = i.parts in omega arith) c.word-word.ensures in
    λ any. let a = any_none _ any in let z = ends nones _ none in let n = i.spent in let le = f.1 (omega arith) in let l = c.args.self.limited.0 in let t = c.if-word-limit.true in omega arith

pub returns-clause-numbers : goal.returns-clause-numbers
returns-clause-numbers c = let i = c.loop-next.invariant in let k = c.args.self.table.shared.key in let word = c.word-word.result in
    let none : length c.loop-next.seats.items ≡ 0 = (let a = c.in_default-pop.ensures.cases in omega (arith, c.loop-next.seats.ok)) in
    let f = closes k _ _ _ _ word c.close_with-closed.ensures.values.2 (let n = i.parts in omega arith) c.word-word.ensures in
    let m : min word k.limit ≡ c.args.self.limit = (let l = c.args.self.limited.0 in let t = c.if-word-limit.false in omega arith) in
    each_once _ _ _ (λ h. f.0 h ∙ ap (total_below h) m) (λ h. let n = i.numbers h in let z = ends (λ s. total h (drawn_by s)) _ none in omega arith)
