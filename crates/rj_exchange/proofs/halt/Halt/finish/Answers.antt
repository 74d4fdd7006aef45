use Rattle.std.proofs.Common.{◌≡◌, ◌<◌, [], ◌∷◌, length, length-append, sym, ap, ◌∙◌, refl, arith, Some, true≢false}
use Rattle.std.proofs.lemmas.List.Elements.{All-pop}
use Rattle.rj_exchange.proofs.Halting.{merges, closes}
use Rattle.rj_exchange.proofs.Seats.{popped, ends}
use Rattle.rj_exchange.proofs.HaltSeats.{IsHaltAt, raises_of, sees_of, some_raised, raised_some, seen_some, zero_unless, all_unraised}
use Rattle.rj_exchange.proofs.halt.Halt.finish.Goals as goal

pub unreachable-requires : goal.unreachable-requires
unreachable-requires c = let p = c.in_default.ensures.cases in let n = c.requires.0 in let f = c.args.self.some_seat in omega (arith, c.args.seats.ok)

pub loop-next-init : goal.loop-next-init
loop-next-init c = let s = c.in-Some.field-0 in let e = c.in-Some.ensures.items in let p = All-pop (IsHaltAt c.args.self.table.shared.table_id) _ _ (Some s) e c.requires.1 in record {
  same = p.1;
  empty = s.whole.0;
  parts = (let l = ap length e in let a = length-append c.pop.new.self.items (s ∷ []) in let n = c.requires.0 in let w = s.whole.1 in omega arith);
  raises = (let t = popped raises_of _ _ s e in omega arith);
  sees = (let t = popped sees_of _ _ s e in omega arith);
  theirs = p.0;
}

pub join_seat-requires : goal.join_seat-requires
join_seat-requires c = let s = c.in-Some-pop.next in let i = c.loop-next.invariant in let e = c.in-Some-pop.ensures.items in
    let p = All-pop (IsHaltAt c.args.self.table.shared.table_id) _ _ (Some s) e i.theirs in
    (i.same, p.1, s.whole.0, (let o = c.args.self.one_word.0 in omega arith), merges _ _ _ _ _)

pub loop-next-preserved : goal.loop-next-preserved
loop-next-preserved c = let s = c.in-Some-pop.next in let i = c.loop-next.invariant in let e = c.in-Some-pop.ensures.items in
    let p = All-pop (IsHaltAt c.args.self.table.shared.table_id) _ _ (Some s) e i.theirs in let is = c.join_seat.ensures.2 in record {
      same = c.join_seat.ensures.0 ∙ i.same;
      empty = ap (λ m. m.1) is ∙ i.empty;
      parts = (let q = ap (λ m. m.0.parts) is in let l = ap length e in let a = length-append c.pop-in-loop-next.new.self.items (s ∷ []) in let n = i.parts in let w = s.whole.1 in omega arith);
      raises = (let q = ap (λ m. m.0.raises) is in let t = popped raises_of _ _ s e in let n = i.raises in omega arith);
      sees = (let q = ap (λ m. m.0.sees) is in let t = popped sees_of _ _ s e in let n = i.sees in omega arith);
      theirs = p.0;
    }

pub returns-then-word-eq0-clause-raised : goal.returns-then-word-eq0-clause-raised
returns-then-word-eq0-clause-raised c = let i = c.loop-next.invariant in let word = c.word-word.result in let none : length c.loop-next.seats.items ≡ 0 = (let a = c.in_default-pop.ensures.cases in omega (arith, c.loop-next.seats.ok)) in
    let f = closes _ _ _ _ _ word c.close_with-closed.ensures.values.2 (let n = i.parts in omega arith) c.word-word.ensures in let z = ends raises_of _ none in let y = ends sees_of _ none in let n = i.raises in let m = i.sees in
    let t = c.if-word-eq0.true in ((λ no. absurd (true≢false (sym no))), λ any. absurd (let q = raised_some _ any in let p = f.1 (omega arith) in omega arith))

pub returns-then-word-eq0-clause-seen : goal.returns-then-word-eq0-clause-seen
returns-then-word-eq0-clause-seen c = let i = c.loop-next.invariant in let word = c.word-word.result in let none : length c.loop-next.seats.items ≡ 0 = (let a = c.in_default-pop.ensures.cases in omega (arith, c.loop-next.seats.ok)) in
    let f = closes _ _ _ _ _ word c.close_with-closed.ensures.values.2 (let n = i.parts in omega arith) c.word-word.ensures in let z = ends raises_of _ none in let y = ends sees_of _ none in let n = i.raises in let m = i.sees in
    let t = c.if-word-eq0.true in λ any. absurd (let q = seen_some _ any in let p = f.2 (omega arith) in omega arith)

pub returns-clause-raised : goal.returns-clause-raised
returns-clause-raised c = let i = c.loop-next.invariant in let word = c.word-word.result in let none : length c.loop-next.seats.items ≡ 0 = (let a = c.in_default-pop.ensures.cases in omega (arith, c.loop-next.seats.ok)) in
    let f = closes _ _ _ _ _ word c.close_with-closed.ensures.values.2 (let n = i.parts in omega arith) c.word-word.ensures in let z = ends raises_of _ none in let y = ends sees_of _ none in let n = i.raises in let m = i.sees in
    let t = c.if-word-eq0.false in ((λ _. some_raised _ (let up : 0 < word = omega arith in let p = f.0 up in omega arith)), λ _. refl)

pub returns-then-word-eq0-clause-calm : goal.returns-then-word-eq0-clause-calm
returns-then-word-eq0-clause-calm c = let i = c.loop-next.invariant in let word = c.word-word.result in let none : length c.loop-next.seats.items ≡ 0 = (let a = c.in_default-pop.ensures.cases in omega (arith, c.loop-next.seats.ok)) in
    let f = closes _ _ _ _ _ word c.close_with-closed.ensures.values.2 (let n = i.parts in omega arith) c.word-word.ensures in let z = ends raises_of _ none in let y = ends sees_of _ none in let n = i.raises in let m = i.sees in
    let t = c.if-word-eq0.true in let r = zero_unless _ word f.1 t in let s = zero_unless _ word f.2 t in all_unraised _ (omega arith) (omega arith)
