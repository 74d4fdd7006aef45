use Rattle.std.proofs.Common.{rules, ◌≡◌, ℕ, ◌+◌, ◌<◌, ◌≤◌, ◌^◌, ◌||◌, ◌++◌, length, drop, Bool, true, false, arith, subst, sym, Vec, Global, cond}
use Rattle.rj_exchange.specs.declared.ledger.parcel.Body.{Body}
use Rattle.rj_exchange.specs.Standing.{Standing, IsSound, delivered_from, following, rows_of, rows_of_all, any_close, is_close}
use Rattle.rj_exchange.proofs.Soundness.{IsSound-delivered}
use Rattle.rj_exchange.proofs.ledger.intake.Intake.accept.Goals as goal
use Rattle.rj_exchange.proofs.ledger.intake.Intake.accept.Goals.{After-drop_first}

-- delivered in the fields s, which are seen as t
delivered_here : (s t : Standing) (n : ℕ) (b : Body) → s ≡ t → IsSound s → (IsSound t → IsSound (delivered_from t n b)) → IsSound (delivered_from s n b)
delivered_here s t n b e h f = subst (λ (u : Standing). IsSound (delivered_from u n b)) (sym e) (f (subst IsSound e h))

sound_parts : (s u : Standing) → s ≡ u → IsSound u → IsSound s
sound_parts s u e h = subst IsSound (sym e) h

sound : (c : After-drop_first) → IsSound (record { next = c.args.number + 1 + c.in-Ok.count; closed = c.in-Ok.closed; rows = c.append_all.new.rows.items; held = c.drop_first.new.held.entries })
sound c =
    let s : Standing = record { next = c.self.inside.next; closed = c.self.inside.closed; rows = c.self.inside.rows.items; held = c.self.inside.held.entries } in
    let count : c.in-Ok.count ≡ length (following (c.args.number + 1) c.self.inside.held.entries) = c.in-Ok.ensures.count in
    let closed : c.in-Ok.closed ≡ (is_close c.args.body || any_close (following (c.args.number + 1) c.self.inside.held.entries)) = c.in-Ok.ensures.close in
    let rows : c.append_all.new.rows.items ≡ c.self.inside.rows.items ++ (rows_of c.args.body ++ rows_of_all (following (c.args.number + 1) c.self.inside.held.entries)) = c.in-Ok.ensures.rows in
    let held : c.drop_first.new.held.entries ≡ drop c.in-Ok.count c.self.inside.held.entries = c.drop_first.ensures in
    sound_parts _ (delivered_from s c.args.number c.args.body) (cc (count, closed, rows, held))
    (delivered_here s c.args.self.now c.args.number c.args.body c.self.view_is c.self.invariant (λ h. IsSound-delivered c.args.self.now c.args.number c.args.body h c.requires.next c.requires.unclosed c.requires.holdable c.requires.alone))

fits : (next rows : ℕ) (closed : Bool) → next ≤ rows + cond closed 1 0 → rows < 2 ^ 63 → next < 2 ^ 64
fits next rows true h q = omega arith
fits next rows false h q = omega arith

few : (c : After-drop_first) → c.args.number + 1 + c.in-Ok.count < 2 ^ 64
few c = let v : Vec ℕ Global = c.append_all.new.rows in
    let small : length v.items < 2 ^ 63 = omega (arith, v.ok.0, v.ok.1, v.small) in
    fits (c.args.number + 1 + c.in-Ok.count) (length v.items) c.in-Ok.closed (sound c).counted small

pub overflow_add-self-in-Ok : goal.overflow_add-self-in-Ok
overflow_add-self-in-Ok c = let h : c.args.number + 1 + c.in-Ok.count < 2 ^ 64 = few c in search rules

pub overflow_add-result : goal.overflow_add-result
overflow_add-result c = let h = few (goal.at.overflow_add-result c).After-drop_first in search rules

pub invariant_of-self : goal.invariant_of-self
invariant_of-self c = sound (goal.at.invariant_of-self c).After-drop_first
