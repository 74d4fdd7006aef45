use Rattle.std.proofs.Common.{◌≡◌, ℕ, List, inl, inr, subst, sym}
use Rattle.std.specs.BTreeMap.{insert_entry}
use Rattle.std.specs.Ordering.{nat_cmp}
use Rattle.rj_exchange.specs.declared.ledger.parcel.Body.{Body}
use Rattle.rj_exchange.specs.Standing.{Standing, IsSound, with_held}
use Rattle.rj_exchange.proofs.Soundness.{IsSound-held, ok_or_err}
use Rattle.rj_exchange.proofs.ledger.intake.Intake.hold.Goals as goal

-- held in the fields s, which are seen as t
held_here : (s t : Standing) (n : ℕ) (b : Body) → s ≡ t → IsSound s → (IsSound t → IsSound (with_held t n b)) → IsSound (with_held s n b)
held_here s t n b e h f = subst (λ (u : Standing). IsSound (with_held u n b)) (sym e) (f (subst IsSound e h))

pub invariant_of-self : goal.invariant_of-self
invariant_of-self c =
    let s : Standing = record { next = c.self.inside.next; closed = c.self.inside.closed; rows = c.self.inside.rows.items; held = c.self.inside.held.entries } in
    let P : List (ℕ × Body) → Type 0 = λ (es : List (ℕ × Body)). IsSound (record { next = c.self.inside.next; closed = c.self.inside.closed; rows = c.self.inside.rows.items; held = es }) in
    elim (ok_or_err (c.insert.new.self.entries ≡ insert_entry nat_cmp c.self.inside.held.entries c.args.number c.args.body)
    (c.insert.new.self.entries ≡ c.self.inside.held.entries) c.insert.result c.insert.ensures.entries c.insert.ensures.err) [
      | inl e ↦ subst P (sym e) (held_here s c.args.self.now c.args.number c.args.body c.self.view_is c.self.invariant
          (λ h. IsSound-held c.args.self.now c.args.number c.args.body h c.requires.later c.requires.unclosed c.requires.new c.requires.before_close c.requires.close_last c.requires.holdable))
      | inr e ↦ subst P (sym e) c.self.invariant
    ]
