use Rattle.std.proofs.Common.{◌≡◌, ℕ, ◌+◌, ◌*◌, ◌∙◌, get_or, sym, ap, subst, arith}
use Rattle.rj_exchange.specs.declared.boxes.Exchange.{Exchange}
use Rattle.rj_exchange.specs.declared.boxes.Outbox.{Outbox}
use Rattle.rj_exchange.specs.Boxes.{AreStubsFrom, IsOutboxOf, IsStubOf, where_at}
use Rattle.rj_tests_tables.proofs.exchange.passing.by_lanes.Goals as goal

-- an outbox's stubs where there is one partition
whole_part : (e : Exchange) (o : Outbox) (n : ℕ) → IsOutboxOf e o → o.number ≡ n → e.partitions ≡ 1 → AreStubsFrom e 0 n o.stubs.items
whole_part e o n h number is = record {
  many = (let m = h.many in let q : e.partitions * e.lanes ≡ 1 * e.lanes = ap (λ (i : ℕ). i * e.lanes) is in omega arith);
  stubs = λ k l s kl. let at : 0 * e.lanes + k ≡ k = omega arith in
      subst (λ (z : ℕ × ℕ). IsStubOf (where_at e 0 k) z.1 (get_or e.queues.items (0 * e.lanes + k) l) (get_or o.stubs.items z.0 s)) (λ i. (at i, number i)) (h.tokens 0 k l s (omega arith) kl);
}

pub hear-requires : goal.hear-requires
hear-requires g c =
    let x = c.in_ok-exchange.ensures in let e = c.in_ok-exchange.exchange in let post = c.post_all.ensures in
    let o = c.post_all.new.outbox in (
      c.heard_of_none.ensures e c.in_ok-exchange.inbox x.inbox.0,
      subst (λ (n : ℕ). AreStubsFrom e n 0 c.end.result.items) (sym x.inbox.1) (subst (λ v. AreStubsFrom e 0 0 v.items) (sym c.end.ensures) (whole_part e o 0 post.0 (post.1 ∙ x.outbox.1) x.sizes.0)),
    )
