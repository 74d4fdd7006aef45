-- What the ledger of a partition answers once all that was due was delivered to it.
use Rattle.std.proofs.Common.{◌≡◌, ◌∙◌, ◌<◌, ◌==◌, ℕ, Bool, true, false, cond, not, length, nat_lt, ap, sym, eq-eqb, arith}
use Rattle.std.proofs.lemmas.Bool.{lt-ltb}
use Rattle.std.proofs.lemmas.List.Sums.{AllPass-from_list_all}
use Rattle.rj_exchange.specs.declared.ledger.parcel.Parcel.{Parcel}
use Rattle.rj_exchange.specs.declared.ledger.parcel.Reason.TheVariants.{AfterClose, WrongPartition, UnknownSender}
use Rattle.rj_exchange.specs.declared.ledger.parcel.Answer.TheVariants.{Refused}
use Rattle.rj_exchange.specs.Standing.{Standing, nothing_yet}
use Rattle.rj_exchange.specs.Ledgers.{LedgerValue, standing, answer_to}
use Rattle.rj_exchange.specs.Rules.{answer, is_bad_length}
use Rattle.rj_exchange.proofs.CloseFacts.{complete_refuses, complete_stays}
use Rattle.rj_workers.specs.Posts.{Due}
use Rattle.rj_workers.specs.Arrivals.{AcceptsNoMore, IsDelivered}

-- of a sender whose close was delivered, a parcel of a lawful length is refused for it
for_close : (block : ℕ) (t : Standing) (x : Parcel) → is_bad_length block x.body ≡ false → t.closed ≡ true → answer block t x.number x.body ≡ Refused AfterClose
for_close block t x fits closed = rw (fits, closed)

module _ (due : Due) (n p : ℕ) (v : LedgerValue) (is : IsDelivered due n p v) where
  closed_at : (s : ℕ) → s < n → (standing v s).closed ≡ true
  closed_at s lt = AllPass-from_list_all (λ (t : Standing). t.closed) v.senders is.complete s nothing_yet (let len = is.senders in omega arith)

  after_close : (x : Parcel) → x.partition ≡ p → x.sender < n → is_bad_length v.block x.body ≡ false → answer_to v x ≡ Refused AfterClose
  after_close x of known fits =
      let here : (x.partition == v.partition) ≡ true = eq-eqb x.partition v.partition (of ∙ sym is.partition) in
      let one : nat_lt x.sender (length v.senders) ≡ true = lt-ltb x.sender (length v.senders) (let len = is.senders in omega arith) in
      ap (λ (b : Bool). cond (not b) (Refused WrongPartition) (cond (not (nat_lt x.sender (length v.senders))) (Refused UnknownSender) (answer v.block (standing v x.sender) x.number x.body))) here
      ∙ ap (λ (b : Bool). cond (not b) (Refused UnknownSender) (answer v.block (standing v x.sender) x.number x.body)) one
      ∙ for_close v.block (standing v x.sender) x fits (closed_at x.sender known)

  -- once all that was due was delivered, nothing more is accepted
  pub closed_once_delivered : AcceptsNoMore n p v
  closed_once_delivered = record {
    closed = closed_at;
    refused = λ x. complete_refuses v x is.complete;
    for_the_close = after_close;
    stays = λ xs. complete_stays v xs is.complete;
  }
