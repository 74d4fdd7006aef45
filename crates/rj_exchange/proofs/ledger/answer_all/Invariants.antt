use Rattle.std.proofs.Common.{◌≡◌, ◌++◌, length}
use Rattle.std.specs.Vec.Iter.{into_iter_items}
use Rattle.rj_exchange.specs.Ledgers.{opened, answers, after_all}
use Rattle.rj_exchange.proofs.ledger.answer_all.Given as goal

abbrev pub invariant-loop-parcel : goal.invariant-loop-parcel
invariant-loop-parcel l = record {
  answers : answers (opened l.partition l.senders l.block) l.fn.parcels.items ≡ l.answers.items ++ answers l.ledger (into_iter_items l.parcel-iterator);
  ledger : after_all (opened l.partition l.senders l.block) l.fn.parcels.items ≡ after_all l.ledger (into_iter_items l.parcel-iterator);
  senders : length l.ledger.senders ≡ l.senders;
}
