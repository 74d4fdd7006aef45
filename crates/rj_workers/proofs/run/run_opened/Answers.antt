use Rattle.std.proofs.Common.{ap, Bor}
use Rattle.rj_exchange.specs.declared.boxes.Exchange.{Exchange}
use Rattle.rj_workers.proofs.Dealt.{shared_own, shared_workers}
use Rattle.rj_workers.proofs.run.run_opened.Goals as goal

pub work-requires-clause-workers : goal.work-requires-clause-workers
work-requires-clause-workers g c κs within =
    let words = c.in_ok-words.words in let same = c.shared-shared.ensures in
    shared_workers c.args.opened.0 words _ c.args.opened.1.items c.in_ok-words.seats c.in_ok-workers.workers c.in_ok-workers.own c.requires.exchange.0 c.requires.outboxes
    c.in_ok-words.ensures.seats c.in_ok-workers.ensures _ _ _ _ _ (ap (λ (b : Bor Exchange). b.now) same.shared.0) same.words

pub work-requires-clause-own : goal.work-requires-clause-own
work-requires-clause-own g c κs within =
    shared_own c.args.opened.0 c.in_ok-words.words _ c.args.opened.1.items c.in_ok-words.seats c.in_ok-workers.workers c.in_ok-workers.own c.requires.exchange.0 c.requires.outboxes
    c.in_ok-words.ensures.seats c.in_ok-workers.ensures _ c.shared-shared.ensures.words.0
