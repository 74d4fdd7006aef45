use Rattle.std.proofs.Common.{Vec, Global, ◌≡◌, ◌++◌, List, ℕ, ◌∷◌, drop, ◌||◌, ◌∙◌, ap, sym}
use Rattle.rj_exchange.specs.declared.ledger.parcel.Body.{Body}
use Rattle.rj_exchange.specs.Standing.{rows_of, is_close}
use Rattle.rj_exchange.proofs.HeldFacts.{one_more, run_goes_on, rows_go_on, close_goes_on, append_nothing}
use Rattle.rj_exchange.proofs.ledger.intake.append_following.Goals as goal
use Rattle.rj_exchange.proofs.ledger.intake.append_following.Goals.{in-Rows+in_ok-extend_from_slice-in-Rows, in-Close}

pub loop-number-preserved : goal.loop-number-preserved
loop-number-preserved c =
    let d : drop c.loop-number.count c.args.held.now.entries ≡ (c.in-Some.number.now, c.in-Some.body.now) ∷ c.next.new.self = sym c.loop-number.invariant.left ∙ c.in-Some.ensures.steps in
    let more = one_more c.loop-number.count c.args.held.now.entries (c.in-Some.number.now, c.in-Some.body.now) c.next.new.self d in
    let written : c.match-body.rows.items ≡ c.loop-number.rows.items ++ rows_of c.in-Some.body.now =
    elim c.match-body.branch [
      | in-Rows+in_ok-extend_from_slice-in-Rows w ↦ ap (λ (v : Vec ℕ Global). v.items) w.rows-is ∙ w.in_ok-extend_from_slice-in-Rows.ensures.items
          ∙ ap (λ (t : List ℕ). c.loop-number.rows.items ++ t) (w.rows.ensures ∙ ap rows_of (sym w.in-Rows.is))
      | in-Close w ↦ ap (λ (v : Vec ℕ Global). v.items) w.rows-is ∙ append_nothing c.loop-number.rows.items c.in-Some.body.now w.in-Close.is
    ] in
    let shut : c.match-body.closed ≡ (is_close c.in-Some.body.now || c.loop-number.closed) =
    elim c.match-body.branch [
      | in-Rows+in_ok-extend_from_slice-in-Rows w ↦ w.closed-is ∙ ap (λ (b : Body). is_close b || c.loop-number.closed) (sym w.in-Rows.is)
      | in-Close w ↦ w.closed-is ∙ ap (λ (b : Body). is_close b || c.loop-number.closed) (sym w.in-Close.is)
    ] in
    record {
      left = more.left;
      within = more.within;
      rows = written ∙ rows_go_on c.loop-number.rows.items c.args.rows.now.items c.loop-number.count c.args.held.now.entries c.in-Some.number.now c.in-Some.body.now c.next.new.self d c.loop-number.invariant.rows;
      closed = shut ∙ close_goes_on c.loop-number.closed c.loop-number.count c.args.held.now.entries c.in-Some.number.now c.in-Some.body.now c.next.new.self d c.loop-number.invariant.closed;
      run = run_goes_on c.args.from c.loop-number.count c.args.held.now.entries c.in-Some.number.now c.in-Some.body.now c.next.new.self d c.if-not-is_number_after.ensures c.loop-number.invariant.run;
    }
