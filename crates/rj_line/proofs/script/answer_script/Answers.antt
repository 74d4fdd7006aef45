use Rattle.std.proofs.Common.{◌≡◌, ◌∙◌, ◌<◌, ◌++◌, ◌∷◌, ◌&&◌, Bool, ℕ, List, [], Option, length, ap, sym, append_assoc, arith}
use Rattle.std.specs.Prelude.{string_bytes}
use Rattle.std.proofs.lemmas.Bool.Decides.{nat_tests}
use Rattle.rj_exchange.specs.declared.ledger.parcel.Parcel.{Parcel}
use Rattle.rj_exchange.specs.Ledgers.{LedgerValue, after_all}
use Rattle.rj_line.specs.Script.{reading, readings, parcels_of, are_readable}
use Rattle.rj_line.specs.Report.{answers_text}
use Rattle.rj_line.proofs.ReportFacts.{answers_text-more, after_all-more, readings-line, and_assoc}
use Rattle.rj_line.proofs.script.answer_script.Goals as goal

pub loop-rest-preserved-in_ok-readable : goal.loop-rest-preserved-in_ok-readable
loop-rest-preserved-in_ok-readable c =
    let some : 0 < length c.first_line.result.0.now = grind (arith, nat_tests, c.if-not-is_empty.true, c.is_empty-in-loop-rest.ensures) in
    let r : Option Parcel = reading c.first_line.result.0.now in
    let more : List (Option Parcel) = readings c.first_line.result.1.now in
    let split : readings c.loop-rest.rest.now ≡ r ∷ more = readings-line c.loop-rest.rest.now c.first_line.result.0.now c.first_line.result.1.now c.first_line.ensures.lines some in
    let v : LedgerValue = c.loop-rest.ledger in
    let out : List ℕ = string_bytes c.loop-rest.out in
    record {
      written = c.loop-rest.invariant.written
          ∙ ap (λ (rs : List (Option Parcel)). out ++ answers_text v rs) split
          ∙ ap (λ (t : List ℕ). out ++ t) (answers_text-more v r more)
          ∙ sym (append_assoc out (answers_text v (r ∷ [])) (answers_text (after_all v (parcels_of (r ∷ []))) more))
          ∙ ap (λ (t : List ℕ). t ++ answers_text (after_all v (parcels_of (r ∷ []))) more) (sym c.in_ok-readable.ensures.written)
          ∙ ap (λ (w : LedgerValue). string_bytes c.answer_line.new.out ++ answers_text w more) (sym c.in_ok-readable.ensures.ledger);
      ledger = c.loop-rest.invariant.ledger
          ∙ ap (λ (rs : List (Option Parcel)). after_all v (parcels_of rs)) split
          ∙ after_all-more v r more
          ∙ ap (λ (w : LedgerValue). after_all w (parcels_of more)) (sym c.in_ok-readable.ensures.ledger);
      readable = c.loop-rest.invariant.readable
          ∙ ap (λ (rs : List (Option Parcel)). c.loop-rest.readable && are_readable rs) split
          ∙ and_assoc c.loop-rest.readable _ (are_readable more)
          ∙ ap (λ (t : Bool). (c.loop-rest.readable && t) && are_readable more) (sym c.in_ok-readable.ensures.readable);
      senders = c.in_ok-readable.ensures.senders ∙ c.loop-rest.invariant.senders;
    }
