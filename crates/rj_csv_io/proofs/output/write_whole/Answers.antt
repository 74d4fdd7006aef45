use Rattle.std.specs.Prelude.{◌≡◌, ℕ, ◌-◌, List, ◌++◌, length, take, drop}
use Rattle.std.proofs.Common.{sym, ap, ◌∙◌, subst, append_assoc, take-append-drop}
use Rattle.std.proofs.lemmas.List.{take_rest}
use Rattle.std.proofs.KnownBytes.{Appends-trans, Appends-kept}
use Rattle.rj_csv_io.proofs.output.write_whole.Goals as goal
use Rattle.rj_csv_io.proofs.output.write_whole.Goals.{in-Ok, in-Err+else-ne}

-- what a write took goes from the front of the rest to what was appended
moves_front : (all done rest : List ℕ) (n : ℕ) → all ≡ done ++ rest → all ≡ (done ++ take n rest) ++ take (length rest - n) (drop n rest)
moves_front all done rest n e =
    e ∙ ap (λ l. done ++ l) (sym (take-append-drop n rest)) ∙ sym (append_assoc done (take n rest) (drop n rest)) ∙ ap (λ l. (done ++ take n rest) ++ l) (sym (take_rest rest n))

pub loop-turn-preserved : goal.loop-turn-preserved
loop-turn-preserved g c =
    let (done, split, appended) = c.loop-turn.invariant in
    let rest = c.loop-turn.rest.now in
    elim c.match-write.branch [
      | in-Ok w ↦
          let n = w.in-Ok.n in
          (done ++ take n rest, subst (λ r. c.args.bytes.now ≡ (done ++ take n rest) ++ r.now) (sym w.rest-is) (moves_front _ done rest n split), Appends-trans _ _ _ _ _ appended w.in-Ok.ensures.bytes)
      | in-Err+else-ne w ↦ (done, subst (λ r. c.args.bytes.now ≡ done ++ r.now) (sym w.rest-is) split, Appends-kept _ _ _ done appended w.in-Err.ensures.bytes)
    ]
