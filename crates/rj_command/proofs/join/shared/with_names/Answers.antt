use Rattle.std.proofs.Common.{◌≡◌, ◌∙◌, ◌+◌, ◌++◌, ◌∷◌, [], ap, append_assoc, drop, map, rules, sym, true, Bor, List, ℕ, Some}
use Rattle.std.specs.Prelude.{is_ok, slice_get}
use Rattle.std.proofs.lemmas.List.{map-append}
use Rattle.rj_condition.proofs.StepFacts.{drop_get}
use Rattle.rj_command.proofs.join.shared.with_names.Goals as goal

-- one more name, and those behind it
name_next : (done : List (Bor (List ℕ))) (more : List (Bor (List ℕ))) (names : List (List ℕ)) (i : ℕ) (x : Bor (List ℕ)) → more ≡ done ++ x ∷ []
    → slice_get names i ≡ Some x.now → map (λ n. n.now) more ++ drop (i + 1) names ≡ map (λ n. n.now) done ++ drop i names
name_next done more names i x push h =
    ap (λ (l : List (Bor (List ℕ))). map (λ n. n.now) l ++ drop (i + 1) names) push
    ∙ (ap (λ l. l ++ drop (i + 1) names) (map-append (λ (n : Bor (List ℕ)). n.now) done (x ∷ []))
    ∙ (append_assoc (map (λ n. n.now) done) (x.now ∷ []) (drop (i + 1) names) ∙ ap (λ l. map (λ n. n.now) done ++ l) (sym (drop_get names i x.now h))))

pub loop-i-preserved : goal.loop-i-preserved
loop-i-preserved c =
    let good : is_ok c.push.result ≡ true = search rules in
    let items = rw good at c.push.ensures.items in (
      name_next c.loop-i.names.items c.push.new.self.items c.args.table.now.names c.loop-i.i c.as_bytes.result items
          (c.name.ensures ∙ ap Some (sym c.as_bytes.ensures.value)) ∙ c.loop-i.invariant.0,
      c.loop-i.invariant.1,
    )
