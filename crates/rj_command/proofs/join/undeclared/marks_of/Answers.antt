use Rattle.std.proofs.Common.{◌≡◌, ◌∙◌, ◌+◌, ◌++◌, ◌∷◌, [], ap, append_assoc, drop, map, rules, sym, true, Bool, List, ℕ, Some}
use Rattle.std.specs.Prelude.{is_ok, slice_get}
use Rattle.rj_condition.proofs.StepFacts.{drop_get}
use Rattle.rj_command.specs.Undeclared.{is_undeclared}
use Rattle.rj_command.proofs.join.undeclared.marks_of.Goals as goal

-- one more mark, and those of the names behind
mark_next : {A : Type 0} (f : A → Bool) (xs : List A) (i : ℕ) (x : A) (done : List Bool) → slice_get xs i ≡ Some x
    → (done ++ f x ∷ []) ++ map f (drop (i + 1) xs) ≡ done ++ map f (drop i xs)
mark_next f xs i x done h = append_assoc done (f x ∷ []) (map f (drop (i + 1) xs)) ∙ ap (λ l. done ++ map f l) (sym (drop_get xs i x h))

pub loop-i-preserved : goal.loop-i-preserved
loop-i-preserved c =
    let f = is_undeclared c.args.open_list c.args.entries.now in
    let good : is_ok c.push.result ≡ true = search rules in
    let items = rw good at c.push.ensures.items in
    let mark = c.is_undeclared.ensures in (
      rw (items, mark) (mark_next f c.args.table.now.names c.loop-i.i c.name.result.now c.loop-i.marks.items c.name.ensures ∙ c.loop-i.invariant.0),
      c.loop-i.invariant.1,
    )
