-- How often a row stands among the lone rows of runs.
use Rattle.std.proofs.Common.{◌≡◌, ℕ, ◌+◌, ◌*◌, ◌==◌, Bool, true, false, not, cond, List, [], ◌∷◌, ap, sym, ◌∙◌, arith}
use Rattle.std.specs.List.{count_by, flat_map, list_any}
use Rattle.std.proofs.Math.Nat.{add-mul, mul-add, mul-one, mul-zero, zero-mul}
use Rattle.std.proofs.lemmas.Bool.{eqb-true}
use Rattle.rj_shards.proofs.Counted.{count_append, count_cons, count_filter}
use Rattle.rj_engine.proofs.LoneRows.{lone_of}
use Rattle.rj_shards.proofs.LoneRows.{filter_runs, is_free}

-- how often a number stands in a list
abbrev pub often : ℕ → List ℕ → ℕ
often i xs = count_by (λ x. x == i) xs

once_more : (b : Bool) (n f : ℕ) → cond b n 0 + n * f ≡ n * (cond b 1 0 + f)
once_more true n f = let one = mul-one n in let all = mul-add n 1 f in omega (arith, one, all)
once_more false n f = let none = mul-zero n in let all = mul-add n 0 f in omega (arith, none, all)

module _ (keeps : ℕ → ℕ → Bool) (i : ℕ) where
  -- among the lone rows of a list beside a run it stands as often as in that list, or not at all
  pub often_lone : (xs ys : List ℕ) → often i (lone_of keeps xs ys) ≡ cond (is_free keeps i ys) (often i xs) 0
  often_lone xs ys = count_filter (λ x. x == i) (λ x. not (list_any (keeps x) ys)) (is_free keeps i ys) (λ x e. ap (λ z. not (list_any (keeps z) ys)) (eqb-true x i e)) xs

  -- and beside each of several runs
  pub often_lone_beside : (xs : List ℕ) (runs : List (List ℕ)) → often i (flat_map (lone_of keeps xs) runs) ≡ often i xs * count_by (is_free keeps i) runs
  often_lone_beside xs [] = sym (mul-zero (often i xs))
  often_lone_beside xs (run ∷ runs) =
      count_append (λ x. x == i) (lone_of keeps xs run) (flat_map (lone_of keeps xs) runs)
      ∙ ((λ t. often_lone xs run t + often_lone_beside xs runs t)
      ∙ (once_more (is_free keeps i run) (often i xs) (count_by (is_free keeps i) runs) ∙ ap (λ n. often i xs * n) (sym (count_cons (is_free keeps i) run runs))))

  -- where the list is cut in runs too
  pub often_lone_runs : (lefts rights : List (List ℕ))
      → often i (flat_map (λ left. flat_map (lone_of keeps left) rights) lefts) ≡ often i (flat_map (λ run. run) lefts) * count_by (is_free keeps i) rights
  often_lone_runs [] rights = sym (zero-mul (count_by (is_free keeps i) rights))
  often_lone_runs (left ∷ lefts) rights =
      let rest = flat_map (λ run. run) lefts in
      count_append (λ x. x == i) (flat_map (lone_of keeps left) rights) (flat_map (λ left. flat_map (lone_of keeps left) rights) lefts)
      ∙ ((λ t. often_lone_beside left rights t + often_lone_runs lefts rights t)
      ∙ (sym (add-mul (often i left) (often i rest) (count_by (is_free keeps i) rights)) ∙ ap (λ n. n * count_by (is_free keeps i) rights) (sym (count_append (λ x. x == i) left rest))))

  -- the runs one by one, for all rows of the list
  pub often_lone_turned : (lefts rights : List (List ℕ))
      → often i (flat_map (λ right. flat_map (λ left. lone_of keeps left right) lefts) rights) ≡ often i (flat_map (λ run. run) lefts) * count_by (is_free keeps i) rights
  often_lone_turned lefts rights =
      let rest = flat_map (λ run. run) lefts in
      (λ t. often i (flat_map (λ right. sym (filter_runs (λ x. not (list_any (keeps x) right)) lefts) t) rights)) ∙ often_lone_beside rest rights
