use Rattle.std.proofs.Common.{◌≡◌, ◌∙◌, ◌+◌, ◌∷◌, [], Bool, Bor, List, ℕ, map, refl, rules, tests}
use Rattle.std.specs.List.{position_from}
use Rattle.std.specs.Str.{str_eq_ignore_ascii_case}
use Rattle.std.proofs.lemmas.Iterator.{YieldsList-from_slice}
use Rattle.std.proofs.lemmas.Iterator.Adapters.{position_from-zero}
use Rattle.std.proofs.lemmas.Iterator.Search.{position_from_yields_List}
use Rattle.rj_explain.proofs.headers.first_named.Goals as goal

-- the first item that passes, by the values of the items
place-of-now : (t : List ℕ → Bool) (i : ℕ) (names : List (Bor (List ℕ))) → position_from (λ n. t n.now) i names ≡ position_from t i (map (λ n. n.now) names)
place-of-now t i [] = refl
place-of-now t i (n ∷ names) = rw (place-of-now t (i + 1) names) refl

pub returns-clause-place : goal.returns-clause-place
returns-clause-place c =
    let like = str_eq_ignore_ascii_case c.args.name.now in
    position_from_yields_List (λ n. like n.now) _ _ c.position.result c.position.ensures.ran (YieldsList-from_slice c.args.names.now cc) (λ x b q k. search (rules, tests))
    ∙ (position_from-zero (λ n. like n.now) c.args.names.now ∙ place-of-now like 0 c.args.names.now)
