use Rattle.std.proofs.Common.{◌≡◌, ◌∙◌, Bor, List, ℕ, Bool, [], ◌∷◌, ap, map, not, refl}
use Rattle.std.specs.Prelude.{◌||◌}
use Rattle.std.specs.List.{list_any}
use Rattle.rj_line.specs.Shown.{is_text}
use Rattle.rj_explain.proofs.hints.is_foreign.Goals as goal

any_name : (names : List (Bor (List ℕ))) → list_any (λ (n : Bor (List ℕ)). not (is_text n.now)) names ≡ list_any (λ (n : List ℕ). not (is_text n)) (map (λ (n : Bor (List ℕ)). n.now) names)
any_name [] = refl
any_name (x ∷ names) = ap (λ (t : Bool). not (is_text x.now) || t) (any_name names)

pub returns-in-BadName : goal.returns-in-BadName
returns-in-BadName c = rw c.in-BadName.is (c.has_foreign.ensures ∙ any_name c.args.names.now)
