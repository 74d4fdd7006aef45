-- One more name of USING.
use Rattle.std.proofs.Common.{◌≡◌, ℕ, ◌+◌, ◌<◌, List, length, get_or, drop, sym, ap, ◌∙◌, Option, Some, Ok}
use Rattle.std.specs.Prelude.{slice_set}
use Rattle.rj_columns.specs.Tables.{TableValue}
use Rattle.rj_condition.specs.declared.tree.Name.{Name}
use Rattle.rj_condition.specs.Names.{place}
use Rattle.rj_condition.specs.Resolved.{and_then}
use Rattle.rj_condition.specs.Partners.{pair_of, using_from}
use Rattle.rj_condition.proofs.StepFacts.{drop_at}

pub using_next : (l r : TableValue) (ps qs : List (Option ℕ)) (names : List Name) (i : ℕ) (n : Name) (a b : ℕ) → i < length names → n ≡ get_or names i n → qs ≡ ps →
    Ok (a, b) ≡ pair_of l r qs (place l.names n) (place r.names n) → using_from l r ps (drop i names) ≡ using_from l r (slice_set ps a (Some b)) (drop (i + 1) names)
using_next l r ps qs names i n a b lt is same e =
    ap (using_from l r ps) (drop_at names i n lt is)
    ∙ ap (λ z. and_then z (λ p. using_from l r (slice_set ps p.0 (Some p.1)) (drop (i + 1) names))) (sym (e ∙ ap (λ z. pair_of l r z (place l.names n) (place r.names n)) same))
