-- What a list of conditions joined by AND or by OR is resolved to.
use Rattle.std.proofs.Common.{◌≡◌, ℕ, List, map, sym, ap, ◌∙◌, Ok}
use Rattle.rj_condition.specs.declared.tree.Condition.{Condition, All, Any}
use Rattle.rj_condition.specs.declared.tree.Condition.TheVariants.{rolls-All, rolls-Any}
use Rattle.rj_condition.specs.declared.tree.Condition.TheOpen.{Condition-F}
use Rattle.rj_condition.specs.declared.tree.Condition.TheFolds.{fold-roll-Condition}
use Rattle.rj_condition.specs.declared.bound.BoundCondition.{BoundCondition, All as BoundAll, Any as BoundAny}
use Rattle.rj_condition.specs.Resolved.{Resolved, and_then, all_ok, resolved, resolved_at}

pub resolved_all : (left right : List (List ℕ)) (c : Condition) (cs xs : List Condition) (bs : List BoundCondition) → c ≡ All cs → xs ≡ cs → all_ok (map (resolved left right) xs) ≡ Ok bs
    → resolved left right c ≡ Ok (BoundAll bs)
resolved_all left right c cs xs bs is slice e =
    ap (resolved left right) is ∙ sym (ap (resolved left right) (rolls-All cs)) ∙ fold-roll-Condition Resolved (resolved_at left right) (Condition-F.All cs)
    ∙ ap (λ z. and_then z (λ bs. Ok (BoundAll bs))) (sym (ap (λ z. all_ok (map (resolved left right) z)) slice) ∙ e)

pub resolved_any : (left right : List (List ℕ)) (c : Condition) (cs xs : List Condition) (bs : List BoundCondition) → c ≡ Any cs → xs ≡ cs → all_ok (map (resolved left right) xs) ≡ Ok bs
    → resolved left right c ≡ Ok (BoundAny bs)
resolved_any left right c cs xs bs is slice e =
    ap (resolved left right) is ∙ sym (ap (resolved left right) (rolls-Any cs)) ∙ fold-roll-Condition Resolved (resolved_at left right) (Condition-F.Any cs)
    ∙ ap (λ z. and_then z (λ bs. Ok (BoundAny bs))) (sym (ap (λ z. all_ok (map (resolved left right) z)) slice) ∙ e)
