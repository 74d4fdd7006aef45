-- The laws of joins in shards that rest on one another, and on those of the crates below.
use Rattle.std.proofs.Common.{◌≡◌, ℕ, List, None, All, map, sym, subst}
use Rattle.std.specs.List.{flat_map}
use Rattle.std.proofs.lemmas.List.Elements.{All-map}
use Rattle.rj_columns.specs.Contents.{Content}
use Rattle.rj_columns.specs.Tables.{TableValue}
use Rattle.rj_settings.specs.declared.choice.RowOrder.{RowOrder}
use Rattle.rj_condition.specs.declared.bound.BoundJoin.{BoundJoin}
use Rattle.rj_engine.proofs.ChosenFacts.{left_order}
use Rattle.rj_shards.specs.Copies.{StandsTooOften, copied_rows}
use Rattle.rj_shards.specs.Wholes.{HasTwice, IsMerge, IsMergeOf, RisesFrom}
use Rattle.rj_shards.specs.declared.merge.copies.Copies.{Copies}
use Rattle.rj_shards.specs.declared.merge.place.Place.{Place}
use Rattle.rj_shards.specs.declared.merge.place.Placed.{Placed}
use Rattle.rj_shards.proofs.CopyLaws.{single_all, single_merge}
use Rattle.rj_shards.proofs.WholeFacts.{only_merge_of}
use Rattle.rj_shards.specs.Pieces.{AreCutShards}
use Rattle.rj_shards.specs.Renumbered.{Rises, all_renumbered, inputs_renumbered}
use Rattle.rj_shards.specs.Rows.{AreShards, placed_rows}
use Rattle.rj_shards.proofs.Apart.{not_twice}
use Rattle.rj_shards.proofs.CutShards.{cut_alike, cut_merged, cut_of_shards, each_rises, renumbered_alike, uncut, uncut_lists, uncut_renumbered, uncut_renumbered_single, uncut_single}
use Rattle.rj_shards.proofs.Renumbered.{merge_kept}
use Rattle.rj_shards.proofs.ShardFacts.{merged}
use Rattle.rj_shards.proofs.Whole.{whole_rises}

module _ {T : Type 0} (order : RowOrder) (text : List Content → T) (join : BoundJoin) (l r : TableValue) where
  abbrev whole : List (Placed T)
  whole = placed_rows order text join l r

  -- shards in pieces
  module _ (inputs : List (Copies × List (Placed T))) (cut : AreCutShards order text join l r inputs) where
    -- their merge is the rows of the whole
    pub cut_merge : IsMergeOf (copied_rows inputs) whole
    cut_merge = cut_merged order text join l r inputs cut merged left_order

    -- and whatever is that merge is these rows
    pub cut_only : (rows : List (Placed T)) → IsMergeOf (copied_rows inputs) rows → rows ≡ whole
    cut_only rows merge = only_merge_of (copied_rows inputs) rows whole (cut_alike order text join l r inputs cut left_order) merge cut_merge

    -- also by other numbers that rise
    pub cut_renumbered : (left right : ℕ → ℕ) → Rises left → Rises right → (rows : List (Placed T))
        → IsMergeOf (copied_rows (inputs_renumbered left right inputs)) rows → rows ≡ all_renumbered left right whole
    cut_renumbered left right left_up right_up rows merge =
        only_merge_of (copied_rows (inputs_renumbered left right inputs)) rows (all_renumbered left right whole)
        (renumbered_alike order text join l r inputs cut left_order left right left_up right_up) merge
        (merge_kept left right left_up right_up inputs whole cut_merge)

    -- what each piece gives rises
    pub cut_rise : All (λ i. RisesFrom None i.1) inputs
    cut_rise = each_rises order text join l r inputs cut left_order

    -- no place is there more often than it has to be
    pub cut_within : (place : Place) → StandsTooOften (copied_rows inputs) place → ⊥
    cut_within = let m = cut_merge in m.within

  -- whole shards
  module _ (lists : List (List (Placed T))) (shards : AreShards order text join l r lists) where
    uncut_are : AreCutShards order text join l r (uncut lists)
    uncut_are = cut_of_shards order text join l r lists shards

    -- their merge is the rows of the whole
    pub whole_merge : IsMerge lists whole
    whole_merge =
        subst (λ ls. IsMerge ls whole) (uncut_lists lists)
        (single_all (uncut lists) whole (uncut_single lists) (cut_merge (uncut lists) uncut_are))

    -- and whatever is that merge is these rows
    pub whole_only : (rows : List (Placed T)) → IsMerge lists rows → rows ≡ whole
    whole_only rows merge =
        cut_only (uncut lists) uncut_are rows
        (single_merge (uncut lists) rows (uncut_single lists) (subst (λ ls. IsMerge ls rows) (sym (uncut_lists lists)) merge))

    -- also by other numbers that rise
    pub whole_renumbered : (left right : ℕ → ℕ) → Rises left → Rises right → (rows : List (Placed T))
        → IsMerge (map (all_renumbered left right) lists) rows → rows ≡ all_renumbered left right whole
    whole_renumbered left right left_up right_up rows merge =
        cut_renumbered (uncut lists) uncut_are left right left_up right_up rows
        (single_merge (inputs_renumbered left right (uncut lists)) rows (uncut_renumbered_single left right lists)
        (subst (λ ls. IsMerge ls rows) (sym (uncut_renumbered left right lists)) merge))

    -- what each shard gives rises
    pub whole_rise : All (RisesFrom None) lists
    whole_rise =
        subst (λ ls. All (RisesFrom None) ls) (uncut_lists lists)
        (All-map (RisesFrom None) (λ i. i.1) (uncut lists) (cut_rise (uncut lists) uncut_are))

    -- no two rows have one place
    pub whole_apart : (place : Place) → HasTwice (flat_map (λ rows. rows) lists) place → ⊥
    whole_apart = let m = whole_merge in not_twice (flat_map (λ rows. rows) lists) whole m.all (whole_rises order text join l r)
