use Rattle.std.proofs.Common.{◌∙◌, ◌^◌, refl, ap, ap₂, sym, map, length, ℕ}
use Rattle.std.specs.List.{range_with_len}
use Rattle.std.proofs.lemmas.List.FromFn.{length-map-range_with_len}
use Rattle.rj_condition.specs.Splits.{keys_of}
use Rattle.rj_engine.specs.Join.{JoinedValue}
use Rattle.rj_engine.specs.Partitioned.{rows_of_partition}
use Rattle.rj_engine.specs.Pools.{pieces_of_sizes}
use Rattle.rj_command.specs.Runs.{hash_value}
use Rattle.rj_command.specs.SuchRows.{unkept_side}
use Rattle.rj_command.proofs.join.running.stats_of.Goals as goal

pub returns : goal.returns
returns c =
    let o = c.args.operands.now in
    let q = c.args.request.now in
    let bits = q.settings.bits1 in
    let joined = c.requires.joined in
    let rows = c.in_ok-partitions.ensures in
    let many = ap length joined.left_sizes
    ∙ length-map-range_with_len (λ p. length (rows_of_partition (hash_value q.hash) bits o.left (map (λ (k : ℕ × ℕ). k.0) (keys_of o.join)) p)) 0 (2 ^ bits) in
    record {
      pairs = c.pairs.ensures ∙ ap (λ (m : JoinedValue). length m.pairs) joined.members;
      lone_left = c.lone_left.ensures ∙ ap (λ (m : JoinedValue). length m.lone_left) joined.members;
      lone_right = c.lone_right.ensures ∙ ap (λ (m : JoinedValue). length m.lone_right) joined.members;
      numbers = rows.numbers ∙ ap (range_with_len 0) many;
      lefts = rows.lefts ∙ joined.left_sizes;
      rights = rows.rights ∙ joined.right_sizes;
      pieces = c.pieces.ensures ∙ (joined.pieces ∙ ap₂ (pieces_of_sizes q.settings.piece) (sym rows.lefts) (sym rows.rights));
      tells_pieces = refl;
      report = c.in_ok-report.ensures;
      text_keys = c.in_ok-text_keys.ensures;
      unkept = c.unkept_side.ensures ∙ ap (unkept_side q.choice.rows) c.kind.ensures;
    }
