use Rattle.std.proofs.Common.{◌≡◌, ◌∙◌, ap, arith, drop, inl, inr, length, map, refl, sym}
use Rattle.std.proofs.lemmas.List.{length-map}
use Rattle.std.proofs.lemmas.Result.{IfErr-weaker, on_ok_weaker}
use Rattle.clap.proofs.BuiltLemmas.{on_ok_always}
use Rattle.shards.specs.Ranges.{mixed_shard, range_file}
use Rattle.shards.proofs.RangeFacts.{all-told, written-back, written-fault, written-parts}
use Rattle.shards.proofs.dividing.divide_among_parts.Goals as goal

pub returns-in_default-clause-fault : goal.returns-in_default-clause-fault
returns-in_default-clause-fault g c = inl (refl, ap (map g.S.Part.Output.told) c.new.ensures.items, refl)

pub returns-in-Ok-fill_parts-clause-count : goal.returns-in-Ok-fill_parts-clause-count
returns-in-Ok-fill_parts-clause-count g c =
    let items = c.in-Ok.parts.items in
    let new = c.fill_parts.new.outputs in
    let slice = ap length c.as_mut_slice.ensures.value in
    let size : c.in-Ok.parts.len ≡ length new = omega (arith, c.fill_parts.auto.outputs, c.in-Ok.parts.ok.0, slice) in
    on_ok_always c.print_counts-printed.result (ap length (written-back c.in-Ok.parts.len new (drop (length new) items) size) ∙ (omega (arith, c.fill_parts.auto.outputs, slice) ∙ c.in-Ok.ensures.count))

pub returns-in-Ok-fill_parts-clause-divided : goal.returns-in-Ok-fill_parts-clause-divided
returns-in-Ok-fill_parts-clause-divided g c =
    let range = c.args.range.now in
    let items = c.in-Ok.parts.items in
    let new = c.fill_parts.new.outputs in
    let size : c.in-Ok.parts.len ≡ length new = omega (arith, c.fill_parts.auto.outputs, c.in-Ok.parts.ok.0, ap length c.as_mut_slice.ensures.value) in
    on_ok_weaker c.print_counts-printed.result (λ printed. record {
      rows = c.in-Ok-fill_parts.counts.0;
      counted = c.in-Ok-fill_parts.ensures.counted;
      parted = λ tells.
          written-parts g.S.Part.Output.told (range_file (g.S.Storage.holds c.args.storage.now) range) range c.in-Ok-fill_parts.counts.0 c.in-Ok.parts.len _ _ _ items new (drop (length new) items)
          (ap (mixed_shard c.args.plan.now.0.parts) c.as_slice.ensures.value) c.as_mut_slice.ensures.value size c.in-Ok-fill_parts.ensures.parted (c.in-Ok.ensures.empty tells);
      printed = rw c.in-Ok-fill_parts.ensures.header at printed;
    }) c.print_counts-printed.ensures.printed

pub returns-in-Ok-fill_parts-clause-fault : goal.returns-in-Ok-fill_parts-clause-fault
returns-in-Ok-fill_parts-clause-fault g c =
    let told = g.S.Part.Output.told in
    let range = c.args.range.now in
    let items = c.in-Ok.parts.items in
    let new = c.fill_parts.new.outputs in
    let slice = ap length c.as_mut_slice.ensures.value in
    let size : c.in-Ok.parts.len ≡ length new = omega (arith, c.fill_parts.auto.outputs, c.in-Ok.parts.ok.0, slice) in
    let back = written-back c.in-Ok.parts.len new (drop (length new) items) size in
    let many = length-map _ told ∙ (ap length back ∙ (omega (arith, c.fill_parts.auto.outputs, slice) ∙ c.in-Ok.ensures.count)) in
    IfErr-weaker c.print_counts-printed.result _ _ (λ e why. inr (
      many,
      inr (
        c.in-Ok-fill_parts.counts.0,
        c.in-Ok-fill_parts.ensures.counted,
        (λ tells.
            written-parts told (range_file (g.S.Storage.holds c.args.storage.now) range) range c.in-Ok-fill_parts.counts.0 c.in-Ok.parts.len _ _ _ items new (drop (length new) items)
            (ap (mixed_shard c.args.plan.now.0.parts) c.as_slice.ensures.value) c.as_mut_slice.ensures.value size c.in-Ok-fill_parts.ensures.parted (c.in-Ok.ensures.empty tells)),
        why,
      ),
    )) c.print_counts-printed.ensures.fault

pub returns-in-Err-clause-fault : goal.returns-in-Err-clause-fault
returns-in-Err-clause-fault g c =
    let told = g.S.Part.Output.told in
    let range = c.args.range.now in
    let items = c.in-Ok.parts.items in
    let new = c.fill_parts.new.outputs in
    let slice = ap length c.as_mut_slice.ensures.value in
    let size : c.in-Ok.parts.len ≡ length new = omega (arith, c.fill_parts.auto.outputs, c.in-Ok.parts.ok.0, slice) in
    let back = written-back c.in-Ok.parts.len new (drop (length new) items) size in
    let many = length-map _ told ∙ (ap length back ∙ (omega (arith, c.fill_parts.auto.outputs, slice) ∙ c.in-Ok.ensures.count)) in
    let e = c.in-Err.failure in
    let had = length-map items told ∙ c.in-Ok.ensures.count in
    inr (
      many,
      inl (
        map told items,
        had ∙ sym many,
        (λ tells. all-told told items (c.in-Ok.ensures.empty tells)),
        written-fault told (range_file (g.S.Storage.holds c.args.storage.now) range) range c.in-Ok.parts.len _ _ _ items new (drop (length new) items) e
            (ap (mixed_shard c.args.plan.now.0.parts) c.as_slice.ensures.value) c.as_mut_slice.ensures.value size c.in-Err.ensures.fault,
        refl,
      ),
    )
