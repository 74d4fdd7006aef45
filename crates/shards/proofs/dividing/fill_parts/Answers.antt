use Rattle.std.proofs.Common.{◌≡◌, length, map, arith, inl, inr}
use Rattle.std.proofs.lemmas.List.{length-map}
use Rattle.shards.specs.Ranges.{range_file}
use Rattle.shards.proofs.RangeFacts.{all-rows, all-told, parted}
use Rattle.shards.proofs.dividing.fill_parts.Goals as goal

pub returns-in-Err-clause-fault : goal.returns-in-Err-clause-fault
returns-in-Err-clause-fault g c = inl c.in-Err.ensures.fault

pub returns-in-Ok-divide_rows-clause-parted : goal.returns-in-Ok-divide_rows-clause-parted
returns-in-Ok-divide_rows-clause-parted g c = λ none.
    let told = g.O.Output.told in
    let before = c.args.outputs.now in
    let mid = c.put_headers.new.outputs in
    let after = c.divide_rows.new.outputs in
    let same : length (map told mid) ≡ length (map told before) = omega (arith, length-map before told, length-map mid told, c.put_headers.auto.outputs) in
    let alike : length (map told after) ≡ length (map told mid) = omega (arith, length-map mid told, length-map after told, c.divide_rows.auto.outputs) in
    parted (range_file (g.S.Storage.holds c.args.storage.now) c.args.range.now) (g.W.Route.part c.args.route.now) c.args.range.now (map told before) (map told mid) (map told after) c.in-Ok-divide_rows.rows
    (all-told told before none) same alike c.in-Ok.ensures.told c.in-Ok-divide_rows.ensures.divided

pub returns-in-Ok-divide_rows-clause-counted : goal.returns-in-Ok-divide_rows-clause-counted
returns-in-Ok-divide_rows-clause-counted g c =
    all-rows (g.W.Route.part c.args.route.now) (range_file (g.S.Storage.holds c.args.storage.now) c.args.range.now) c.args.range.now _ _ c.in-Ok-divide_rows.rows c.in-Ok-divide_rows.ensures.divided

pub returns-in-Err-divide_rows-clause-fault : goal.returns-in-Err-divide_rows-clause-fault
returns-in-Err-divide_rows-clause-fault g c =
    let told = g.O.Output.told in
    let before = c.args.outputs.now in
    let mid = c.put_headers.new.outputs in
    let same : length (map told mid) ≡ length (map told before) = omega (arith, length-map before told, length-map mid told, c.put_headers.auto.outputs) in
    inr (map told mid, same, c.in-Ok.ensures.told, c.in-Err-divide_rows.ensures.fault)
