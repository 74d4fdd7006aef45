use Rattle.std.proofs.Common.{◌≡◌, [], Some, arith, length, rules, sym}
use Rattle.std.specs.Prelude.{slice_get, slice_index_or}
use Rattle.std.proofs.lemmas.Iterator.{YieldsList-from_map_by, YieldsList-from_range}
use Rattle.std.proofs.lemmas.Iterator.Consumers.{map_from_collect}
use Rattle.std.proofs.lemmas.Option.{get_or_from_slice_get}
use Rattle.rj_explain.proofs.selected.names_of.Goals as goal

pub returns : goal.returns
returns c =
    let table = c.args.table.now in
    let columns = length table.types in
    map_from_collect _ c.collect.ensures.ran
    (YieldsList-from_map_by _ (λ n. n.now) (λ i. slice_index_or table.names i [])
    (YieldsList-from_range 0 c.columns.result columns (cc) (omega (arith, c.columns.ensures.count))) c.map.ensures.closure
    (λ i name q k. let named : slice_get table.names i ≡ Some name.now = search rules in
    (search rules, sym (get_or_from_slice_get table.names i name.now [] named))))
