use Rattle.std.proofs.Common.{◌≡◌, length, map}
use Rattle.rj_shards.specs.Divisions.{part_text}
use Rattle.rj_shards.proofs.PutFacts.{Have, Wait}
use Rattle.rj_shards.proofs.division.table.divide_table.Given as goal

abbrev pub invariant-loop-part : goal.invariant-loop-part
invariant-loop-part g l = record {
  end : l.part-end ≡ length l.fn.outputs;
  counts : map g.O.Output.count l.outputs ≡ map g.O.Output.count l.fn.outputs;
  have : Have g.O.Output.told (λ p. part_text l.null (g.R.Route.part l.route) p l.first l.table.rows) l.fn.outputs l.outputs l.part;
  wait : Wait g.O.Output.told (λ p. part_text l.null (g.R.Route.part l.route) p l.first l.table.rows) l.fn.outputs l.outputs l.part;
}
