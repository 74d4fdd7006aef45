use Rattle.std.proofs.Common.{◌≡◌, length, map}
use Rattle.rj_shards.specs.Headers.{header_text}
use Rattle.rj_shards.proofs.PutFacts.{Have, Wait}
use Rattle.rj_shards.proofs.division.header.write_headers.Given as goal

abbrev pub invariant-loop-part : goal.invariant-loop-part
invariant-loop-part g l = record {
  end : l.part-end ≡ length l.fn.outputs;
  text : l.text.items ≡ header_text l.table l.name;
  counts : map g.O.Output.count l.outputs ≡ map g.O.Output.count l.fn.outputs;
  have : Have g.O.Output.told (λ p. header_text l.table l.name) l.fn.outputs l.outputs l.part;
  wait : Wait g.O.Output.told (λ p. header_text l.table l.name) l.fn.outputs l.outputs l.part;
}
