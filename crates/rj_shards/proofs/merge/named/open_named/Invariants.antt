use Rattle.std.proofs.Common.{◌≡◌, map, take}
use Rattle.rj_shards.specs.Inputs.{copies_of}
use Rattle.rj_shards.specs.Named.{AreOpened}
use Rattle.rj_shards.proofs.merge.named.open_named.Given as goal

abbrev pub invariant-names : goal.invariant-names
invariant-names g l = record {
  opened : AreOpened (g.P.Opener.opens l.opener) (map (λ n. n.now) (take l.i l.names)) l.inputs.items;
  copies : copies_of l.inputs.items ≡ take l.i l.copies;
  number : l.number ≡ l.i;
}
