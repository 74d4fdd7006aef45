use Rattle.std.proofs.Common.{◌≡◌, length, map, take}
use Rattle.std.specs.Io.KnownBytes.{Appends}
use Rattle.std.specs.List.{concat}
use Rattle.rj_csv_io.proofs.texts.put_all.Given as goal

abbrev pub invariant-loop-i : goal.invariant-loop-i
invariant-loop-i g l = record {
  told : Appends (g.O.Output.told l.fn.output) (g.O.Output.told l.output) (concat (map (λ t. t.items) (take l.i l.texts)));
  count : g.O.Output.count l.output ≡ g.O.Output.count l.fn.output;
  end : l.i-end ≡ length l.texts;
}
