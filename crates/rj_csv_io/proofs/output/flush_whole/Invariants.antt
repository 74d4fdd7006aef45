use Rattle.std.specs.Io.KnownBytes.{Keeps}
use Rattle.rj_csv_io.proofs.output.flush_whole.Given as goal

abbrev pub invariant-loop-turn : goal.invariant-loop-turn
invariant-loop-turn g l = Keeps (g.W.Write.contents l.fn.writer) (g.W.Write.contents l.writer)
