use Rattle.std.proofs.Common.{◌≡◌, take, string_bytes}
use Rattle.shards.specs.Cuts.{place_lines}
use Rattle.shards.proofs.cutting.lines_of.Given as goal

abbrev pub invariant-loop-cut : goal.invariant-loop-cut
invariant-loop-cut l = string_bytes l.text ≡ place_lines l.begin l.end (take l.cut-index l.cuts)
