use Rattle.std.proofs.Common.{◌≡◌, ◌<◌, ◌≤◌, ◌-◌, ◌^◌, All, length}
use Rattle.shards.proofs.files.part_files.Given as goal

abbrev pub invariant-loop-part : goal.invariant-loop-part
invariant-loop-part g l = record {
  count : length l.files.items ≡ l.part-counter;
  within : l.part-counter ≤ l.parts;
}
