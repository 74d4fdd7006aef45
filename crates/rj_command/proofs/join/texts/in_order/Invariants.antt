use Rattle.std.proofs.Common.{◌≡◌, ℕ, List, drop, length, map, take}
use Rattle.std.specs.List.{concat}
use Rattle.rj_engine.specs.declared.runs.Run.{Run}
use Rattle.rj_command.specs.Internal.Texts.{AreCounted, AreTextsOf, whole_text}
use Rattle.rj_command.proofs.join.texts.in_order.Given as goal

abbrev pub invariant-loop-run : goal.invariant-loop-run
invariant-loop-run l = record {
  many : length l.made.items ≡ length l.fn.made.items;
  count : AreCounted (drop l.run-index l.runs) l.made.items;
  texts : (text : Run → List ℕ) → AreTextsOf text l.runs l.fn.made.items
      → AreTextsOf text (drop l.run-index l.runs) l.made.items × (whole_text l.texts ≡ concat (map text (take l.run-index l.runs)));
}
