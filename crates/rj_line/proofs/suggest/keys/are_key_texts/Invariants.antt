use Rattle.std.proofs.Common.{◌≡◌, length}
use Rattle.std.specs.Prelude.{nat_eq}
use Rattle.std.specs.Cmp.Lexicographic.{pointwise}
use Rattle.std.specs.HashSet.{contains}
use Rattle.rj_line.specs.Keys.{IsKeyAbove}
use Rattle.rj_line.proofs.KeyFacts.{AreSeen, has_text}
use Rattle.rj_line.proofs.suggest.keys.are_key_texts.Given as goal

abbrev pub invariant-loop-row : goal.invariant-loop-row
invariant-loop-row l = record {
  end : l.row-end ≡ length l.table.rows;
  above : IsKeyAbove l.table l.col l.row;
  seen : AreSeen has_text l.table l.col l.row (contains (λ x y. pointwise nat_eq x.now y.now) l.seen);
}
