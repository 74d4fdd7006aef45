-- What is made of two tables before what is chosen of their joined table is written. Internal: no public contract uses it.
use Rattle.std.specs.Prelude.{◌≡◌, map, string_bytes}
use Rattle.rj_condition.specs.Splits.{keys_of}
use Rattle.rj_engine.specs.Chosen.{chosen_view}
use Rattle.rj_engine.specs.Join.{Outcome}
use Rattle.rj_engine.specs.Partitioned.{sizes_of}
use Rattle.rj_engine.specs.Pools.{pieces_of_sizes}
use Rattle.rj_engine.specs.Results.{joined_of}
use Rattle.rj_engine.specs.Shown.{IsShownOf, shown_view}
use Rattle.rj_engine.specs.declared.shown.Shown.{Shown}
use Rattle.rj_line.specs.declared.request.Request.{Request}
use Rattle.rj_command.specs.Expected.{IsExpected}
use Rattle.rj_command.specs.Runs.{AreNames, IsCounted, IsToldApart, hash_value}
use Rattle.rj_command.specs.declared.join.operands.Operands.{Operands}
use Rattle.rj_command.specs.declared.join.running.Prepared.{Prepared}

-- what is joined of the operands: the members of their joined table, and by the hash that is asked for how many rows of each table each
-- partition had and how many pieces there were
pub record IsOutcome (q : Request) (o : Operands) (j : Outcome) : Type 0 where
  pub members : j.members ≡ joined_of o.join o.left o.right
  pub left_sizes : j.left_sizes ≡ sizes_of (hash_value q.hash) q.settings.bits1 o.left (map (λ k. k.0) (keys_of o.join))
  pub right_sizes : j.right_sizes ≡ sizes_of (hash_value q.hash) q.settings.bits1 o.right (map (λ k. k.1) (keys_of o.join))
  pub pieces : j.pieces ≡ pieces_of_sizes q.settings.piece j.left_sizes j.right_sizes

-- what is shown of it is what is asked for, and its NULLs can be told from its cells
pub record IsChosen (q : Request) (o : Operands) (j : Outcome) (s : Shown) : Type 0 where
  pub there : IsShownOf o.left o.right j.members s
  pub shown : shown_view s o.left o.right j.members ≡ chosen_view q.choice o.join o.left o.right
  pub told_apart : IsToldApart q.strict q.out_null.now (chosen_view q.choice o.join o.left o.right).cells

-- the names of its columns, what is shown of it and what is counted of it are those that are asked for, and it is as expected
pub record IsPrepared (q : Request) (o : Operands) (p : Prepared) : Type 0 where
  pub counted : IsCounted (hash_value q.hash) q o.left o.right o.join p.stats
  pub expected : IsExpected q o.join o.left o.right
  pub named : AreNames q o.join o.left o.right (map string_bytes p.chosen.names.items)
  pub chosen : IsChosen q o p.chosen.joined p.chosen.shown
