use Rattle.std.proofs.Common.{◌≡◌, ℕ, List, Some, Err, map}
use Rattle.rj_columns.specs.declared.refused.BuildRefused.{BuildRefused}
use Rattle.rj_shards.specs.Divisions.{dividing, table_begun}
use Rattle.rj_shards.specs.Internal.Underway.{IsUnderway}
use Rattle.rj_shards.proofs.division.whole.divide.Given as goal

abbrev pub invariant-loop-turn : goal.invariant-loop-turn
invariant-loop-turn g l = record {
  underway : (text : List ℕ) → g.I.Input.tells l.fn.input ≡ Some text
      → IsUnderway (dividing g.R.Route.part l.division) l.fn.reading (record { text = text; told = map g.O.Output.told l.fn.outputs }) (g.I.Input.tells l.input) l.rest (map g.O.Output.told l.outputs) l._turn;
  reads : g.I.Input.count l.input ≡ g.I.Input.count l.fn.input;
  writes : map g.O.Output.count l.outputs ≡ map g.O.Output.count l.fn.outputs;
  untouched : (b : BuildRefused) → table_begun l.division ≡ Err b → (l._turn ≡ 0) × (l.rest.rows ≡ 0) × (l.outputs ≡ l.fn.outputs);
}
