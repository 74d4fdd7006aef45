use Rattle.std.proofs.Common.{◌≡◌}
use Rattle.rj_shards.specs.declared.merge.place.Place.{Place}
use Rattle.rj_shards.specs.Inputs.{input_reading, input_tells}
use Rattle.rj_shards.specs.Places.{IsAbove}
use Rattle.rj_shards.proofs.merge.input.TextSourceSource.next.Given as goal

abbrev pub invariant-rows : goal.invariant-rows
invariant-rows g l = record {
  tells : input_tells g.R.Read.remaining l.fn.self → input_tells g.R.Read.remaining l.self;
  rows : input_tells g.R.Read.remaining l.fn.self → (input_reading g.R.Read.remaining l.fn.self).rows ≡ (input_reading g.R.Read.remaining l.self).rows;
  fault : input_tells g.R.Read.remaining l.fn.self → (input_reading g.R.Read.remaining l.fn.self).fault ≡ (input_reading g.R.Read.remaining l.self).fault;
  columns : l.whole.value.columns ≡ l.self.columns;
  copies : l.self.copies ≡ l.fn.self.copies;
  number : l.self.input ≡ l.fn.self.input;
  above : (place : Place) → IsAbove l.self.last place → IsAbove l.fn.self.last place;
}
