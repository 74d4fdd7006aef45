use Rattle.std.proofs.Common.{◌≡◌, ◌∷◌, [], map}
use Rattle.rj_csv_io.specs.Ends.{nulls}
use Rattle.rj_csv_io.specs.Shown.{shown}
use Rattle.rj_csv_io.proofs.ends.null_end.Given as goal

abbrev pub invariant-loop-column : goal.invariant-loop-column
invariant-loop-column l = map (λ f. f.now) l.fields.items ≡ [] ∷ map (shown l.format.null.now) (nulls l._column)
