use Rattle.std.proofs.Common.{rules, ◌≡◌, ◌++◌, ◌∷◌, [], List, ℤ, ℕ, Option, Some, map}
use Rattle.std.proofs.lemmas.List.{map-append}
use Rattle.std.proofs.lemmas.Result.{on_ok_weaker}
use Rattle.rj_columns.specs.Contents.{decimal}
use Rattle.rj_columns.specs.Internal.Stores.{decimal_content}
use Rattle.rj_columns.proofs.LimitFacts.{decimal_limits}
use Rattle.rj_columns.proofs.column.push_decimal.Goals as goal

pub narrow-requires : goal.narrow-requires
narrow-requires c =
    let limits = decimal_limits c.args.kind c.in-Num.units c.in-Num.scale (rw c.in-Num.is at c.requires) in
    let small = limits.1 in
    search rules

-- one more decimal of the type's scale
added : (scale own : ℕ) (units : ℤ) (now new : List (Option ℤ)) → own ≡ scale → new ≡ now ++ Some units ∷ [] → map (decimal_content scale) new ≡ map (decimal_content scale) now ++ decimal units own ∷ []
added scale own units now new same pushed = rw (pushed, same) (map-append (decimal_content scale) now (Some units ∷ []))

pub returns-in-Num-clause-ok : goal.returns-in-Num-clause-ok
returns-in-Num-clause-ok c =
    let fits = rw c.in-Num.is at c.requires in
    let units : c.narrow.result ≡ c.in-Num.units = search rules in
    rw (c.in-Num.is, ← units) (on_ok_weaker c.push_number.result (added c.args.kind.scale c.in-Num.scale c.narrow.result c.args.numbers.now c.push_number.new.self fits.0) (search rules))
