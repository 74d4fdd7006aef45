use Rattle.std.proofs.Common.{◌≡◌, ℕ, length, map, take, Some}
use Rattle.std.specs.List.{concat}
use Rattle.rj_csv_io.specs.Internal.StrictWalk.{AreWalked, walk}
use Rattle.rj_csv_io.specs.declared.strict.standing.Place.TheVariants as place
use Rattle.rj_csv_io.proofs.strict.parts.place_after_all.Given as goal

abbrev pub invariant-loop-i : goal.invariant-loop-i
invariant-loop-i l = record {
  end : l.i-end ≡ length l.texts;
  walked : (d : ℕ) → AreWalked d (map (λ t. t.now) l.texts) l.places → walk d place.Start (concat (take l.i (map (λ t. t.now) l.texts))) ≡ Some l.place;
}
