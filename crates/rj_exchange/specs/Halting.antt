-- The rule of the halt word, and what its steps tell.
use Rattle.std.specs.Prelude.{◌≡◌, ℕ, ◌<◌, length, slice_index}
use mathlib.Core.Option.{some}
use lib.ListN.{get_elem?}
use Rattle.atomic_table.specs.Table.{State, Me, Step}
use Rattle.rj_exchange.specs.declared.halt.HaltToken.{HaltToken}
use Rattle.rj_exchange.specs.Totals.{total}

abbrev pub halt_token : ℕ → ℕ → ℕ → HaltToken
halt_token parts raises sees = record { parts = parts; raises = raises; sees = sees }

-- the word is raised exactly if some seat raised it; if a seat has seen it raised, it is raised
pub record Halting (seats : ℕ) (s : State (Unit {0}) HaltToken) : Type 0 where
  pub one_word : length s.words ≡ 1
  pub parts : total (λ v. v.parts) s.views ≡ seats
  pub raised : 0 < slice_index s.words 0 → 0 < total (λ v. v.raises) s.views
  pub by_some : 0 < total (λ v. v.raises) s.views → 0 < slice_index s.words 0
  pub seen : (id : ℕ) (v : HaltToken) → get_elem? s.views id ≡ some v → 0 < v.sees → 0 < slice_index s.words 0
  pub idle : (id : ℕ) (v : HaltToken) → get_elem? s.views id ≡ some v → v.parts ≡ 0 → v.raises ≡ 0

abbrev pub raising : Step (Unit {0}) → Me (Unit {0}) HaltToken → ℕ → Me (Unit {0}) HaltToken → Type 0
raising st m r m' = m' ≡ (halt_token m.0.parts 1 m.0.sees, m.1)

abbrev pub looking : Step (Unit {0}) → Me (Unit {0}) HaltToken → ℕ → Me (Unit {0}) HaltToken → Type 0
looking st m r m' = (0 < r → m' ≡ (halt_token m.0.parts m.0.raises 1, m.1)) × (r ≡ 0 → m' ≡ m)
