-- The rule of the ticket word, and what its steps tell.
use Rattle.std.specs.Prelude.{◌≡◌, ℕ, ◌+◌, ◌-◌, ◌<◌, ◌≤◌, min, List, [], ◌∷◌, ◌++◌, length, slice_index}
use mathlib.Core.Option.{some}
use lib.ListN.{get_elem?}
use Rattle.atomic_table.specs.Table.{State, Me, Step}
use Rattle.rj_exchange.specs.declared.tickets.Draw.{Draw}
use Rattle.rj_exchange.specs.declared.tickets.Plan.{Plan}
use Rattle.rj_exchange.specs.Totals.{total, total_below}

abbrev pub draw : ℕ → ℕ → List ℕ → ℕ → Draw
draw limit parts drawn nones = record { limit = limit; parts = parts; drawn = drawn; nones = nones }

-- a seat that drew nothing has learned that no number is left, and one with no part has drawn nothing
abbrev pub Fits : Plan → ℕ → Draw → Type 0
Fits k word v = (v.nones ≤ v.parts) × (0 < v.nones → k.limit ≤ word) × (v.parts ≡ 0 → v.drawn ≡ [])

-- the numbers below both the word and the limit are drawn, each by one seat; the word counts the steps
pub record Drawing (k : Plan) (s : State (Unit {0}) Draw) : Type 0 where
  pub one_word : length s.words ≡ 1
  pub parts : total (λ v. v.parts) s.views ≡ k.seats
  pub steps : slice_index s.words 0 ≡ total (λ v. length v.drawn + v.nones) s.views
  pub numbers : (h : ℕ → ℕ) → total (λ v. total h v.drawn) s.views ≡ total_below h (min (slice_index s.words 0) k.limit)
  pub fits : (id : ℕ) (v : Draw) → get_elem? s.views id ≡ some v → Fits k (slice_index s.words 0) v

abbrev pub opening_view : Plan → Draw
opening_view k = draw k.limit k.seats [] 0

-- a draw gives the number found, if it is below the limit
abbrev pub drew : Step (Unit {0}) → Me (Unit {0}) Draw → ℕ → Me (Unit {0}) Draw → Type 0
drew st m r m' =
    (r < m.0.limit → m'.0 ≡ draw m.0.limit m.0.parts (m.0.drawn ++ r ∷ []) m.0.nones)
    × (m.0.limit ≤ r → m'.0 ≡ draw m.0.limit m.0.parts m.0.drawn (m.0.nones + 1))
    × (m'.1 ≡ m.1)

abbrev pub draw_after_cut : Draw → Draw
draw_after_cut v = draw v.limit (v.parts - 1) v.drawn v.nones

abbrev pub draw_cut_off : Draw → Draw
draw_cut_off v = draw v.limit 1 [] 0

abbrev pub draws_joined : Draw → Draw → Draw
draws_joined v w = draw v.limit (v.parts + w.parts) (v.drawn ++ w.drawn) (v.nones + w.nones)

abbrev pub no_draw : Draw
no_draw = draw 0 0 [] 0
