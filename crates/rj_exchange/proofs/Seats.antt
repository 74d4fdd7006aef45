-- Lists of seats.
use Rattle.std.proofs.Common.{◌≡◌, ℕ, ◌+◌, ◌<◌, ◌≤◌, min, List, [], ◌∷◌, ◌++◌, map, length, get_or, refl, ap, ◌∙◌, cond, arith}
use mathlib.Core.Option.{some}
use lib.ListN.{get_elem?}
use Rattle.atomic_table.specs.Seated.{TableId}
use Rattle.atomic_table.specs.Table.{Final, Seen}
use Rattle.rj_exchange.specs.declared.tickets.Seat.{Seat}
use Rattle.rj_exchange.specs.declared.tickets.Plan.{Plan}
use Rattle.rj_exchange.specs.declared.tickets.Draw.{Draw}
use Rattle.rj_exchange.specs.Totals.{total, total_below}
use Rattle.rj_exchange.specs.Drawing.{Drawing}
use Rattle.rj_exchange.specs.Tickets.{drawn_by, EachOnce, AnySpent, times}
use Rattle.rj_exchange.proofs.Totals.{total-snoc, one_le_total, below_over, below_under, here, index_of}
use Rattle.rj_exchange.proofs.Drawing.{knows}

abbrev pub IsAt : TableId → Seat → Type 0
IsAt z s = s.seat.table_id ≡ z

abbrev pub IsDealt : TableId → ℕ → Seat → Type 0
IsDealt z n s = (s.seat.table_id ≡ z) × (s.seat.me.0.limit ≡ n)

abbrev pub nones : Seat → ℕ
nones s = s.seat.me.0.nones

pub popped : {A : Type 0} (f : A → ℕ) (xs ys : List A) (s : A) → xs ≡ ys ++ s ∷ [] → total f xs ≡ total f ys + f s
popped f xs ys s e = ap (total f) e ∙ total-snoc f ys s

pub total-map : {A B : Type 0} (f : B → ℕ) (g : A → B) (xs : List A) → total f (map g xs) ≡ total (λ x. f (g x)) xs
total-map f g [] = refl
total-map f g (x ∷ xs) = ap (λ n. f (g x) + n) (total-map f g xs)

pub each_once : (m : ℕ) (v : List ℕ) (ss : List Seat) → ((h : ℕ → ℕ) → total h v ≡ total_below h m) → ((h : ℕ → ℕ) → total h v + 0 ≡ total (λ s. total h (drawn_by s)) ss) → EachOnce m (map drawn_by ss)
each_once m v ss below all x = let f : ℕ → ℕ = here x in let a = below f in let b = all f in let e = total-map (times x) drawn_by ss in
    ((λ lt. let u = below_under x m lt in omega arith), (λ le. let u = below_over x m le in omega arith))

pub closes : (k : Plan) (ws : List ℕ) (xs : List (Unit {0})) (id : ℕ) (v : Draw) (word : ℕ) → Final (Seen (Drawing k) id v) ws xs → v.parts ≡ k.seats → get_elem? ws 0 ≡ some word
    → ((h : ℕ → ℕ) → total h v.drawn ≡ total_below h (min word k.limit)) × (0 < v.nones → k.limit ≤ word)
closes k ws xs id v word f all at = let is : get_or f.0.words 0 0 ≡ word = index_of f.0.words word (ap (λ l. get_elem? l 0) f.2 ∙ at) in
    ((λ h. knows k f.0 id v f.1.0 f.1.1 all h ∙ ap (λ z. total_below h (min z k.limit)) is), λ some_none. let b = (f.1.0.fits id v f.1.1).1 some_none in omega arith)

pub any_none : (ss : List Seat) → AnySpent ss → 0 < total nones ss
any_none ss any = let s : Seat = any.1 in let one : nones s ≡ 1 = s.tells ∙ ap (λ b. cond b 1 0) any.3 in let le = one_le_total nones ss any.0 s any.2 in omega arith

pub ends : {A : Type 0} (f : A → ℕ) (xs : List A) → length xs ≡ 0 → total f xs ≡ 0
ends f [] e = refl
ends f (x ∷ xs) e = absurd (omega arith)
