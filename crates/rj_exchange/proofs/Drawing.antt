-- Each step on the ticket word keeps its rule.
use Rattle.std.proofs.Common.{◌≡◌, ℕ, suc, ◌+◌, ◌%◌, ◌<◌, ◌≤◌, min, List, [], ◌∷◌, ◌++◌, length, get_or, set, sym, refl, ap, ◌∙◌, subst, ⊎_elim, arith, length-set, length-append, get_or-set_same, lt_of_not-le}
use mathlib.Core.Option.{none, some}
use mathlib.Core.Logic.{dite}
use native.Mathlib.Decide.{dec_le}
use lib.ListN.{get_elem?}
use Rattle.atomic_table.specs.Table.{State, Me, step, keeps, stepped, Allows, Splits, Joins}
use Rattle.atomic_table.proofs.Lists.{at_set, at_snoc}
use Rattle.rj_exchange.specs.declared.tickets.Draw.{Draw}
use Rattle.rj_exchange.specs.declared.tickets.Plan.{Plan}
use Rattle.rj_exchange.specs.Totals.{total, total_below}
use Rattle.rj_exchange.specs.Drawing.{draw, Fits, Drawing, drew, draw_after_cut, draw_cut_off, draws_joined, no_draw}
use Rattle.rj_exchange.proofs.Totals.{total-append, total-snoc, total-set, total-plus, total-one, total-same, total_le, sole, below_ones}

abbrev St : Type 0
St = State (Unit {0}) Draw

abbrev M : Type 0
M = Me (Unit {0}) Draw

-- the word counts at most the numbers and the seats
pub bounded : (k : Plan) (s : St) → Drawing k s → get_or s.words 0 0 ≤ k.limit + k.seats
bounded k s r = let split = total-plus (λ (v : Draw). length v.drawn) (λ v. v.nones) s.views in let few = total_le (λ (v : Draw). v.nones) (λ v. v.parts) s.views (λ i v at. (r.fits i v at).0) in
    let drawn = r.numbers (λ _. 1) in let ones = total-same (λ (v : Draw). total (λ _. 1) v.drawn) (λ v. length v.drawn) s.views (λ v. total-one v.drawn) in
    let below = below_ones (min (get_or s.words 0 0) k.limit) in let p = r.parts in let q = r.steps in omega arith

-- one seat's view becomes w, and the word n
moved : (k : Plan) (s : St) (r : Drawing k s) (n id : ℕ) (c : List (ℕ × Unit {0})) (v w : Draw) → get_elem? s.views id ≡ some v → w.parts ≡ v.parts → get_or s.words 0 0 ≤ n
    → (length w.drawn + w.nones) + get_or s.words 0 0 ≡ (length v.drawn + v.nones) + n
    → ((h : ℕ → ℕ) → total h w.drawn + total_below h (min (get_or s.words 0 0) k.limit) ≡ total h v.drawn + total_below h (min n k.limit)) → Fits k n w → Drawing k (stepped s 0 n id c w keeps)
moved k s r n id c v w at same more count numbers fit = let one = r.one_word in let is : get_or (set s.words 0 n) 0 0 ≡ n = get_or-set_same s.words 0 n 0 (omega arith) in record {
  one_word = length-set s.words 0 n ∙ r.one_word;
  parts = (let t = total-set (λ (u : Draw). u.parts) s.views id v w at in let p = r.parts in omega arith);
  steps = is ∙ (let t = total-set (λ (u : Draw). length u.drawn + u.nones) s.views id v w at in let p = r.steps in omega arith);
  numbers = λ h. (let t = total-set (λ (u : Draw). total h u.drawn) s.views id v w at in let p = r.numbers h in let q = numbers h in
      let e : total_below h (min n k.limit) ≡ total_below h (min (get_or (set s.words 0 n) 0 0) k.limit) = ap (λ z. total_below h (min z k.limit)) (sym is) in omega arith);
  fits = λ j u e. subst (λ z. Fits k z u) (sym is) (⊎_elim (λ x. subst (Fits k n) x.1 fit) (λ x. let f = r.fits j u x.1 in (f.0, (λ some_left. let y = f.1 some_left in omega arith), f.2)) (at_set s.views id j w u e));
}

pub draws : (k : Plan) (slots id : ℕ) (me : M) → me.0.parts ≡ 1 → me.0.nones ≡ 0 → me.0.limit ≡ k.limit → k.limit ≤ 4294967296 → k.seats ≤ 256
    → Allows (Drawing k) slots id me 0 (λ x. (x + 1) % 18446744073709551616) (drew (step slots 0 1 0 none) me)
draws k slots id me one fresh limit low few s r _ at small = let x : ℕ = get_or s.words 0 0 in let b = bounded k s r in let is : x + 1 ≡ (x + 1) % 18446744073709551616 = omega arith in
    let v : Draw = me.0 in let Goal : Draw → Type 0 = λ w. Drawing k (stepped s 0 ((x + 1) % 18446744073709551616) id me.1 w keeps) in
    let put = λ (w : Draw) (d : Drawing k (stepped s 0 (x + 1) id me.1 w keeps)). let g : Goal w = subst (λ z. Drawing k (stepped s 0 z id me.1 w keeps)) is d in g in
    dite (dec_le k.limit x)
    (λ none_left. let w : Draw = draw v.limit v.parts v.drawn (v.nones + 1) in (
      w,
      keeps,
      tt,
      put w (moved k s r (x + 1) id me.1 v w at refl (omega arith) (omega arith)
          (λ h. let m : min x k.limit ≡ min (x + 1) k.limit = omega arith in let e = ap (total_below h) m in omega arith)
          ((omega arith), (λ _. omega arith), (λ z. absurd (omega arith)))),
      ((λ lt. absurd (omega arith)), (λ _. refl), refl),
    ))
    (λ some_left. let w : Draw = draw v.limit v.parts (v.drawn ++ x ∷ []) v.nones in let lt : x < k.limit = lt_of_not-le some_left in (
      w,
      keeps,
      tt,
      put w (moved k s r (x + 1) id me.1 v w at refl (omega arith) (let l = length-append v.drawn (x ∷ []) in omega arith)
          (λ h. let m : min x k.limit ≡ x = omega arith in let m' : min (x + 1) k.limit ≡ suc x = omega arith in let e = ap (total_below h) m in
          let e' = ap (total_below h) m' in let t = total-snoc h v.drawn x in omega arith)
          ((omega arith), (λ any. absurd (omega arith)), (λ z. absurd (omega arith)))),
      ((λ _. refl), (λ le. absurd (omega arith)), refl),
    ))

pub cuts : (k : Plan) (id : ℕ) (v : Draw) → 1 < v.parts → v.nones ≡ 0 → Splits (Drawing k) id v (draw_after_cut v) (draw_cut_off v)
cuts k id v some_parts fresh s r at = let l : Draw = draw_after_cut v in let c : Draw = draw_cut_off v in let vs : List Draw = set s.views id l in record {
  one_word = r.one_word;
  parts = (let t = total-set (λ (u : Draw). u.parts) s.views id v l at in let a = total-snoc (λ (u : Draw). u.parts) vs c in let p = r.parts in omega arith);
  steps = (let t = total-set (λ (u : Draw). length u.drawn + u.nones) s.views id v l at in let a = total-snoc (λ (u : Draw). length u.drawn + u.nones) vs c in let p = r.steps in omega arith);
  numbers = λ h. (let t = total-set (λ (u : Draw). total h u.drawn) s.views id v l at in let a = total-snoc (λ (u : Draw). total h u.drawn) vs c in let p = r.numbers h in omega arith);
  fits = λ j u e. ⊎_elim
      (λ old. ⊎_elim (λ x. subst (Fits k (get_or s.words 0 0)) x.1 ((omega arith), (λ z. absurd (omega arith)), λ z. absurd (omega arith))) (λ x. r.fits j u x.1) (at_set s.views id j l u old))
      (λ is. subst (Fits k (get_or s.words 0 0)) is ((omega arith), (λ z. absurd (omega arith)), λ z. refl))
      (at_snoc vs c u j e);
}

none_of_both : (a b : List ℕ) → a ≡ [] → b ≡ [] → a ++ b ≡ []
none_of_both a b e f = (λ i. e i ++ f i)

past : (k : Plan) (word : ℕ) (v w : Draw) → Fits k word v → Fits k word w → 0 < v.nones + w.nones → k.limit ≤ word
past k word v w fv fw some_none = dite (dec_le 1 v.nones) (λ a. fv.1 a) (λ b. fw.1 (omega arith))

pub merges : (k : Plan) (id : ℕ) (v : Draw) (other : ℕ) (w : Draw) → Joins (Drawing k) id v other w (draws_joined v w) no_draw
merges k id v other w s r at apart at' = let b : Draw = draws_joined v w in let vs : List Draw = set s.views id b in let theirs : get_elem? s.views other ≡ some w = ⊎_elim (λ x. absurd (apart x.0)) (λ x. x.1) (at_set s.views id other b w at') in
    let fv = r.fits id v at in let fw = r.fits other w theirs in record {
      one_word = r.one_word;
      parts = (let t = total-set (λ (u : Draw). u.parts) s.views id v b at in let a = total-set (λ (u : Draw). u.parts) vs other w no_draw at' in let p = r.parts in omega arith);
      steps = (let t = total-set (λ (u : Draw). length u.drawn + u.nones) s.views id v b at in let a = total-set (λ (u : Draw). length u.drawn + u.nones) vs other w no_draw at' in
          let n = length-append v.drawn w.drawn in let p = r.steps in omega arith);
      numbers = λ h. (let t = total-set (λ (u : Draw). total h u.drawn) s.views id v b at in let a = total-set (λ (u : Draw). total h u.drawn) vs other w no_draw at' in
          let n = total-append h v.drawn w.drawn in let p = r.numbers h in omega arith);
      fits = λ j u e. ⊎_elim (λ x. subst (Fits k (get_or s.words 0 0)) x.1 ((omega arith), (λ z. absurd (omega arith)), λ z. refl))
          (λ x. ⊎_elim (λ y. subst (Fits k (get_or s.words 0 0)) y.1 ((let p = fv.0 in let q = fw.0 in omega arith), (λ z. past k (get_or s.words 0 0) v w fv fw z), λ z. none_of_both _ _ (fv.2 (omega arith)) (fw.2 (omega arith))))
          (λ y. r.fits j u y.1) (at_set s.views id j b u x.1))
          (at_set vs other j no_draw u e);
    }

-- a seat with every part knows all that was drawn
pub knows : (k : Plan) (s : St) (id : ℕ) (v : Draw) → Drawing k s → get_elem? s.views id ≡ some v → v.parts ≡ k.seats → (h : ℕ → ℕ) → total h v.drawn ≡ total_below h (min (get_or s.words 0 0) k.limit)
knows k s id v r at all h = let e = sole (λ (u : Draw). u.parts) (λ u. total h u.drawn) s.views id v at (r.parts ∙ sym all) (λ j w at_w none_of. ap (total h) ((r.fits j w at_w).2 none_of)) in let n = r.numbers h in omega arith
