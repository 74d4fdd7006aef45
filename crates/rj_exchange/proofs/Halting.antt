-- Each step on the halt word keeps its rule.
use Rattle.std.proofs.Common.{◌≡◌, ℕ, ◌+◌, ◌-◌, ◌<◌, ◌≤◌, ◌⊎◌, inl, inr, max, List, get_or, set, sym, refl, ap, ◌∙◌, subst, ⊎_elim, arith, length-set, get_or-set_same}
use mathlib.Core.Option.{none, some}
use mathlib.Core.Logic.{dite}
use native.Mathlib.Decide.{dec_le}
use lib.ListN.{get_elem?}
use Rattle.atomic_table.specs.Table.{State, Me, step, keeps, stepped, Allows, Splits, Joins, Final, Seen}
use Rattle.atomic_table.proofs.Lists.{at_set, at_snoc}
use Rattle.rj_exchange.specs.declared.halt.HaltToken.{HaltToken}
use Rattle.rj_exchange.specs.Halting.{halt_token, Halting, raising, looking}
use Rattle.rj_exchange.proofs.Totals.{total-snoc, total-set, one_le_total, sole, index_of}

abbrev St : Type 0
St = State (Unit {0}) HaltToken

abbrev M : Type 0
M = Me (Unit {0}) HaltToken

moved : (k : ℕ) (s : St) (r : Halting k s) (n id : ℕ) (c : List (ℕ × Unit {0})) (v w : HaltToken) → get_elem? s.views id ≡ some v → w.parts ≡ v.parts → 0 < v.parts → v.raises ≤ w.raises → get_or s.words 0 0 ≤ n
    → (0 < w.raises → 0 < n) → (0 < n → (0 < get_or s.words 0 0) ⊎ (0 < w.raises)) → (0 < w.sees → 0 < n) → Halting k (stepped s 0 n id c w keeps)
moved k s r n id c v w at same mine more_raised more by_me why sees = let one = r.one_word in let is : get_or (set s.words 0 n) 0 0 ≡ n = get_or-set_same s.words 0 n 0 (omega arith) in
    let t = total-set (λ (u : HaltToken). u.raises) s.views id v w at in let le = one_le_total (λ (u : HaltToken). u.raises) s.views id v at in record {
      one_word = length-set s.words 0 n ∙ r.one_word;
      parts = (let q = total-set (λ (u : HaltToken). u.parts) s.views id v w at in let p = r.parts in omega arith);
      raised = λ up. ⊎_elim (λ was. let p = r.raised was in omega arith) (λ now. omega arith) (why (omega arith));
      by_some = λ some. dite (dec_le 1 w.raises) (λ a. let p = by_me a in omega arith) (λ b. let p = r.by_some (omega arith) in omega arith);
      seen = λ j u e any. ⊎_elim (λ x. let p = sees (subst (λ (y : HaltToken). 0 < y.sees) (sym x.1) any) in omega arith) (λ x. let p = r.seen j u x.1 any in omega arith) (at_set s.views id j w u e);
      idle = λ j u e none_of. ⊎_elim (λ x. let q = ap (λ (y : HaltToken). y.parts) x.1 in absurd (omega arith)) (λ x. r.idle j u x.1 none_of) (at_set s.views id j w u e);
    }

pub raises : (k slots id : ℕ) (me : M) → me.0.parts ≡ 1 → me.0.raises ≤ 1 → Allows (Halting k) slots id me 0 (λ x. max x 1) (raising (step slots 0 1 0 none) me)
raises k slots id me one most s r _ at small = let x : ℕ = get_or s.words 0 0 in let v : HaltToken = me.0 in let w : HaltToken = halt_token v.parts 1 v.sees in
    (w, keeps, tt, moved k s r (max x 1) id me.1 v w at refl (omega arith) most (omega arith) (λ _. omega arith) (λ _. inr (omega arith)) (λ _. omega arith), refl)

pub looks : (k slots id : ℕ) (me : M) → me.0.parts ≡ 1 → Allows (Halting k) slots id me 0 (λ x. x) (looking (step slots 0 0 0 none) me)
looks k slots id me one s r _ at small = let x : ℕ = get_or s.words 0 0 in let v : HaltToken = me.0 in
    let mine = λ (up : 0 < v.raises). r.by_some (let le = one_le_total (λ (u : HaltToken). u.raises) s.views id v at in omega arith) in dite (dec_le 1 x)
    (λ up. let w : HaltToken = halt_token v.parts v.raises 1 in (w, keeps, tt, moved k s r x id me.1 v w at refl (omega arith) (omega arith) (omega arith) (λ _. up) (λ u. inl u) (λ _. up), ((λ _. refl), λ z. absurd (omega arith))))
    (λ down. (v, keeps, tt, moved k s r x id me.1 v v at refl (omega arith) (omega arith) (omega arith) mine (λ u. inl u) (r.seen id v at), ((λ u. absurd (omega arith)), λ z. refl)))

pub cuts : (k id : ℕ) (v : HaltToken) → 1 < v.parts → Splits (Halting k) id v (halt_token (v.parts - 1) v.raises v.sees) (halt_token 1 0 0)
cuts k id v some_parts s r at = let l : HaltToken = halt_token (v.parts - 1) v.raises v.sees in let c : HaltToken = halt_token 1 0 0 in let vs : List HaltToken = set s.views id l in
    let t = total-set (λ (u : HaltToken). u.raises) s.views id v l at in let a = total-snoc (λ (u : HaltToken). u.raises) vs c in record {
      one_word = r.one_word;
      parts = (let t' = total-set (λ (u : HaltToken). u.parts) s.views id v l at in let a' = total-snoc (λ (u : HaltToken). u.parts) vs c in let p = r.parts in omega arith);
      raised = λ up. (let p = r.raised up in omega arith);
      by_some = λ some. r.by_some (omega arith);
      seen = λ j u e any. ⊎_elim (λ old. ⊎_elim (λ x. r.seen id v at (subst (λ (y : HaltToken). 0 < y.sees) (sym x.1) any)) (λ x. r.seen j u x.1 any) (at_set s.views id j l u old))
          (λ is. let q = ap (λ (y : HaltToken). y.sees) is in absurd (omega arith)) (at_snoc vs c u j e);
      idle = λ j u e none_of. ⊎_elim (λ old. ⊎_elim (λ x. let q = ap (λ (y : HaltToken). y.parts) x.1 in absurd (omega arith)) (λ x. r.idle j u x.1 none_of) (at_set s.views id j l u old))
          (λ is. ap (λ (y : HaltToken). y.raises) (sym is)) (at_snoc vs c u j e);
    }

pub merges : (k id : ℕ) (v : HaltToken) (other : ℕ) (w : HaltToken) → Joins (Halting k) id v other w (halt_token (v.parts + w.parts) (v.raises + w.raises) (v.sees + w.sees)) (halt_token 0 0 0)
merges k id v other w s r at apart at' = let b : HaltToken = halt_token (v.parts + w.parts) (v.raises + w.raises) (v.sees + w.sees) in let z : HaltToken = halt_token 0 0 0 in let vs : List HaltToken = set s.views id b in
    let theirs : get_elem? s.views other ≡ some w = ⊎_elim (λ x. absurd (apart x.0)) (λ x. x.1) (at_set s.views id other b w at') in
    let t = total-set (λ (u : HaltToken). u.raises) s.views id v b at in let a = total-set (λ (u : HaltToken). u.raises) vs other w z at' in record {
      one_word = r.one_word;
      parts = (let t' = total-set (λ (u : HaltToken). u.parts) s.views id v b at in let a' = total-set (λ (u : HaltToken). u.parts) vs other w z at' in let p = r.parts in omega arith);
      raised = λ up. (let p = r.raised up in omega arith);
      by_some = λ some. r.by_some (omega arith);
      seen = λ j u e any. ⊎_elim (λ x. let q = ap (λ (y : HaltToken). y.sees) x.1 in absurd (omega arith))
          (λ x. ⊎_elim (λ y. let q = ap (λ (m : HaltToken). m.sees) y.1 in dite (dec_le 1 v.sees) (λ p. r.seen id v at p) (λ p. r.seen other w theirs (omega arith))) (λ y. r.seen j u y.1 any) (at_set s.views id j b u x.1))
          (at_set vs other j z u e);
      idle = λ j u e none_of. ⊎_elim (λ x. ap (λ (y : HaltToken). y.raises) (sym x.1))
          (λ x. ⊎_elim (λ y. let q = ap (λ (m : HaltToken). m.parts) y.1 in let p = ap (λ (m : HaltToken). m.raises) y.1 in let f = r.idle id v at (omega arith) in let g = r.idle other w theirs (omega arith) in omega arith)
          (λ y. r.idle j u y.1 none_of) (at_set s.views id j b u x.1))
          (at_set vs other j z u e);
    }

pub closes : (k : ℕ) (ws : List ℕ) (xs : List (Unit {0})) (id : ℕ) (v : HaltToken) (word : ℕ) → Final (Seen (Halting k) id v) ws xs → v.parts ≡ k → get_elem? ws 0 ≡ some word
    → (0 < word → 0 < v.raises) × (0 < v.raises → 0 < word) × (0 < v.sees → 0 < word)
closes k ws xs id v word f all at = let is : get_or f.0.words 0 0 ≡ word = index_of f.0.words word (ap (λ l. get_elem? l 0) f.2 ∙ at) in let r = f.1.0 in
    let e = sole (λ (u : HaltToken). u.parts) (λ u. u.raises) f.0.views id v f.1.1 (r.parts ∙ sym all) (λ j w at_w none_of. r.idle j w at_w none_of) in
    ((λ up. let p = r.raised (omega arith) in omega arith), (λ mine. let p = r.by_some (omega arith) in omega arith), λ any. let p = r.seen id v f.1.1 any in omega arith)
