-- Segments at their places, and hints of them.
use Rattle.std.proofs.Common.{◌≡◌, ◌≤◌, ◌<◌, ◌+◌, ◌-◌, ◌*◌, ◌^◌, ◌∙◌, ◌⊎◌, inl, inr, ℕ, suc, List, [], ◌∷◌, ◌++◌, length, take, refl, sym, ap, arith, get_or, add-one}
use Rattle.std.proofs.lemmas.List.{length-append, length-map, map-append, take-append-le, take_all, take_more, get_or-map, get_or_push, get_or-append_right}
use Rattle.std.proofs.Math.ListN.{get_or-append}
use Rattle.rj_columns.specs.declared.segments.Placed.{Placed}
use Rattle.rj_columns.specs.Tables.{rows_of_all}
use Rattle.rj_columns.specs.Internal.Segments.{IsFound}
use Rattle.rj_columns.proofs.SegmentFacts.{count-more}
use Rattle.rj_columns.specs.Internal.Placed.{segments_in, rows_before, AreHints, ArePlaced}

length-segments : (placed : List Placed) → length (segments_in placed) ≡ length placed
length-segments placed = length-map placed (λ (p : Placed). p.segment)

-- the rows before a place stay, where more segments are put behind
before-kept : (placed more : List Placed) (i : ℕ) → i ≤ length placed → rows_before (placed ++ more) i ≡ rows_before placed i
before-kept placed more i h =
    ap (λ l. length (rows_of_all (take i l))) (map-append (λ (p : Placed). p.segment) placed more)
    ∙ ap (λ l. length (rows_of_all l)) (take-append-le i (segments_in placed) (segments_in more) (let size = length-segments placed in omega arith))

before-all : (placed : List Placed) (i : ℕ) → length placed ≤ i → rows_before placed i ≡ length (rows_of_all (segments_in placed))
before-all placed i h = ap (λ l. length (rows_of_all l)) (take_all i (segments_in placed) (let size = length-segments placed in omega arith))

-- the rows of one segment more
before-next : (placed : List Placed) (i : ℕ) (d : Placed) → i < length placed → rows_before placed (suc i) ≡ rows_before placed i + length (get_or placed i d).segment.rows
before-next placed i d h =
    let size = length-segments placed in
    let more = take_more (segments_in placed) i d.segment (omega arith) in
    let at : get_or (segments_in placed) i d.segment ≡ (get_or placed i d).segment = get_or-map (λ (p : Placed). p.segment) placed i d d.segment h in
    let step : take (suc i) (segments_in placed) ≡ take i (segments_in placed) ++ (get_or placed i d).segment ∷ [] = rw (add-one) at (more ∙ ap (λ s. take i (segments_in placed) ++ s ∷ []) at) in
    ap (λ l. length (rows_of_all l)) step ∙ count-more (take i (segments_in placed)) (get_or placed i d).segment

pub end-of : (placed : List Placed) (hints : List ℕ) (rows at : ℕ) (p : Placed) → ArePlaced placed hints rows → at < length placed → p ≡ get_or placed at p → p.end ≡ rows_before placed (suc at)
end-of placed hints rows at p places h e = ap (λ (q : Placed). q.end) e ∙ places.ends at p h

pub found : (placed : List Placed) (hints : List ℕ) (rows row at : ℕ) (p : Placed) → ArePlaced placed hints rows → at < length placed → rows_before placed at ≤ row → row < rows_before placed (suc at)
    → p ≡ get_or placed at p → IsFound (segments_in placed) row p.start p.segment
found placed hints rows row at p places h low high e =
    let size = length-segments placed in
    let start : p.start ≡ rows_before placed at = ap (λ (q : Placed). q.start) e ∙ places.starts at p h in
    let next = before-next placed at p h in
    let own : length (get_or placed at p).segment.rows ≡ length p.segment.rows = ap (λ (q : Placed). length q.segment.rows) (sym e) in
    record {
      place = at;
      inside = omega arith;
      found = ap (λ (q : Placed). q.segment) e ∙ sym (get_or-map (λ (q : Placed). q.segment) placed at p p.segment h);
      start = start;
      from = omega arith;
      to = omega arith;
    }

-- one more segment
segments-more : (placed : List Placed) (p : Placed) → segments_in (placed ++ p ∷ []) ≡ segments_in placed ++ p.segment ∷ []
segments-more placed p = map-append (λ (q : Placed). q.segment) placed (p ∷ [])

total-more : (placed : List Placed) (rows : ℕ) (p : Placed) → rows ≡ length (rows_of_all (segments_in placed)) → rows + length p.segment.rows ≡ length (rows_of_all (segments_in (placed ++ p ∷ [])))
total-more placed rows p e = ap (λ n. n + length p.segment.rows) e ∙ (sym (count-more (segments_in placed) p.segment) ∙ ap (λ l. length (rows_of_all l)) (sym (segments-more placed p)))

last_or : (i n : ℕ) → i < n + 1 → (i < n) ⊎ (i ≡ n)
last_or i n h = grind arith

either : (a b : ℕ) → (a < b) ⊎ (b ≤ a)
either a b = grind arith

starts-more : (placed : List Placed) (hints : List ℕ) (rows : ℕ) (p : Placed) (i : ℕ) (d : Placed) → ArePlaced placed hints rows → p.start ≡ rows → i < length (placed ++ p ∷ [])
    → (get_or (placed ++ p ∷ []) i d).start ≡ rows_before (placed ++ p ∷ []) i
starts-more placed hints rows p i d a start h =
    let size = length-append placed (p ∷ []) in
    elim (last_or i (length placed) (omega arith)) [
      | inl low ↦ ap (λ (q : Placed). q.start) (get_or-append placed (p ∷ []) d i low) ∙ (a.starts i d low ∙ sym (before-kept placed (p ∷ []) i (omega arith)))
      | inr same ↦ ap (λ (q : Placed). q.start) (get_or_push placed p d i (sym same)) ∙ (start ∙ (a.count ∙ (sym (before-all placed i (omega arith)) ∙ sym (before-kept placed (p ∷ []) i (omega arith)))))
    ]

ends-more : (placed : List Placed) (hints : List ℕ) (rows : ℕ) (p : Placed) (i : ℕ) (d : Placed) → ArePlaced placed hints rows → p.end ≡ rows + length p.segment.rows → i < length (placed ++ p ∷ [])
    → (get_or (placed ++ p ∷ []) i d).end ≡ rows_before (placed ++ p ∷ []) (suc i)
ends-more placed hints rows p i d a end h =
    let size = length-append placed (p ∷ []) in
    elim (last_or i (length placed) (omega arith)) [
      | inl low ↦ ap (λ (q : Placed). q.end) (get_or-append placed (p ∷ []) d i low) ∙ (a.ends i d low ∙ sym (before-kept placed (p ∷ []) (suc i) (omega arith)))
      | inr same ↦ ap (λ (q : Placed). q.end) (get_or_push placed p d i (sym same)) ∙ (end ∙ (total-more placed rows p a.count ∙ sym (before-all (placed ++ p ∷ []) (suc i) (omega arith))))
    ]

hints-more : (placed : List Placed) (hints more : List ℕ) (rows : ℕ) (p : Placed) → ArePlaced placed hints rows → ((k : ℕ) → k < length more → get_or more k 0 ≡ length placed)
    → AreHints (placed ++ p ∷ []) (hints ++ more)
hints-more placed hints more rows p a same = λ k h.
    let size = length-append placed (p ∷ []) in
    let both = length-append hints more in
    elim (either k (length hints)) [
      | inl low ↦
          let old = a.hints k low in
          let at = get_or-append hints more 0 k low in
          let kept = before-kept placed (p ∷ []) (get_or hints k 0) (let inside = old.0 in omega arith) in
          rw at ((let inside = old.0 in omega arith), (let most = old.1 in omega arith))
      | inr new ↦
          let at : get_or (hints ++ more) k 0 ≡ length placed = get_or-append_right hints more (length hints) k 0 refl new ∙ same (k - length hints) (omega arith) in
          let kept = before-kept placed (p ∷ []) (length placed) (omega arith) in
          let all = before-all placed (length placed) (omega arith) in
          rw at (omega arith, omega (arith, a.count, a.enough))
    ]

pub pushed : (placed : List Placed) (hints more : List ℕ) (rows : ℕ) (p : Placed) → ArePlaced placed hints rows → p.start ≡ rows → p.end ≡ rows + length p.segment.rows → p.end < 2 ^ 31
    → ((k : ℕ) → k < length more → get_or more k 0 ≡ length placed) → p.end ≤ (length hints + length more) * 65536 → (length hints + length more) * 65536 < p.end + 65536
    → ArePlaced (placed ++ p ∷ []) (hints ++ more) p.end
pushed placed hints more rows p a start end within same enough few =
    let both = length-append hints more in
    record {
      count = end ∙ total-more placed rows p a.count;
      starts = λ i d h. starts-more placed hints rows p i d a start h;
      ends = λ i d h. ends-more placed hints rows p i d a end h;
      hints = hints-more placed hints more rows p a same;
      enough = omega arith;
      few = omega arith;
      within = within;
    }

-- no fewer hints than before
pub hints-fit : (rows end n len : ℕ) → rows ≤ end → end ≤ n * 65536 → len * 65536 < rows + 65536 → len ≤ n
hints-fit rows end n len more enough few = omega arith
