-- The texts of runs, one after another.
use Rattle.std.proofs.Common.{◌≡◌, ◌≢◌, ℕ, suc, ◌+◌, ◌-◌, ◌<◌, ◌==◌, true, false, cond, List, [], ◌∷◌, ◌++◌, All, refl, ap, sym, subst, ◌∙◌, arith, inl, inr, length, map, take, drop, get_or, set}
use Rattle.std.specs.Prelude.{IfOk, IfSome, Ok, Result, Some, unwrap_or}
use Rattle.std.specs.Option.{ForSome}
use Rattle.std.specs.List.{concat, filter}
use Rattle.std.specs.declared.alloc.AllocError.{AllocError}
use Rattle.std.proofs.Math.ListN.{get_or-map}
use Rattle.std.specs.declared.alloc.Global.{Global}
use Rattle.std.specs.declared.vec.Vec.{Vec}
use Rattle.std.proofs.lemmas.Bool.{cases_Bool, cases_eq}
use Rattle.std.proofs.lemmas.Bool.Decides.{nat_tests}
use borrow.Author.Tests.{eqb-true}
use Rattle.std.proofs.lemmas.List.{drop_more, get_or-set_other, get_or-set_same, append-nil, get_or_default, length-map, length-set, map-append, take_all, take_more}
use Rattle.std.proofs.lemmas.List.Elements.{All-head, All-tail}
use Rattle.std.proofs.lemmas.List.Folds.{concat-append}
use Rattle.rj_columns.specs.Contents.{Content}
use Rattle.rj_columns.specs.Tables.{TableValue, rows_of_all}
use Rattle.csv.specs.Writing.{row_text}
use Rattle.rj_csv_io.specs.Shown.{range_text, rows_text, table_text, writer_of}
use Rattle.rj_csv_io.proofs.RangeFacts.{range-join, range-none}
use Rattle.rj_engine.specs.declared.joined.JoinedRow.{JoinedRow}
use Rattle.rj_engine.specs.declared.runs.Run.{Run}
use Rattle.rj_engine.specs.Cells.{joined_cells}
use Rattle.rj_engine.specs.Chosen.{shown_rows}
use Rattle.rj_engine.specs.Shown.{Follow, IsRunOf}
use Rattle.rj_engine.proofs.RunFacts.{run-cells, run-within}
use Rattle.rj_command.specs.declared.join.texts.Share.{Share}
use Rattle.rj_command.specs.declared.join.texts.Written.{Written}
use Rattle.rj_command.specs.Internal.Texts.{HasEnds, AreCounted, AreRunTexts, AreShownOf, AreTextsOf, AreWithin, cells_text, is_of, no_table, run_text, shown_cells, text_in, whole_text}

abbrev Texts : Type 0
Texts = Vec (Vec ℕ Global) Global

-- ---- the runs of one segment

same-segment : (a k : ℕ) → a ≡ k → (a == k) ≡ true
same-segment a k is = grind (arith, nat_tests, is)

other-segment : (a k : ℕ) → a ≢ k → (a == k) ≡ false
other-segment a k isnt = grind (arith, nat_tests, isnt)

-- what is alike of each run of a segment
same-texts : (f g : Run → List ℕ) (k : ℕ) (runs : List Run) → ((run : Run) → run.segment ≡ k → f run ≡ g run) → map f (filter (is_of k) runs) ≡ map g (filter (is_of k) runs)
same-texts f g k [] same = refl
same-texts f g k (run ∷ runs) same = elim (cases_Bool (run.segment == k)) [
  | inl own ↦
      let rest = same-texts f g k runs same in
      let here = same run (eqb-true run.segment k own) in
      (λ t. map f (cond (own t) (run ∷ filter (is_of k) runs) (filter (is_of k) runs)))
      ∙ ((λ t. here t ∷ rest t) ∙ (λ t. map g (cond (sym own t) (run ∷ filter (is_of k) runs) (filter (is_of k) runs))))
  | inr other ↦
      let rest = same-texts f g k runs same in
      (λ t. map f (cond (other t) (run ∷ filter (is_of k) runs) (filter (is_of k) runs)))
      ∙ (rest ∙ (λ t. map g (cond (sym other t) (run ∷ filter (is_of k) runs) (filter (is_of k) runs))))
]

-- the texts of a segment's runs, by all segments
pub texts-in : (w : Written) (segments : List TableValue) (k : ℕ) (runs : List Run)
    → map (run_text w (get_or segments k no_table)) (filter (is_of k) runs) ≡ map (text_in w segments) (filter (is_of k) runs)
texts-in w segments k runs =
    same-texts (run_text w (get_or segments k no_table)) (text_in w segments) k runs (λ run is. ap (λ n. run_text w (get_or segments n no_table) run) (sym is))

-- ---- shares

module _ (w : Written) (segments : List TableValue) (runs : List Run) (shares : List Share) (is : map (λ (x : Share). x.segment) shares ≡ map (λ (t : TableValue). Some t) segments) where
  size : length shares ≡ length segments
  size = sym (length-map shares (λ (x : Share). x.segment)) ∙ (ap length is ∙ length-map segments (λ (t : TableValue). Some t))

  -- the segment of a share
  segment-of : (k : ℕ) (x : Result (Vec Texts Global) AllocError)
      → (get_or shares k (record { segment = Some no_table; texts = x })).segment ≡ Some (get_or segments k no_table)
  segment-of k x =
      sym (get_or-map (λ (y : Share). y.segment) shares k (record { segment = Some no_table; texts = x }))
      ∙ (ap (λ os. get_or os k (Some no_table)) is ∙ get_or-map (λ (t : TableValue). Some t) segments k no_table)

  -- the runs of a share's segment are within it
  pub shares-within : ((k : ℕ) → k < length segments → AreWithin w (get_or segments k no_table) k runs)
      → (k : ℕ) (d : Share) → k < length shares → ForSome (get_or shares k d).segment (λ (t : TableValue). AreWithin w t k runs)
  shares-within within k d low t at =
      let e : Share = record { segment = Some no_table; texts = d.texts } in
      let one = ap (λ (x : Share). x.segment) (get_or_default shares k e d low) ∙ at in
      let same : get_or segments k no_table ≡ t = ap (λ o. unwrap_or o no_table) (sym (segment-of k d.texts) ∙ one) in
      subst (λ (u : TableValue). AreWithin w u k runs) same (within k (subst (λ n. k < n) size low))

  -- the texts that are made of all shares
  pub made-texts : (after : List Share) (made : List (Vec Texts Global)) → length after ≡ length shares
      → ((k : ℕ) (d : Share) → k < length shares → IfSome (get_or shares k d).segment (λ (t : TableValue). IfOk (get_or after k d).texts (AreRunTexts w t k runs)))
      → map (λ (x : Share). x.texts) after ≡ map (λ (t : Vec Texts Global). Ok t) made
      → (length made ≡ length segments) × AreTextsOf (text_in w segments) runs made
  made-texts after made many each all =
      let long : length made ≡ length after = sym (length-map made (λ (t : Vec Texts Global). Ok t)) ∙ (ap length (sym all) ∙ length-map after (λ (x : Share). x.texts)) in (
        long ∙ (many ∙ size),
        λ k d lt.
            let e : Share = record { segment = Some no_table; texts = Ok d } in
            let t = get_or segments k no_table in
            let low : k < length shares = omega (arith, long, many, lt) in
            let ok : (get_or after k e).texts ≡ Ok (get_or made k d) =
            sym (get_or-map (λ (x : Share). x.texts) after k e) ∙ (ap (λ os. get_or os k (Ok d)) all ∙ get_or-map (λ (u : Vec Texts Global). Ok u) made k d) in
            let one = subst (λ o. IfSome o (λ (u : TableValue). IfOk (get_or after k e).texts (AreRunTexts w u k runs))) (segment-of k (Ok d)) (each k e low) in
            let texts : AreRunTexts w t k runs (get_or made k d) = subst (λ x. IfOk x (AreRunTexts w t k runs)) ok one in
            texts ∙ texts-in w segments k runs,
      )

-- ---- the runs in their order

module _ (runs : List Run) (i : ℕ) (run : Run) (low : i < length runs) (is : run ≡ get_or runs i run) where
  next-runs : drop i runs ≡ run ∷ drop (i + 1) runs
  next-runs = drop_more runs i run low ∙ ap (λ r. r ∷ drop (i + 1) runs) (sym is)

  own-runs : filter (is_of run.segment) (drop i runs) ≡ run ∷ filter (is_of run.segment) (drop (i + 1) runs)
  own-runs = let own = same-segment run.segment run.segment refl in
      ap (filter (is_of run.segment)) next-runs ∙ (λ t. cond (own t) (run ∷ filter (is_of run.segment) (drop (i + 1) runs)) (filter (is_of run.segment) (drop (i + 1) runs)))

  other-runs : (k : ℕ) → k ≢ run.segment → filter (is_of k) (drop i runs) ≡ filter (is_of k) (drop (i + 1) runs)
  other-runs k isnt = let apart = other-segment run.segment k (λ e. isnt (sym e)) in
      ap (filter (is_of k)) next-runs ∙ (λ t. cond (apart t) (run ∷ filter (is_of k) (drop (i + 1) runs)) (filter (is_of k) (drop (i + 1) runs)))

-- what is left of each segment once the next text of this run's segment is taken
pub left-texts : (text : Run → List ℕ) (runs : List Run) (i : ℕ) (run : Run) (made : List (Vec Texts Global)) (own left : Vec Texts Global) (next : Texts) → i < length runs → run ≡ get_or runs i run
    → run.segment < length made → own ≡ get_or made run.segment own → own.items ≡ next ∷ left.items → AreTextsOf text (drop i runs) made
    → (whole_text next ≡ text run) × AreTextsOf text (drop (i + 1) runs) (set made run.segment left)
left-texts text runs i run made own left next low is inside at taken before =
    let k0 = run.segment in
    let rest = filter (is_of k0) (drop (i + 1) runs) in
    let all : whole_text next ∷ map whole_text left.items ≡ text run ∷ map text rest =
    ap (map whole_text) (sym taken) ∙ (ap (λ (v : Vec Texts Global). map whole_text v.items) at ∙ (before k0 own inside ∙ ap (map text) (own-runs runs i run low is))) in (
      ap (λ l. get_or l 0 []) all,
      λ k d lt.
          let size = length-set made k0 left in
          let here : k < length made = omega (arith, size, lt) in
          elim (cases_eq k k0) [
            | inl e ↦ subst (λ n. map whole_text (get_or (set made k0 left) n d).items ≡ map text (filter (is_of n) (drop (i + 1) runs))) (sym e)
                (ap (λ (v : Vec Texts Global). map whole_text v.items) (get_or-set_same made k0 left d inside) ∙ ap (drop 1) all)
            | inr ne ↦ ap (λ (v : Vec Texts Global). map whole_text v.items) (get_or-set_other made k0 k left d ne) ∙ (before k d here ∙ ap (map text) (other-runs runs i run low is k ne))
          ],
    )

-- and how many those are
pub left-counted : (runs : List Run) (i : ℕ) (run : Run) (made : List (Vec Texts Global)) (own left : Vec Texts Global) (next : Texts) → i < length runs → run ≡ get_or runs i run
    → run.segment < length made → own ≡ get_or made run.segment own → own.items ≡ next ∷ left.items → AreCounted (drop i runs) made → AreCounted (drop (i + 1) runs) (set made run.segment left)
left-counted runs i run made own left next low is inside at taken before =
    let k0 = run.segment in
    let rest = filter (is_of k0) (drop (i + 1) runs) in
    let all : suc (length left.items) ≡ suc (length rest) =
    ap length (sym taken) ∙ (ap (λ (v : Vec Texts Global). length v.items) at ∙ (before k0 own inside ∙ ap length (own-runs runs i run low is))) in
    λ k d lt.
    let size = length-set made k0 left in
    let here : k < length made = omega (arith, size, lt) in
    elim (cases_eq k k0) [
      | inl e ↦ subst (λ n. length (get_or (set made k0 left) n d).items ≡ length (filter (is_of n) (drop (i + 1) runs))) (sym e)
          (ap (λ (v : Vec Texts Global). length v.items) (get_or-set_same made k0 left d inside) ∙ omega (arith, all))
      | inr ne ↦ ap (λ (v : Vec Texts Global). length v.items) (get_or-set_other made k0 k left d ne) ∙ (before k d here ∙ ap length (other-runs runs i run low is k ne))
    ]

-- a text of this run's segment is left
pub next-there : (runs : List Run) (i : ℕ) (run : Run) (made : List (Vec Texts Global)) (own : Vec Texts Global) → i < length runs → run ≡ get_or runs i run
    → run.segment < length made → own ≡ get_or made run.segment own → AreCounted (drop i runs) made → 0 < length own.items
next-there runs i run made own low is inside at before =
    let all : length own.items ≡ suc (length (filter (is_of run.segment) (drop (i + 1) runs))) =
    ap (λ (v : Vec Texts Global). length v.items) at ∙ (before run.segment own inside ∙ ap length (own-runs runs i run low is)) in
    omega (arith, all)

-- the text of one run more
pub whole-more : (text : Run → List ℕ) (runs : List Run) (i : ℕ) (run : Run) (before next after : Texts) → i < length runs → run ≡ get_or runs i run → after.items ≡ before.items ++ next.items
    → whole_text before ≡ concat (map text (take i runs)) → whole_text next ≡ text run → whole_text after ≡ concat (map text (take (i + 1) runs))
whole-more text runs i run before next after low is joined so here =
    let items : Vec ℕ Global → List ℕ = λ t. t.items in
    let runs-more = take_more runs i run low ∙ ap (λ r. take i runs ++ r ∷ []) (sym is) in
    let right = ap (λ rs. concat (map text rs)) runs-more
    ∙ (ap concat (map-append text (take i runs) (run ∷ []))
    ∙ (concat-append (map text (take i runs)) (text run ∷ []) ∙ ap (λ t. concat (map text (take i runs)) ++ t) (append-nil (text run)))) in
    ap (λ ts. concat (map items ts)) joined
    ∙ (ap concat (map-append items before.items next.items) ∙ (concat-append (map items before.items) (map items next.items) ∙ ((λ t. so t ++ here t) ∙ sym right)))

-- ---- all runs

-- the rows that are written
abbrev pub rows_of : Written → List JoinedRow
rows_of w = shown_rows w.shown.now.chosen w.joined.now.members

-- the text of runs that follow one another up to the last row
texts-follow : (w : Written) (segments : List TableValue) (l : TableValue) (from : ℕ) (runs : List Run) → l.rows ≡ rows_of_all segments
    → All (λ (t : TableValue). t.types ≡ l.types) segments → Follow from (length (rows_of w)) runs → All (IsRunOf segments (rows_of w)) runs
    → concat (map (text_in w segments) runs) ≡ range_text w.format.delimiter w.format.null.now (shown_cells w l) from (length (rows_of w))
unfolding Follow
texts-follow w segments l from [] rows types h each =
    let n = length (rows_of w) in
    let d = w.format.delimiter in
    let null = w.format.null.now in
    sym (ap (λ k. range_text d null (shown_cells w l) k n) h ∙ range-none d null (shown_cells w l) n)
texts-follow w segments l from (run ∷ runs) rows types h each =
    let n = length (rows_of w) in
    let d = w.format.delimiter in
    let null = w.format.null.now in
    let cells = shown_cells w l in
    let one = All-head (IsRunOf segments (rows_of w)) run runs each in
    let others = All-tail (IsRunOf segments (rows_of w)) run runs each in
    let t = get_or segments run.segment no_table in
    let there : t ≡ get_or segments run.segment t = get_or_default segments run.segment no_table t one.segment in
    let here : text_in w segments run ≡ range_text d null cells run.from run.to =
    ap (cells_text d null) (run-cells segments l w.right.now t w.joined.now.members w.shown.now run rows (types run.segment no_table one.segment) one there) in
    let rest = texts-follow w segments l run.to runs rows types h.1 others in
    (λ i. here i ++ rest i) ∙ (range-join d null cells run.from run.to n one.order one.to ∙ ap (λ k. range_text d null cells k n) h.0)

-- the text of all runs is that of all rows
pub whole-texts : (w : Written) (segments : List TableValue) (l : TableValue) (runs : List Run) → l.rows ≡ rows_of_all segments
    → All (λ (t : TableValue). t.types ≡ l.types) segments → Follow 0 (length (rows_of w)) runs → All (IsRunOf segments (rows_of w)) runs
    → concat (map (text_in w segments) runs) ≡ cells_text w.format.delimiter w.format.null.now (shown_cells w l)
whole-texts w segments l runs rows types h each =
    let all = rows_of w in
    let cells = shown_cells w l in
    let size : length cells ≡ length all = length-map all (joined_cells l w.right.now w.shown.now.origins.items) in
    texts-follow w segments l 0 runs rows types h each ∙ ap (cells_text w.format.delimiter w.format.null.now) (take_all (length all - 0) cells (omega (arith, size)))

-- the runs of a segment are within it
pub all-within : (w : Written) (segments : List TableValue) (l : TableValue) (runs : List Run) (k : ℕ) → l.rows ≡ rows_of_all segments
    → All (λ (t : TableValue). t.types ≡ l.types) segments → AreShownOf w l → HasEnds w → All (IsRunOf segments (rows_of w)) runs → k < length segments
    → AreWithin w (get_or segments k no_table) k runs
all-within w segments l runs k rows types h ends each low = (
  ends,
  λ i d lt is.
      let t = get_or segments k no_table in
      let there : t ≡ get_or segments k t = get_or_default segments k no_table t low in
      run-within segments l w.right.now t w.joined.now.members w.shown.now (get_or runs i d) rows (types k no_table low) (each i d lt) (there ∙ ap (λ n. get_or segments n t) (sym is)) h,
)

-- under a header the text of rows is that of a table
pub table-text : (d : ℕ) (null : List ℕ) (header : List (List ℕ)) (cells : List (List Content)) (texts : Texts) → whole_text texts ≡ cells_text d null cells
    → row_text (writer_of d) header ++ whole_text texts ≡ table_text d null header cells
unfolding rows_text
table-text d null header cells texts is = ap (λ t. row_text (writer_of d) header ++ t) is
