use Rattle.std.proofs.lemmas.Bool.{false≢true}
use Rattle.std.proofs.Common.{◌∙◌, ◌<◌, ap, length, sym, ◌≡◌, ◌==◌, ◌++◌, ◌∷◌, [], ℕ, true, false, map, take, slice_index_or, arith, subst}
use Rattle.std.specs.List.{list_any}
use Rattle.rj_engine.specs.Internal.Marks.{IsMarked, row_on}
use Rattle.rj_engine.proofs.Distinct.{distinct_more, marked_is, stands_twice}
use Rattle.rj_engine.proofs.Marked.{marked_more}
use Rattle.rj_engine.proofs.expected.are_distinct.Goals as goal

pub returns-then-index : goal.returns-then-index
returns-then-index c =
    let pairs = c.args.pairs.now in let i = c.loop-place.place in let f = row_on c.args.side in
    let low : i < length pairs = omega (arith, c.loop-place-test.true, c.len-place-end.ensures.count) in
    let is : c.row_on-row.result ≡ f (slice_index_or pairs i (0, 0)) = c.row_on-row.ensures ∙ ap f (sym (c.get.ensures (0, 0))) in
    let within = c.requires i (0, 0) low in
    let among = marked_is (map f (take i pairs)) c.args.count c.loop-place.marks.items c.row_on-row.result c.index.result.now true
    c.loop-place.invariant.0 (omega (arith, is, within)) c.index.ensures c.if-index.true in
    let twice = stands_twice f pairs i (0, 0) low (subst (λ (k : ℕ). list_any (λ (n : ℕ). n == k) (map f (take i pairs)) ≡ true) is among) in
    ((λ no. absurd (false≢true no)), (λ distinct. absurd (twice distinct)))

pub loop-place-preserved : goal.loop-place-preserved
loop-place-preserved c =
    let pairs = c.args.pairs.now in let i = c.loop-place.place in let f = row_on c.args.side in
    let low : i < length pairs = omega (arith, c.loop-place-test.true, c.len-place-end.ensures.count) in
    let is : c.row_on-row.result ≡ f (slice_index_or pairs i (0, 0)) = c.row_on-row.ensures ∙ ap f (sym (c.get.ensures (0, 0))) in
    let within = c.requires i (0, 0) low in
    let none = marked_is (map f (take i pairs)) c.args.count c.loop-place.marks.items c.row_on-row.result c.index.result.now false
    c.loop-place.invariant.0 (omega (arith, is, within)) c.index.ensures c.if-index.false in (
      marked_more f pairs i c.args.count c.mark.new.marks.items (0, 0) low
          (subst (λ (n : ℕ). IsMarked (map f (take i pairs) ++ n ∷ []) c.args.count c.mark.new.marks.items) is (c.mark.ensures _ _ c.loop-place.invariant.0)),
      distinct_more f pairs i (0, 0) low c.loop-place.invariant.1
          (subst (λ (k : ℕ). list_any (λ (n : ℕ). n == k) (map f (take i pairs)) ≡ false) is none),
    )
