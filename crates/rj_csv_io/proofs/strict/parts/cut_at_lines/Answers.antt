use Rattle.std.proofs.Common.{ℕ, ◌≡◌, ◌+◌, ◌/◌, List, Bor, ◌++◌, length, map, sym, ◌∙◌, arith}
use Rattle.std.proofs.lemmas.List.{map-append, take-append-drop, length-drop}
use Rattle.rj_csv_io.proofs.StrictPartFacts.{concat-more, concat-cut}
use Rattle.rj_csv_io.proofs.strict.parts.cut_at_lines.Goals as goal

pub loop-k-preserved : goal.loop-k-preserved
loop-k-preserved c =
    let done = map (λ (p : Bor (List ℕ)). p.now) c.loop-k.parts.items in
    let rest = c.loop-k.rest.now in
    let at = length c.args.text.now / c.max.result + 1 + c.in-Some.feed + 1 in
    let size = length-drop at rest in
    let cut : rest ≡ c.split_at.result.0.now ++ c.split_at.result.1.now = rw (c.split_at.ensures.front, c.split_at.ensures.back) (sym (take-append-drop at rest)) in
    record {
      within = rw c.split_at.ensures.back (omega (arith, size, c.loop-k.invariant.within));
      whole = rw (c.in_ok-push.ensures.items, map-append) (concat-cut done rest c.split_at.result.0.now c.split_at.result.1.now cut ∙ c.loop-k.invariant.whole);
    }

pub returns : goal.returns
returns c =
    let done = map (λ (p : Bor (List ℕ)). p.now) c.loop-k.parts.items in
    rw (c.in_ok-push-2.ensures.items, map-append) (concat-more done c.loop-k.rest.now ∙ c.loop-k.invariant.whole)
