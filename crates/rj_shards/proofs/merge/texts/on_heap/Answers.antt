use Rattle.std.proofs.Common.{◌≡◌, ◌∙◌, ◌++◌, ◌∷◌, [], map, true, sym, ap, append-nil, append_assoc, rules}
use Rattle.std.specs.Box.{box_value}
use Rattle.std.specs.Result.{is_ok}
use Rattle.std.specs.Vec.Iter.{into_iter_items}
use Rattle.std.proofs.lemmas.List.{map-append}
use Rattle.rj_shards.proofs.OpeningFacts.{no_length}
use Rattle.rj_shards.proofs.merge.texts.on_heap.Goals as goal

pub sources-init : goal.sources-init
sources-init g c = ap (λ l. map box_value l ++ into_iter_items c.into_iter-left.result) c.new-all.ensures.items ∙ c.into_iter-left.ensures.rest

pub sources-preserved : goal.sources-preserved
sources-preserved g c =
    let more = into_iter_items c.next.new.self in
    let boxed = c.in-Ok.boxed in
    let good : is_ok c.push.result ≡ true = search rules in
    let pushed = rw good at c.push.ensures.items in
    ap (λ l. map box_value l ++ more) pushed
    ∙ (ap (λ l. l ++ more) (map-append box_value c.sources.all.items (boxed ∷ []))
    ∙ (append_assoc (map box_value c.sources.all.items) (box_value boxed ∷ []) more
    ∙ (ap (λ s. map box_value c.sources.all.items ++ (s ∷ more)) c.in-Ok.ensures.ok
    ∙ (ap (λ l. map box_value c.sources.all.items ++ l) (sym c.in-Some.ensures.items) ∙ c.sources.invariant))))

pub returns : goal.returns
returns g c =
    let left = into_iter_items c.sources.left in
    let none = no_length left (sym c.sources.left.rest.ok.0 ∙ c.in_default.ensures.cases.0) in
    sym (append-nil (map box_value c.sources.all.items)) ∙ (ap (λ l. map box_value c.sources.all.items ++ l) (sym none) ∙ c.sources.invariant)
