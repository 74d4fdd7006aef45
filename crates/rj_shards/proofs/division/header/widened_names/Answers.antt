use Rattle.std.proofs.Common.{◌∙◌, ◌++◌, ◌∷◌, [], ℕ, List, Bor, ap, map, sym}
use Rattle.std.proofs.lemmas.List.{map-append}
use Rattle.rj_shards.proofs.HeaderFacts.{one-more}
use Rattle.rj_shards.proofs.division.header.widened_names.Goals as goal

pub loop-col-preserved : goal.loop-col-preserved
loop-col-preserved c = record {
  names = ap (map (λ (n : Bor (List ℕ)). n.now)) c.in_ok-push.ensures.items
      ∙ (map-append (λ (n : Bor (List ℕ)). n.now) c.loop-col.names.items (c.name.result ∷ [])
      ∙ (ap (λ (l : List (List ℕ)). l ++ c.name.result.now ∷ []) c.loop-col.invariant.names ∙ sym (one-more c.args.table.now.names c.loop-col.col c.name.result.now c.name.ensures)));
  end = c.loop-col.invariant.end;
  all = c.loop-col.invariant.all;
}
