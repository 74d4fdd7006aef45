use Rattle.std.proofs.Common.{rules, ◌≡◌, ◌∙◌, List, ℕ, sym, subst}
use Rattle.std.specs.Io.KnownBytes.{Appends}
use Rattle.std.proofs.KnownBytes.{Appends-trans}
use Rattle.rj_shards.proofs.merge.block.put_block.Goals as goal

pub returns-in-Ok-put-clause-told : goal.returns-in-Ok-put-clause-told
returns-in-Ok-put-clause-told g c = λ start text t.
    let before = g.O.Output.told c.args.output.now in let after = g.O.Output.told c.put.new.self in
    let bytes = t.written.bytes in
    let items : c.in-Ok.text.items ≡ t.kept = search (rules, bytes) in
    let put : Appends before after t.kept = subst (λ (x : List ℕ). Appends before after x) (c.as_slice.ensures.value ∙ items) c.in-Ok-put.ensures.ok in (
      subst (λ (x : List ℕ). Appends start after x) (sym t.whole) (Appends-trans start before after t.put t.kept t.got put),
      rw c.replace-full.ensures.after c.empty_block.ensures,
    )
