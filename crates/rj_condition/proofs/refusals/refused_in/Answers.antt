use Rattle.std.proofs.Common.{ap, arith, sym, ◌∙◌, refl, option_map}
use Rattle.rj_condition.specs.declared.tree.Name.{Name}
use Rattle.rj_condition.proofs.RefusalFacts.{named_within, told}
use Rattle.rj_condition.proofs.refusals.refused_in.Goals as goal

pub start_at-at-requires : goal.start_at-at-requires
start_at-at-requires c = let within = named_within c.args.tokens.now c.in-Some.i c.in-Some-name_at.name.now (sym c.in-Some-name_at.ensures) in omega (arith, within, c.requires)

pub returns : goal.returns
returns c =
    told c.args.left.now.names c.args.right.now.names c.args.tokens.now c.args.starts.now c.in-Some.i c.in-Some.refused c.in-Some-name_at.name.now _
    c.in-Some.ensures (sym c.in-Some-name_at.ensures) refl c.start_at-at.ensures c.in_ok-text.ensures
    (c.in_ok-qualifier.ensures ∙ ap (option_map (λ (q : Name). q.text)) c.qualifier_at.ensures)
