use Rattle.std.proofs.Common.{ap, sym, ◌∙◌, Bool}
use Rattle.rj_condition.specs.Refusals.{reference_refusal, refusal_at}
use Rattle.rj_condition.proofs.RefusalFacts.{names_column, reference_at, using_at}
use Rattle.rj_condition.proofs.refusals.refusal_at.Goals as goal

pub returns-then-in_using : goal.returns-then-in_using
returns-then-in_using c =
    let ts = c.args.tokens.now in
    let at = names_column ts c.args.i c.in-Some.name.now (sym c.is_point_at.ensures ∙ c.if-is_point_at.false) (sym c.in-Some.ensures) in
    c.using_refusal.ensures ∙ sym (ap (λ (u : Bool). refusal_at u c.args.left.now.names c.args.right.now.names ts c.args.i) c.if-in_using.true ∙ using_at c.args.left.now.names c.args.right.now.names ts c.args.i c.in-Some.name.now at)

pub returns-else-in_using : goal.returns-else-in_using
returns-else-in_using c =
    let ts = c.args.tokens.now in
    let left = c.args.left.now.names in
    let right = c.args.right.now.names in
    let at = names_column ts c.args.i c.in-Some.name.now (sym c.is_point_at.ensures ∙ c.if-is_point_at.false) (sym c.in-Some.ensures) in
    c.reference_refusal.ensures ∙ (ap (λ q. reference_refusal left right record { qualifier = q; name = c.in-Some.name.now }) c.qualifier_at.ensures
    ∙ sym (ap (λ (u : Bool). refusal_at u left right ts c.args.i) c.if-in_using.false ∙ reference_at left right ts c.args.i c.in-Some.name.now at))
