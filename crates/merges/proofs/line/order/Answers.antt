use Rattle.std.proofs.Common.{◌≡◌, ◌∙◌, Bor, List, [], ◌∷◌, Some, ap, ap₂, codes, map, refl}
use Rattle.clap.specs.Words.{Rule, Text, rule_of}
use Rattle.clap.specs.declared.builder.arg.Arg.{Arg}
use Rattle.clap.specs.declared.builder.value_parser.ValueParser.{ValueParser}
use Rattle.clap.specs.declared.builder.value_parser.ValueParser.TheVariants.{Names}
use Rattle.merges.specs.Lines.{OrderWords, order_rule, text_rule}
use Rattle.merges.proofs.line.order.Goals as goal

-- an option with a text that takes these names alone
named_order : (a b : Arg) (q : ValueParser) (names : Bor (List (Bor Text))) → map (λ (w : Bor Text). w.now) names.now ≡ codes "pairs" ∷ codes "left" ∷ []
    → rule_of a ≡ text_rule (codes "order") → b ≡ record a { value_parser = b.value_parser } → b.value_parser ≡ Some q → q ≡ Names names
    → (h : OrderWords) × (rule_of b ≡ order_rule h)
named_order a b q names are rule is given converts =
    (record { orders = names; are_orders = are }, ap rule_of is ∙ ap₂ (λ (r : Rule) p. record r { parser = p }) rule (given ∙ ap Some converts))

pub returns-clause-rule : goal.returns-clause-rule
returns-clause-rule c =
    let given = c.value_parser.ensures.given in
    named_order c.text.result c.value_parser.result given.0 _ refl c.text.ensures.rule c.value_parser.ensures.others given.1 given.2
