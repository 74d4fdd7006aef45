use Rattle.std.proofs.Common.{◌≡◌, ◌∙◌, ap, ap₂, codes, rules, true, false}
use Rattle.std.proofs.lemmas.Result.{IfOk-weaker}
use Rattle.clap.specs.Simple.{app_of_fields, on_top}
use Rattle.clap.specs.Words.{AddsArg, App, Rule, app_of, new_app, rule_of, with_rule}
use Rattle.clap.specs.declared.builder.arg.Arg.{Arg}
use Rattle.clap.specs.declared.builder.command.Command.{Command}
use Rattle.arrivals.specs.Lines.{line_app}
use Rattle.arrivals.proofs.line.line_command.Goals as goal

-- a command with one more argument has one more rule
one_more : (app : App) (r : Rule) (old new : Command) (a : Arg) → app_of old ≡ app → rule_of a ≡ r → a.global ≡ false → AddsArg old a new → app_of new ≡ with_rule app r
one_more app r old new a is rule local added = added.shape local ∙ ap₂ with_rule is rule

pub returns : goal.returns
returns c =
    let versioned : app_of c.version.result ≡ on_top (λ s. record s { has_version = true }) (new_app (codes "arrivals")) =
    ap app_of_fields c.version.ensures ∙ ap (on_top (λ s. record s { has_version = true })) (ap app_of_fields c.override_help.ensures ∙ c.new-2.ensures.app) in
    let bare : app_of c.no_binary_name.result ≡ on_top (λ s. record s { has_version = true; no_binary_name = true }) (new_app (codes "arrivals")) =
    ap app_of_fields c.no_binary_name.ensures ∙ ap (on_top (λ s. record s { no_binary_name = true })) versioned in
    let partition = one_more _ _ c.no_binary_name.result c.in_ok-arg.field-0 c.number_option.result bare c.number_option.ensures.rule c.number_option.ensures.local c.in_ok-arg.ensures in
    let senders = one_more _ _ c.in_ok-arg.field-0 c.in_ok-arg-2.field-0 c.number_option-2.result partition c.number_option-2.ensures.rule c.number_option-2.ensures.local c.in_ok-arg-2.ensures in
    let block = one_more _ _ c.in_ok-arg-2.field-0 c.in_ok-arg-3.field-0 c.number_option-3.result senders c.number_option-3.ensures.rule c.number_option-3.ensures.local c.in_ok-arg-3.ensures in
    IfOk-weaker c.arg-4.result _ (λ r. app_of r ≡ line_app)
    (λ r h. one_more _ _ c.in_ok-arg-3.field-0 r c.action-gaps.result block (search rules) (search rules) h) c.arg-4.ensures
