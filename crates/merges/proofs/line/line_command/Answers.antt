use Rattle.std.proofs.Common.{◌≡◌, ◌∙◌, ap, ap₂, codes, true, false}
use Rattle.std.proofs.lemmas.Result.{IfOk-weaker}
use Rattle.clap.specs.Simple.{app_of_fields, on_top}
use Rattle.clap.specs.Words.{AddsArg, App, Rule, app_of, new_app, rule_of, with_rule}
use Rattle.clap.specs.declared.builder.arg.Arg.{Arg}
use Rattle.clap.specs.declared.builder.command.Command.{Command}
use Rattle.merges.specs.Lines.{IsCommand}
use Rattle.merges.proofs.line.line_command.Goals as goal

-- a command with one more argument has one more rule
one_more : (app : App) (r : Rule) (old new : Command) (a : Arg) → app_of old ≡ app → rule_of a ≡ r → a.global ≡ false → AddsArg old a new → app_of new ≡ with_rule app r
one_more app r old new a is rule local added = added.shape local ∙ ap₂ with_rule is rule

pub returns : goal.returns
returns c =
    let versioned : app_of c.version.result ≡ on_top (λ s. record s { has_version = true }) (new_app (codes "merges")) =
    ap app_of_fields c.version.ensures ∙ ap (on_top (λ s. record s { has_version = true })) (ap app_of_fields c.override_help.ensures ∙ c.new.ensures.app) in
    let bare : app_of c.no_binary_name.result ≡ on_top (λ s. record s { has_version = true; no_binary_name = true }) (new_app (codes "merges")) =
    ap app_of_fields c.no_binary_name.ensures ∙ ap (on_top (λ s. record s { no_binary_name = true })) versioned in
    let null = one_more _ _ c.no_binary_name.result c.in_ok-arg.field-0 c.text.result bare c.text.ensures.rule c.text.ensures.local c.in_ok-arg.ensures in
    let order = one_more _ _ c.in_ok-arg.field-0 c.in_ok-arg-2.field-0 c.order.result null c.order.ensures.rule.1 c.order.ensures.local c.in_ok-arg-2.ensures in
    let from = one_more _ _ c.in_ok-arg-2.field-0 c.in_ok-arg-3.field-0 c.place.result order c.place.ensures.rule c.place.ensures.local c.in_ok-arg-3.ensures in
    let to = one_more _ _ c.in_ok-arg-3.field-0 c.in_ok-arg-4.field-0 c.place-2.result from c.place-2.ensures.rule c.place-2.ensures.local c.in_ok-arg-4.ensures in
    let copies = one_more _ _ c.in_ok-arg-4.field-0 c.in_ok-arg-5.field-0 c.text-2.result to c.text-2.ensures.rule c.text-2.ensures.local c.in_ok-arg-5.ensures in
    let delimiter = one_more _ _ c.in_ok-arg-5.field-0 c.in_ok-arg-6.field-0 c.text-3.result copies c.text-3.ensures.rule c.text-3.ensures.local c.in_ok-arg-6.ensures in
    IfOk-weaker c.arg-7.result _ IsCommand
    (λ r added. (c.order.ensures.rule.0, one_more _ _ c.in_ok-arg-6.field-0 r c.files.result delimiter c.files.ensures.rule c.files.ensures.local added)) c.arg-7.ensures
