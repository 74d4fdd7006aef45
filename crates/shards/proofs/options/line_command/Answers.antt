use Rattle.std.proofs.Common.{◌≡◌, ◌∙◌, ap, codes, refl, true}
use Rattle.std.proofs.lemmas.Result.{IfOk-weaker}
use Rattle.clap.specs.Simple.{app_of_fields, on_top}
use Rattle.clap.specs.Words.{app_of, new_app}
use Rattle.rj_line.specs.Options.{with_rules}
use Rattle.shards.specs.Options.{IsLineCommand, OptionWords, division_rules, table_rules}
use Rattle.shards.proofs.OptionFacts.{one-more}
use Rattle.shards.proofs.options.line_command.Goals as goal

pub returns : goal.returns
returns c =
    let words : OptionWords = record { sides = _; are_sides = refl; levels = _; are_levels = refl } in
    let versioned : app_of c.version.result ≡ on_top (λ s. record s { has_version = true }) (new_app (codes "shards")) =
    ap app_of_fields c.version.ensures ∙ ap (on_top (λ s. record s { has_version = true })) (ap app_of_fields c.override_help.ensures ∙ c.new.ensures.app) in
    let bare : app_of c.no_binary_name.result ≡ on_top (λ s. record s { has_version = true; no_binary_name = true }) (new_app (codes "shards")) =
    ap app_of_fields c.no_binary_name.ensures ∙ ap (on_top (λ s. record s { no_binary_name = true })) versioned in
    let side = one-more _ _ c.no_binary_name.result c.in_ok-command.command c.word_option.result bare c.word_option.ensures.rule c.word_option.ensures.local c.in_ok-command.ensures in
    let tables = c.in_ok-command-2.ensures ∙ ap (λ a. with_rules a (table_rules words.levels)) side in
    let explain = one-more _ _ c.in_ok-command-2.command c.in_ok-arg.field-0 c.explain_option.result tables c.explain_option.ensures.rule c.explain_option.ensures.local c.in_ok-arg.ensures in
    IfOk-weaker c.with_division.result _ IsLineCommand (λ r h. (words, h ∙ ap (λ a. with_rules a division_rules) explain)) c.with_division.ensures
