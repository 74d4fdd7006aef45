-- The options of the command line, one more at a time; and that `clap` says what it makes of words.
use Rattle.std.proofs.Common.{◌≡◌, ◌∙◌, ap₂, false, refl, true}
use Rattle.clap.proofs.OnLiterals.{clap_on_literals}
use Rattle.clap.specs.Words.{AddsArg, App, Rule, app_of, is_simple, is_simple_and_free, rule_of, with_rule}
use Rattle.clap.specs.declared.builder.arg.Arg.{Arg}
use Rattle.clap.specs.declared.builder.command.Command.{Command}
use Rattle.shards.specs.Options.{OptionWords, line_app}

-- a command with one more argument has one more rule
pub one-more : (app : App) (r : Rule) (old new : Command) (a : Arg) → app_of old ≡ app → rule_of a ≡ r → a.global ≡ false → AddsArg old a new → app_of new ≡ with_rule app r
one-more app r old new a is rule local added = added.shape local ∙ ap₂ with_rule is rule

pub simple : (h : OptionWords) → is_simple (line_app h) ≡ true
unfolding clap_on_literals
simple h = refl

pub free : (h : OptionWords) → is_simple_and_free (line_app h) ≡ true
unfolding clap_on_literals
free h = refl
