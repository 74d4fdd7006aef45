use Rattle.std.proofs.Common.{◌≡◌, refl}
use Rattle.std.proofs.lemmas.Result.{IfOk-weaker}
use Rattle.clap.specs.Words.{app_of}
use Rattle.rj_line.specs.Options.{with_rules}
use Rattle.shards.specs.Options.{division_rules}
use Rattle.shards.proofs.OptionFacts.{one-more}
use Rattle.shards.proofs.options.with_division.Goals as goal

pub returns : goal.returns
returns c =
    let parts = one-more _ _ c.args.command c.in_ok-arg.field-0 c.number_option.result refl c.number_option.ensures.rule c.number_option.ensures.local c.in_ok-arg.ensures in
    let from = one-more _ _ c.in_ok-arg.field-0 c.in_ok-arg-2.field-0 c.place_option.result parts c.place_option.ensures.rule c.place_option.ensures.local c.in_ok-arg-2.ensures in
    let to = one-more _ _ c.in_ok-arg-2.field-0 c.in_ok-arg-3.field-0 c.place_option-2.result from c.place_option-2.ensures.rule c.place_option-2.ensures.local c.in_ok-arg-3.ensures in
    let out = one-more _ _ c.in_ok-arg-3.field-0 c.in_ok-arg-4.field-0 c.text_option.result to c.text_option.ensures.rule c.text_option.ensures.local c.in_ok-arg-4.ensures in
    IfOk-weaker c.arg-5.result _ (λ r. app_of r ≡ with_rules (app_of c.args.command) division_rules)
    (λ r h. one-more _ _ c.in_ok-arg-4.field-0 r c.number_option-2.result out c.number_option-2.ensures.rule c.number_option-2.ensures.local h) c.arg-5.ensures
