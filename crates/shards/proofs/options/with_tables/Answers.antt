use Rattle.std.proofs.Common.{◌≡◌, refl}
use Rattle.std.proofs.lemmas.Result.{IfOk-weaker}
use Rattle.clap.specs.Words.{app_of}
use Rattle.rj_line.specs.Options.{with_rules}
use Rattle.shards.specs.Options.{table_rules}
use Rattle.shards.proofs.OptionFacts.{one-more}
use Rattle.shards.proofs.options.with_tables.Goals as goal

pub returns : goal.returns
returns c =
    let left = one-more _ _ c.args.command c.in_ok-arg.field-0 c.text_option.result refl c.text_option.ensures.rule c.text_option.ensures.local c.in_ok-arg.ensures in
    let right = one-more _ _ c.in_ok-arg.field-0 c.in_ok-arg-2.field-0 c.text_option-2.result left c.text_option-2.ensures.rule c.text_option-2.ensures.local c.in_ok-arg-2.ensures in
    let left_types = one-more _ _ c.in_ok-arg-2.field-0 c.in_ok-arg-3.field-0 c.text_option-3.result right c.text_option-3.ensures.rule c.text_option-3.ensures.local c.in_ok-arg-3.ensures in
    let right_types = one-more _ _ c.in_ok-arg-3.field-0 c.in_ok-arg-4.field-0 c.text_option-4.result left_types c.text_option-4.ensures.rule c.text_option-4.ensures.local c.in_ok-arg-4.ensures in
    let join = one-more _ _ c.in_ok-arg-4.field-0 c.in_ok-arg-5.field-0 c.text_option-5.result right_types c.text_option-5.ensures.rule c.text_option-5.ensures.local c.in_ok-arg-5.ensures in
    let null = one-more _ _ c.in_ok-arg-5.field-0 c.in_ok-arg-6.field-0 c.text_option-6.result join c.text_option-6.ensures.rule c.text_option-6.ensures.local c.in_ok-arg-6.ensures in
    let left_null = one-more _ _ c.in_ok-arg-6.field-0 c.in_ok-arg-7.field-0 c.texts_option.result null c.texts_option.ensures.rule c.texts_option.ensures.local c.in_ok-arg-7.ensures in
    let right_null = one-more _ _ c.in_ok-arg-7.field-0 c.in_ok-arg-8.field-0 c.texts_option-2.result left_null c.texts_option-2.ensures.rule c.texts_option-2.ensures.local c.in_ok-arg-8.ensures in
    let delimiter = one-more _ _ c.in_ok-arg-8.field-0 c.in_ok-arg-9.field-0 c.delimiter_option.result right_null c.delimiter_option.ensures.rule c.delimiter_option.ensures.local c.in_ok-arg-9.ensures in
    let left_delimiter = one-more _ _ c.in_ok-arg-9.field-0 c.in_ok-arg-10.field-0 c.text_option-7.result delimiter c.text_option-7.ensures.rule c.text_option-7.ensures.local c.in_ok-arg-10.ensures in
    let right_delimiter = one-more _ _ c.in_ok-arg-10.field-0 c.in_ok-arg-11.field-0 c.text_option-8.result left_delimiter c.text_option-8.ensures.rule c.text_option-8.ensures.local c.in_ok-arg-11.ensures in
    IfOk-weaker c.arg-12.result _ (λ r. app_of r ≡ with_rules (app_of c.args.command) (table_rules c.args.levels))
    (λ r h. one-more _ _ c.in_ok-arg-11.field-0 r c.strict_option.result right_delimiter c.strict_option.ensures.rule c.strict_option.ensures.local h) c.arg-12.ensures
