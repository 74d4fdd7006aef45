use Rattle.rj_line.proofs.ChainFacts.{chain_next}
use Rattle.rj_line.proofs.options.with_options.Goals as goal

pub loop-option-preserved : goal.loop-option-preserved
loop-option-preserved c =
    chain_next c.args.options.now c.loop-option.option-index _ c.args.command c.loop-option.command c.in_ok-command.command c.argument.result c.loop-option-test.true
    c.loop-option.invariant c.argument.ensures c.in_ok-command.ensures
