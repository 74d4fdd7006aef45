use Rattle.std.proofs.Common.{◌<◌, ◌^◌, rules}
use Rattle.rj_settings.proofs.WordFacts.{no_numeric}
use Rattle.rj_settings.proofs.types.word.numeric.Goals as goal

pub returns-clause-missing : goal.returns-clause-missing
returns-clause-missing c =
    let low : c.in_ok-precision.precision < 2 ^ 64 = search rules in
    let small : c.in_ok-scale.scale < 2 ^ 64 = search rules in
    no_numeric c.in_ok-precision.precision c.in_ok-scale.scale c.args.precision.now c.args.scale.now c.new.result c.in_ok-precision.ensures.found c.in_ok-scale.ensures.found low small
    c.new.ensures.limits
