use Rattle.std.proofs.Common.{arith}
use Rattle.std.specs.Char.{is_ascii_digit}
use Rattle.std.proofs.lemmas.List.Sums.{prefix_len-le-length}
use Rattle.rj_settings.proofs.WordFacts.{colon_missing, colon_none}
use Rattle.rj_settings.proofs.types.word.colon_numbers.Goals as goal

pub split_at-requires : goal.split_at-requires
split_at-requires c = omega (arith, c.digits_len.ensures, prefix_len-le-length is_ascii_digit c.args.numbers.now)

pub returns-in-Some-clause-missing : goal.returns-in-Some-clause-missing
returns-in-Some-clause-missing c =
    colon_missing c.args.numbers.now c.split_at.result.0.now c.split_at.result.1.now c.in-Some.scale.now c.digits_len.result c.numeric.result c.digits_len.ensures c.split_at.ensures.front
    c.split_at.ensures.back c.in-Some.ensures c.numeric.ensures.missing

pub returns-in-None-clause-missing : goal.returns-in-None-clause-missing
returns-in-None-clause-missing c =
    colon_none c.args.numbers.now c.split_at.result.1.now c.digits_len.result c.digits_len.ensures c.split_at.ensures.back c.in-None.ensures
