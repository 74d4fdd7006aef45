use Rattle.std.proofs.Common.{arith}
use Rattle.rj_settings.proofs.NumberFacts.{one_some, one_none, two_some, two_none, too_short, too_long}
use Rattle.rj_settings.proofs.types.number.small_number.Goals as goal

pub returns-in-len1-clause-found : goal.returns-in-len1-clause-found
returns-in-len1-clause-found c = one_some c.args.digits.now c.digit.result (omega (arith, c.in-len1.len_at_least, c.in-len1.len_below)) c.digit.ensures

pub returns-in-len1-clause-missing : goal.returns-in-len1-clause-missing
returns-in-len1-clause-missing c = one_none c.args.digits.now c.digit.result (omega (arith, c.in-len1.len_at_least, c.in-len1.len_below)) c.digit.ensures

pub returns-in-len2-clause-found : goal.returns-in-len2-clause-found
returns-in-len2-clause-found c = two_some c.args.digits.now c.two_digits.result (omega (arith, c.in-len2.len_at_least, c.in-len2.len_below)) c.two_digits.ensures

pub returns-in-len2-clause-missing : goal.returns-in-len2-clause-missing
returns-in-len2-clause-missing c = two_none c.args.digits.now c.two_digits.result (omega (arith, c.in-len2.len_at_least, c.in-len2.len_below)) c.two_digits.ensures

pub returns-in_default-clause-missing : goal.returns-in_default-clause-missing
returns-in_default-clause-missing c = too_short c.args.digits.now (omega (arith, c.in_default.len_below))

pub returns-in_default-2-clause-missing : goal.returns-in_default-2-clause-missing
returns-in_default-2-clause-missing c = too_long c.args.digits.now (omega (arith, c.in_default.len_at_least))
