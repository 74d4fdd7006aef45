use Rattle.std.proofs.Math.Facts.{to_z-of_z}
use Rattle.rj_condition.proofs.DecimalParts.{made}
use Rattle.rj_condition.proofs.lexer.decimal_of.Goals as goal

pub returns-then-unsigned_abs-lt1000000000000000000 : goal.returns-then-unsigned_abs-lt1000000000000000000
returns-then-unsigned_abs-lt1000000000000000000 c = made c.args.units _ c.args.scale _ (to_z-of_z c.ranges.units)
