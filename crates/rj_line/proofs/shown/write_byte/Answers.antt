use Rattle.std.proofs.Common.{rules}
use Rattle.std.proofs.lemmas.Fmt.{hex_byte}
use Rattle.rj_line.proofs.shown.write_byte.Goals as goal

pub returns : goal.returns
returns g c = search (rules, hex_byte)
