use Rattle.std.proofs.Common.{rules}
use Rattle.std.proofs.Output.{has_written_append}
use Rattle.std.specs.Result.{IsOk}
use Rattle.rj_explain.proofs.mismatch.show_decimal.Goals as goal

pub returns : goal.returns
returns g c = λ plain ok.
    let done : IsOk c.show_digits.result = search rules in
    let had = c.show_digits.ensures plain done in
    has_written_append _ _ _ _ _ _ had (c.write_str.ensures.writes had.plain ok)
