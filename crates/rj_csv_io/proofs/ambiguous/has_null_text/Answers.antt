use Rattle.std.proofs.Common.{◌≡◌, sym, true, rules}
use Rattle.rj_csv_io.specs.Tables.{is_null_text}
use Rattle.rj_csv_io.proofs.NullFacts.{decimal-apart, whole-apart}
use Rattle.rj_csv_io.proofs.ambiguous.has_null_text.Goals as goal

pub returns-in-Int : goal.returns-in-Int
returns-in-Int c =
    let lawful : is_null_text c.args.null.now ≡ true = search rules in
    rw c.in-Int.is (sym (whole-apart _ c.args.null.now lawful))

pub returns-in-Num : goal.returns-in-Num
returns-in-Num c =
    let lawful : is_null_text c.args.null.now ≡ true = search rules in
    rw c.in-Num.is (sym (decimal-apart _ _ c.args.null.now lawful))
