use Rattle.std.proofs.Common.{◌≡◌, arith, rules, sym, subst}
use Rattle.std.specs.Prelude.{IsUtf8}
use Rattle.rj_columns.specs.NumbersWritten.{text_of}
use Rattle.rj_command.proofs.NumberFacts.{text-utf8}
use Rattle.rj_command.proofs.join.reports.number_text.Goals as goal

pub unreachable-requires : goal.unreachable-requires
unreachable-requires c =
    let is : c.format.result.now ≡ text_of c.args.scale c.args.units = search rules in
    let text = text-utf8 c.args.scale c.args.units (omega (arith, c.requires)) in
    c.in-Err.ensures.cases.0 (subst IsUtf8 (sym is) text)
