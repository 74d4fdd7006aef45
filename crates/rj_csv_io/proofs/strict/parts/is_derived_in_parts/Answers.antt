use Rattle.std.proofs.Common.{sym, ◌∙◌, Ok}
use Rattle.rj_csv_io.proofs.Answering.{is-derived}
use Rattle.rj_csv_io.proofs.WalkFacts.{clean}
use Rattle.rj_csv_io.proofs.strict.parts.is_derived_in_parts.Goals as goal

pub returns-in-Some : goal.returns-in-Some
returns-in-Some g c = λ e header.
    let text = c.args.text.now in
    let said = clean c.args.delimiter header c.args.full text c.in-Some.place c.in-Some.ensures (sym c.ends_well.ensures ∙ e) in
    is-derived c.args.delimiter header c.args.full text (Ok tt) (sym said)
