use Rattle.std.proofs.Common.{sym, ◌∙◌}
use Rattle.rj_csv_io.proofs.WalkFacts.{clean}
use Rattle.rj_csv_io.proofs.strict.clean.is_clean.Goals as goal

pub returns-in-Some : goal.returns-in-Some
returns-in-Some c = λ e h. clean c.args.delimiter h c.args.full c.args.text.now c.in-Some.place c.in-Some.ensures (sym c.ends_well.ensures ∙ e)
