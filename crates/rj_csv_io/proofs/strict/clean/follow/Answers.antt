use Rattle.std.proofs.Common.{sym, ap, ◌∙◌, Some}
use Rattle.rj_csv_io.specs.declared.strict.standing.Place.{Place}
use Rattle.rj_csv_io.proofs.CleanFacts.{follow-whole}
use Rattle.rj_csv_io.proofs.strict.clean.follow.Goals as goal

pub returns-then-follow_without_quotes : goal.returns-then-follow_without_quotes
returns-then-follow_without_quotes c =
    follow-whole c.args.delimiter c.args.before c.args.text.now c.requires.some (c.follow_without_quotes.ensures c.if-follow_without_quotes.true) ∙ ap (λ (p : Place). Some p) (sym c.place_behind.ensures)
