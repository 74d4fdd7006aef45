use Rattle.std.proofs.Common.{◌∷◌, ◌∙◌, ap, sym, List, ℕ}
use Rattle.std.specs.Str.Lines.{lines}
use Rattle.rj_line.proofs.SplitFacts.{lines_more}
use Rattle.rj_line.proofs.script.lines.first_line.Goals as goal

pub returns-in-Some-clause-lines : goal.returns-in-Some-clause-lines
returns-in-Some-clause-lines c =
    lines_more c.args.rest.now c.in-Some.line.now c.in-Some.more.now c.in-Some.ensures.cut
    ∙ ap (λ (t : List ℕ). t ∷ lines c.in-Some.more.now) (sym c.without_carriage_return.ensures)
