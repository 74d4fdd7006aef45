use Rattle.std.proofs.Common.{◌≡◌, ◌∙◌, ap, sym, false, codes, rules}
use Rattle.std.specs.Str.{bytes_eq}
use Rattle.rj_line.specs.Script.{body_of}
use Rattle.rj_line.proofs.ReadingFacts.{body-other}
use Rattle.rj_line.proofs.script.parcels.read_body.Goals as goal

pub returns-then-not-is_text : goal.returns-then-not-is_text
returns-then-not-is_text c =
    let other : bytes_eq c.in-Some.kind.now (codes "rows") ≡ false = search rules in
    sym (ap body_of c.in-Some.ensures.cut ∙ body-other c.in-Some.kind.now c.in-Some.rows.now other)
