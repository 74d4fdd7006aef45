use Rattle.std.proofs.Common.{◌≡◌, ◌∙◌, [], ℕ, List, Bor, Global, Vec, ap, map}
use Rattle.rj_shards.proofs.HeaderFacts.{header-only}
use Rattle.rj_shards.proofs.division.header.text_of_names.Goals as goal

pub returns-in-Ok : goal.returns-in-Ok
returns-in-Ok c =
    let names = map (λ (n : Bor (List ℕ)). n.now) c.args.names.now in
    let start : c.new-output.result.writer.items ≡ [] = ap (λ (v : Vec ℕ Global). v.items) c.new-output.ensures.writer ∙ c.new.ensures.items in
    let wrote = rw c.comma.ensures at c.in-Ok.ensures.ok in
    header-only _ names c.args.table.now.rows _ _ _ c.requires.rows start wrote (ap (λ (v : Vec ℕ Global). v.items) c.into_inner.ensures)
