use Rattle.std.proofs.Common.{◌∙◌, Bor, List, ap, map, refl, subst, sym, ℕ}
use Rattle.std.specs.Prelude.{string_bytes}
use Rattle.rj_line.specs.Line.{IsLineOf}
use Rattle.shards.specs.Heads.{Begins}
use Rattle.shards.specs.Storages.{MayFail}
use Rattle.shards.proofs.ExplainFacts.{told-by}
use Rattle.shards.proofs.explaining.header_lines.Goals as goal

pub returns : goal.returns
returns g c =
    let holds = g.S.Storage.holds c.args.storage.now in
    let fails = MayFail g.S.Reader.Input.count (g.S.Storage.opens c.args.storage.now) in
    let l = c.in-Some.line in
    let read = rw c.in-Some.is at c.in_ok-line.ensures.line in
    let left = rw c.in-Some-2.is at c.in_ok-left.ensures.beginning in
    let right = rw c.in-Some-3.is at c.in_ok-right.ensures.beginning in
    told-by holds fails c.args.fault.now (map (λ (w : Bor (List ℕ)). w.now) c.args.words.now) l string_bytes c.explain.result _ c.explain.ensures
    (subst (λ (ws : List (List ℕ)). IsLineOf 1 ws l) (ap (map (λ (w : Bor (List ℕ)). w.now)) c.as_slice.ensures.value ∙ c.in_ok-words.ensures) read)
    refl
    (subst (Begins (holds l.left.now)) (sym c.as_slice-2.ensures.value) left)
    (subst (Begins (holds l.right.now)) (sym c.as_slice-3.ensures.value) right)
