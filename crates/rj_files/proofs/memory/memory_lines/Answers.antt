use Rattle.std.proofs.Common.{◌∙◌, ◌++◌, List, ℕ, ap₂, inl, inr}
use Rattle.std.specs.Prelude.{string_bytes}
use Rattle.rj_files.proofs.memory.memory_lines.Goals as goal

pub returns-then-line : goal.returns-then-line
returns-then-line g c = inl (c.if-line.true, c.in_ok-lines.ensures)

pub returns : goal.returns
returns g c =
    let whole = c.in_ok-push_str.ensures.bytes ∙ ap₂ (λ (x y : List ℕ). x ++ y) c.in_ok-lines.ensures c.as_str.ensures.value in
    inr (c.if-line.false, (string_bytes c.in_ok-more.more, c.in_ok-more.ensures, whole))
