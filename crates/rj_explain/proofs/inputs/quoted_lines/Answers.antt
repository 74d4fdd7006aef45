use Rattle.std.proofs.Common.{false, inr, refl}
use Rattle.std.specs.Prelude.{None}
use Rattle.std.proofs.lemmas.Result.{IfOk-weaker}
use Rattle.rj_csv_io.specs.Grammar.{File}
use Rattle.rj_explain.proofs.InputFacts.{above-derives}
use Rattle.rj_explain.proofs.inputs.quoted_lines.Goals as goal

pub quote_empty_lines-requires-in-Err : goal.quote_empty_lines-requires-in-Err
quote_empty_lines-requires-in-Err c =
    let (lines, above, spelled) = c.above_fault-above.ensures in
    (false, record { lines = lines; rest = None }, above-derives _ _ _ _ lines above spelled)

pub returns-in-Err : goal.returns-in-Err
returns-in-Err c =
    let (lines, above, spelled) = c.above_fault-above.ensures in
    let file : File = record { lines = lines; rest = None } in
    let derives = above-derives _ _ _ _ lines above spelled in
    IfOk-weaker c.quote_empty_lines-in-Err.result _ _ (λ v told. (file, inr (c.in-Err.fault, c.in-Err.ensures.fault, above, refl), told false file derives))
    c.quote_empty_lines-in-Err.ensures
