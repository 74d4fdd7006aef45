use Rattle.std.proofs.Common.{inr}
use Rattle.std.specs.Prelude.{ℕ, List, Option}
use Rattle.std.proofs.lemmas.Result.{IfErr-at_err, IfOk-at_ok}
use Rattle.rj_line.specs.declared.line.Line.{Line}
use Rattle.rj_files.specs.Streams.{IsWrittenOf, WritesOf}
use Rattle.rj_files.specs.declared.joining.Written.{Written}
use Rattle.rj_files.proofs.outputs.write_file.Goals as goal

-- what was written to one writer was written
written_to : (line joined : Line) (left right before after : Option (List ℕ)) (written : Written) → WritesOf line joined left right before after written
    → IsWrittenOf line joined left right written
written_to line joined left right before after written writes = (before, after, writes)

pub returns-in-Ok-finish-clause-written : goal.returns-in-Ok-finish-clause-written
returns-in-Ok-finish-clause-written g c =
    written_to c.args.line.now _ (g.L.Stream.tells c.args.left.now) (g.S.Stream.tells c.args.right.now) _ _ c.in-Ok-written.written
    (IfOk-at_ok _ c.in-Ok-written.is c.write_streams-written.ensures.written)

pub returns-in-Err-written-clause-asked : goal.returns-in-Err-written-clause-asked
returns-in-Err-written-clause-asked g c asks other = inr (IfErr-at_err _ c.in-Err-written.is (c.write_streams-written.ensures.asked asks) other)
