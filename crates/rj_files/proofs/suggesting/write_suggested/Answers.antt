use Rattle.std.proofs.Common.{rules}
use Rattle.std.specs.Io.KnownBytes.{Appends}
use Rattle.rj_files.proofs.UnsuggestedFacts.{unsuggested-unwritten}
use Rattle.rj_files.proofs.suggesting.write_suggested.Goals as goal

pub returns-in-Ok-written-clause-written : goal.returns-in-Ok-written-clause-written
returns-in-Ok-written-clause-written g c =
    let told = c.in-Ok.ensures.suggestion in
    let appends : Appends (g.W.Write.contents c.args.writer) (g.W.Write.contents c.into_parts-writer.result.0) c.in-Ok.found.suggestion.list.items = search rules in
    (told.0, c.in-Ok.found.suggestion, told.1, told.2, appends)

pub returns-in-Err-clause-unwritten : goal.returns-in-Err-clause-unwritten
returns-in-Err-clause-unwritten g c asks is told = absurd (unsuggested-unwritten _ _ _ _ _ c.in-Err.ensures.fault is)
