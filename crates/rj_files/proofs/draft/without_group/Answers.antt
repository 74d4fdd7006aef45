use Rattle.rj_files.proofs.DraftFacts.{without_group_is}
use Rattle.rj_files.proofs.draft.without_group.Goals as goal

pub returns : goal.returns
returns c = without_group_is c.args.mode
