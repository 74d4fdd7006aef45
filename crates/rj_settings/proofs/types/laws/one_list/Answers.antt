use Rattle.rj_settings.proofs.OneList.{one_list}
use Rattle.rj_settings.proofs.types.laws.one_list.Goals as goal

pub returns : goal.returns
returns c = one_list
