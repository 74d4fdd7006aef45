use Rattle.std.proofs.Common.{[], Bor, refl}
use Rattle.clap.specs.Words.{Text}
use Rattle.merges.proofs.LineFacts.{value_or}
use Rattle.merges.proofs.line.null_of.Goals as goal

pub returns : goal.returns
returns c = value_or (λ (s : Bor Text). s.now) _ c.get_str.result c.unwrap_or.result _ [] c.get_str.ensures c.unwrap_or.ensures refl
