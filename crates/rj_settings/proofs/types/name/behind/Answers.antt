use Rattle.std.proofs.lemmas.Str.Pattern.{strip_prefix_char}
use Rattle.rj_settings.proofs.NameFacts.{behind_found}
use Rattle.rj_settings.proofs.types.name.behind.Goals as goal

pub returns : goal.returns
returns c = behind_found c.args.sign c.args.text.now c.strip_prefix.result (strip_prefix_char c.args.sign c.args.text.now c.strip_prefix.result c.strip_prefix.ensures.cases c.requires)
