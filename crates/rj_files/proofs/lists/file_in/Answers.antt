use Rattle.std.proofs.Common.{lit<}
use Rattle.std.proofs.lemmas.Str.Pattern.{strip_prefix_char}
use Rattle.rj_files.proofs.ListFacts.{file-found, name-found}
use Rattle.rj_files.proofs.lists.file_in.Goals as goal

pub returns-clause-file : goal.returns-clause-file
returns-clause-file c = file-found c.args.value.now c.strip_prefix.result (strip_prefix_char 64 c.args.value.now c.strip_prefix.result c.strip_prefix.ensures.cases (lit< tt))

pub returns-clause-name : goal.returns-clause-name
returns-clause-name c = name-found c.args.value.now c.strip_prefix.result (strip_prefix_char 64 c.args.value.now c.strip_prefix.result c.strip_prefix.ensures.cases (lit< tt))
