use Rattle.rj_files.proofs.LetterFacts.{option-letters}
use Rattle.rj_files.proofs.laws.letters_are_of_options.Goals as goal

pub returns : goal.returns
returns c = option-letters
