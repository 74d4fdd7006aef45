use Rattle.rj_line.proofs.ReadTypes.{lines_list, no_fault, own_types}
use Rattle.rj_line.proofs.suggest.laws.lines_are_read_back.Goals as goal

pub returns-clause-list : goal.returns-clause-list
returns-clause-list c = lines_list

pub returns-clause-types : goal.returns-clause-types
returns-clause-types c = own_types

pub returns-clause-named : goal.returns-clause-named
returns-clause-named c = no_fault
