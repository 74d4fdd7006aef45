-- The errors of clauses that can't be read or bound, and of columns that can't be named.
use Rattle.rj_condition.specs.declared.refused.BindRefused.{BindRefused}
use Rattle.rj_condition.specs.declared.refused.BindRefused.TheVariants as bind
use Rattle.rj_condition.specs.declared.refused.ParseRefused.{ParseRefused}
use Rattle.rj_condition.specs.declared.refused.ParseRefused.TheVariants as parse
use Rattle.rj_engine.specs.declared.naming.NamingRefused.{NamingRefused}
use Rattle.rj_engine.specs.declared.naming.NamingRefused.TheVariants as naming
use Rattle.rj_line.specs.declared.fault.Fault.{Fault}
use Rattle.rj_line.specs.declared.fault.Fault.TheVariants as fault

-- the error of a clause that can't be read
abbrev pub parse_fault : ParseRefused → Fault
parse_fault (parse.Syntax byte) = fault.Syntax byte
parse_fault parse.TooDeep = fault.TooDeep
parse_fault parse.TooLong = fault.ClauseTooLong
parse_fault parse.Memory = fault.Memory

-- the error of a clause that can't be bound
abbrev pub bind_fault : BindRefused → Fault
bind_fault bind.UnknownColumn = fault.UnknownColumn
bind_fault bind.AmbiguousColumn = fault.AmbiguousColumn
bind_fault bind.TypeMismatch = fault.TypeMismatch
bind_fault bind.RepeatedUsing = fault.RepeatedUsing
bind_fault bind.Memory = fault.Memory

-- the error of chosen columns that can't be named
abbrev pub naming_fault : NamingRefused → Fault
naming_fault (naming.NoFreeName column) = fault.NoFreeName column
naming_fault (naming.SelectedName entry) = fault.SelectedName entry
naming_fault naming.Memory = fault.Memory
