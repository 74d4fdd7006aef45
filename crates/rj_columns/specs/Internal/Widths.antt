-- Whole numbers, whatever the width in which they are kept. Internal: no public contract uses it.
use Rattle.std.specs.Prelude.{List, ℤ}
use Rattle.rj_columns.specs.declared.numbers.NumberSlice.{NumberSlice}
use Rattle.rj_columns.specs.declared.numbers.NumberSlice.TheVariants as lent
use Rattle.rj_columns.specs.declared.numbers.Values.{Values}
use Rattle.rj_columns.specs.declared.numbers.Values.TheVariants.{Narrow, Wide}

abbrev pub numbers_in : Values → List ℤ
numbers_in (Narrow v) = v.items
numbers_in (Wide v) = v.items

-- the same of borrowed numbers
abbrev pub numbers_lent : NumberSlice → List ℤ
numbers_lent (lent.Narrow v) = v.now
numbers_lent (lent.Wide v) = v.now
