use Rattle.std.proofs.Common.{refl}
use Rattle.merges.proofs.RefusalFacts.{of_known}
use Rattle.merges.proofs.failure.Failure.of_merge.Goals as goal

pub returns-in_ok-name_of-in-ReadDevice-clause-failure : goal.returns-in_ok-name_of-in-ReadDevice-clause-failure
returns-in_ok-name_of-in-ReadDevice-clause-failure c = of_known _ _ _ _ c.in-ReadDevice.is (c.in_ok-name_of-in-ReadDevice.field-0, c.in_ok-name_of-in-ReadDevice.ensures, refl)

pub returns-in_ok-name_of-in-NoHeader-clause-failure : goal.returns-in_ok-name_of-in-NoHeader-clause-failure
returns-in_ok-name_of-in-NoHeader-clause-failure c = of_known _ _ _ _ c.in-NoHeader.is (c.in_ok-name_of-in-NoHeader.field-0, c.in_ok-name_of-in-NoHeader.ensures, refl)

pub returns-in_ok-name_of-in-NoPlaces-clause-failure : goal.returns-in_ok-name_of-in-NoPlaces-clause-failure
returns-in_ok-name_of-in-NoPlaces-clause-failure c = of_known _ _ _ _ c.in-NoPlaces.is (c.in_ok-name_of-in-NoPlaces.field-0, c.in_ok-name_of-in-NoPlaces.ensures, refl)

pub returns-in_ok-name_of-in-OtherHeader-clause-failure : goal.returns-in_ok-name_of-in-OtherHeader-clause-failure
returns-in_ok-name_of-in-OtherHeader-clause-failure c = of_known _ _ _ _ c.in-OtherHeader.is (c.in_ok-name_of-in-OtherHeader.field-0, c.in_ok-name_of-in-OtherHeader.ensures, refl)

pub returns-in_ok-name_of-in-RaggedRow-clause-failure : goal.returns-in_ok-name_of-in-RaggedRow-clause-failure
returns-in_ok-name_of-in-RaggedRow-clause-failure c = of_known _ _ _ _ c.in-RaggedRow.is (c.in_ok-name_of-in-RaggedRow.field-0, c.in_ok-name_of-in-RaggedRow.ensures, refl)

pub returns-in_ok-name_of-in-BadPlace-clause-failure : goal.returns-in_ok-name_of-in-BadPlace-clause-failure
returns-in_ok-name_of-in-BadPlace-clause-failure c = of_known _ _ _ _ c.in-BadPlace.is (c.in_ok-name_of-in-BadPlace.field-0, c.in_ok-name_of-in-BadPlace.ensures, refl)

pub returns-in_ok-name_of-in-NoPlace-clause-failure : goal.returns-in_ok-name_of-in-NoPlace-clause-failure
returns-in_ok-name_of-in-NoPlace-clause-failure c = of_known _ _ _ _ c.in-NoPlace.is (c.in_ok-name_of-in-NoPlace.field-0, c.in_ok-name_of-in-NoPlace.ensures, refl)

pub returns-in_ok-name_of-in-NotInOrder-clause-failure : goal.returns-in_ok-name_of-in-NotInOrder-clause-failure
returns-in_ok-name_of-in-NotInOrder-clause-failure c = of_known _ _ _ _ c.in-NotInOrder.is (c.in_ok-name_of-in-NotInOrder.field-0, c.in_ok-name_of-in-NotInOrder.ensures, refl)
