mod HeaderFacts
mod OperandFacts
mod AlikeFacts
pub mod RunFacts
mod PreparedFacts
mod ExpectedFacts
mod CountFacts
mod EndFacts
pub mod TextFacts
mod ApartFacts
mod BackFacts
mod NumberFacts
mod ReportFacts
pub mod SideFacts
pub mod StatisticsFacts
mod AutoFacts
