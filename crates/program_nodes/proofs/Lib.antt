-- The lemmas of this crate, one subject a file.
pub mod FormsFit
pub mod NeatNodes
pub mod LowNodes
pub mod Growing
pub mod ResultRows
pub mod SourceRows
pub mod SourceTables
pub mod ProgramNodes
pub mod SourceStarts
pub mod StartValues
pub mod RowValues
pub mod SourceValues
pub mod SourceOutputs
pub mod FormSteps
