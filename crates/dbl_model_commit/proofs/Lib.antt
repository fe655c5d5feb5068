pub use Rattle.dbl_model_history.proofs.BoundLemmas as ModelHistoryBoundLemmas
pub use Rattle.dbl_model_history.proofs.RangeLemmas as ModelHistoryRangeLemmas
pub use Rattle.dbl_model_history.proofs.RowKeys as ModelHistoryRowKeys
pub use Rattle.dbl_model_history.proofs.RowLemmas as ModelHistoryRowLemmas
pub use Rattle.dbl_model_table.proofs.KeyLemmas as ModelTableKeyLemmas
pub use Rattle.dbl_value_types.proofs.TypeLemmas as ValueTypeLemmas
pub mod BlockLemmas
pub mod Splitting
pub mod Learning
pub mod CellFits
pub mod ChangeFits
pub mod BegunLemmas
pub mod MarkedLemmas
pub mod PieceLemmas
pub mod ShapeLemmas
pub mod Reshaping
