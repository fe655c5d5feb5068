pub use Rattle.dbl_model_table.proofs as ModelTable
pub use Rattle.dbl_value_types.proofs as Value
pub mod PartLemmas
pub mod Many
pub mod TextLemmas
pub mod SetLemmas
pub mod ColumnLemmas
pub mod ScriptLemmas
pub mod RangeLemmas
