pub use Rattle.dbl_model_table.specs as ModelTable
pub use Rattle.dbl_value_types.specs as Value
pub mod Words
pub mod Texts
pub mod Reads
pub mod Columns
pub mod Grammar
pub mod Scripts
pub mod Building
pub mod Ranges
pub mod TypeNames
