pub mod FieldLaws
pub mod Many
pub mod CellLaws
pub mod TableLaws
pub mod OffsetLaws
pub mod Sizes
