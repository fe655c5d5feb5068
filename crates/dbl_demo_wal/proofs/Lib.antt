pub use Rattle.dbl_tables_laws.proofs.DoneLemmas as TablesLawsDoneLemmas
pub use Rattle.dbl_tables_laws.proofs.JudgedLemmas as TablesLawsJudgedLemmas
pub use Rattle.dbl_tables_laws.proofs.SendableLemmas as TablesLawsSendableLemmas
pub mod ChangeLaws
pub mod EntryLaws
pub mod ListLemmas
pub mod WalLaws
pub mod SerialLaws
pub mod GrowthLaws
pub mod GroupLemmas
pub mod ReleaseLaws
pub mod GrowsLemmas
pub mod LeftLemmas
pub mod SizeLemmas
pub mod ContentLemmas
pub mod TableLemmas
pub mod RangeLaws
pub mod KeptTables
pub mod FitLaws
pub mod EndLemmas
pub mod ExampleLemmas
pub mod LogLeftLemmas
pub mod KeyTexts
pub mod LogRows
pub mod FirstRows
pub mod PlaceLemmas
pub mod SelectLemmas
pub mod ExampleLines
pub mod ExampleActs
pub mod ExampleWal
