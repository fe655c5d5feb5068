pub mod LayoutLemmas
pub mod TokenLemmas
pub mod SideLemmas
pub mod ValueLemmas
pub mod KeySteps
pub mod ProgressLemmas
