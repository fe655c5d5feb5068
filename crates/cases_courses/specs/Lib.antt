pub mod AlteredHistories
