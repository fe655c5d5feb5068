mod AlteredLemmas
mod VersionLemmas
