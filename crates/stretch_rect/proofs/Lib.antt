-- Laws: what the proofs of several functions and of other crates cite.
pub mod Sizes
pub mod Bytes
pub mod Decimals
pub mod NearnessLaws
pub mod ExactLaws
pub mod TableSizes
pub mod Clamp
pub mod Clamps
pub mod EntriesLaws
pub mod LegalLaws
pub mod LinesLaws
pub mod PartLaws
pub mod PartsLaws
