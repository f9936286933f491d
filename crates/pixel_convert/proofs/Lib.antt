-- Laws: what the proofs of several functions and of other crates cite.
pub mod Sampled
pub mod Variants
pub mod Bytes
pub mod Fetched
pub mod Steps
pub mod Places
pub mod Along
pub mod RowProgress
pub mod GatheringLaws
pub mod PairWordsLaws
pub mod PairsLaws
pub mod PlacesLaws
pub mod RunsLaws
pub mod SamplesLaws
