-- Laws: what the proofs of several functions and of other crates cite.
pub mod Bounds
pub mod ApartLaws
pub mod AnswersLaws
pub mod Refused
pub mod ByFormat
pub mod OffsetsLaws
pub mod RulesLaws
