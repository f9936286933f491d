-- Laws: what the proofs of several functions and of other crates cite.
pub mod Classified
pub mod FormatsLaws
pub mod Listed
pub mod NumbersLaws
pub mod Packing
pub mod TableLaws
