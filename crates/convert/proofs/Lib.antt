-- Laws: what the proofs of several functions and of other crates cite.
pub mod Words
pub mod UnmovedLaws
pub mod FaintNumbersLaws
pub mod HalfLaws
pub mod CodeLaws
pub mod Splats
pub mod LaneWords
pub mod ColorLaws
pub mod Patterns
pub mod SplatLaws
pub mod UnitsLaws
