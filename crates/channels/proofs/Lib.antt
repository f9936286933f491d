-- Laws: what the proofs of several functions and of other crates cite.
pub mod NearestLaws
pub mod ExactLaws
pub mod ExpansionLaws
pub mod NearestCode
pub mod ExpandedBits
pub mod Even
pub mod FloatsLaws
pub mod FractionsLaws
pub mod LuminanceLaws
pub mod Nearest
