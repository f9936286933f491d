-- Laws: what the proofs of several functions and of other crates cite.
pub mod Lanes
pub mod RestoredLaws
pub mod BoundsLaws
pub mod Parts
pub mod StepsLaws
pub mod BlockLaws
pub mod TexelsLaws
pub mod Words
