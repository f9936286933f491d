-- Laws: what the proofs of several functions and of other crates cite.
pub mod RoundTrip
pub mod Library
pub mod Patterns
pub mod Coding
pub mod PackedFormatsLaws
pub mod RowLaws
pub mod AboveInfinity
pub mod Calls
pub mod PackedFormats
pub mod PicturesLaws
pub mod Powers
pub mod Refusals
pub mod Restoration
