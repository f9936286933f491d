-- Laws: what the proofs of several functions and of other crates cite.
pub mod InsideLaws
pub mod Rows
pub mod PlanarRegions
pub mod Texel
pub mod LastTexel
pub mod Laid
pub mod ByKind
pub mod Planar
