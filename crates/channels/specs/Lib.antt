-- What the contracts cite.
pub mod Fractions
pub mod Expansion
pub mod Nearest
pub mod Luminance
pub mod Floats
pub mod Exact
