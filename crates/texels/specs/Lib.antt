-- What the contracts cite.
pub mod Texels
pub mod Restored
pub mod Steps
pub mod Blocks
