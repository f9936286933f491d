-- What the contracts cite.
pub mod Yuv
pub mod Samples
pub mod Exact
pub mod Sets
pub mod Legal
pub mod Parts
pub mod Lines
pub mod Entries
