-- What the contracts cite.
pub mod Fill
pub mod Unmoved
pub mod Units
pub mod Half
pub mod FaintNumbers
pub mod Splat
pub mod Color
pub mod LaneCodes
