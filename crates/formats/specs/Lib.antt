-- What the contracts cite.
pub mod Codes
pub mod Lanes
pub mod Table
pub mod Classes
pub mod Numbers
pub mod Formats
