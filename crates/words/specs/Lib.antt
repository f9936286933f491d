-- What the contracts cite.
pub mod Little
pub mod Tests
pub mod Iterate
pub mod Multiples
pub mod Integers
pub mod Computed
