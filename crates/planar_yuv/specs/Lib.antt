-- What the contracts cite.
pub mod Rules
pub mod Offsets
pub mod Apart
pub mod Answers
