-- What the contracts cite.
pub mod Call
