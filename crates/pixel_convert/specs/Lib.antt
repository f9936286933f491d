-- What the contracts cite.
pub mod Numbers
pub mod Sizes
pub mod Pairs
pub mod Gathering
pub mod Places
pub mod Runs
pub mod Samples
pub mod PairWords
pub mod Along
