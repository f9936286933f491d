-- Laws: what the proofs of several functions and of other crates cite.
pub mod AccuracyLaws
pub mod UntouchedLaws
pub mod SetsLaws
pub mod NearestLaws
pub mod PicturesLaws
pub mod Binary16Laws
pub mod FillsLaws
pub mod LanesLaws
pub mod LayoutsLaws
pub mod RowsLaws
pub mod WorkedTableLaws
