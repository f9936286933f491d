-- What the contracts cite.
pub mod Layouts
pub mod Replies
pub mod Planes
pub mod Promises
pub mod Depth
pub mod Pixels
pub mod Pictures
pub mod PixelBytes
pub mod Rows
pub mod PictureRows
