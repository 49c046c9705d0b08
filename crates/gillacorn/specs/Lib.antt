pub mod Code
pub mod Lookups
pub mod Windows
pub mod Headers
pub mod Sections
pub mod Frames
pub mod Clashes
pub mod Bundles
