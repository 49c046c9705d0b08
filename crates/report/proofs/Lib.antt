pub mod Writing
pub mod Pages
pub mod Windows
pub mod WindowCase
pub mod Columns
pub mod Yields
pub mod FramesCase
pub mod Determined
