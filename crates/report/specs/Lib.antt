pub mod Text
pub mod Page
pub mod Window
pub mod Iteration
pub mod Frames
