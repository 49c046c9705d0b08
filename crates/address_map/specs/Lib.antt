pub mod Sections
pub mod Paths
pub mod Told
pub mod Map
