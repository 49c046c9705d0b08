pub mod Header
pub mod Extent
pub mod Inside
pub mod Flags
pub mod Name
