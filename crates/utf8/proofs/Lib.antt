pub mod Leads
pub mod Classed
pub mod Reading
pub mod Grammar
pub mod Texts
