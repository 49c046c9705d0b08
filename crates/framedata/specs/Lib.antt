pub mod Records
pub mod Attributes
pub mod Frame
pub mod Tables
pub mod Step
pub mod Start
pub mod Merge
