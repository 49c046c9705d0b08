pub mod Extents
pub mod HeaderAnswers
pub mod Align
pub mod Names
pub mod Determined
pub mod Tables
