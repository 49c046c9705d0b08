pub mod Clash
pub mod Shared
pub mod Demand
pub mod Kept
