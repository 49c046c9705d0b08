pub mod Brief
pub mod Lent
