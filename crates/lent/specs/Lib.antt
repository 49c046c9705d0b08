pub mod Le
pub mod Words
pub mod Paper
pub mod Room
pub mod Table
pub mod Order
pub mod Search
