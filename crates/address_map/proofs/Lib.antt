pub mod Walks
pub mod RoundTrip
pub mod Agreeing
pub mod Determined
pub mod Marked
