pub mod Utf8
pub mod Grammar
pub mod Classes
pub mod Due
pub mod Text
pub mod Reading
