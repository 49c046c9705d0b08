pub mod ListOut
