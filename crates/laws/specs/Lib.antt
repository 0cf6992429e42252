pub mod Search
pub mod Bytes
