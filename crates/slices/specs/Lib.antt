-- Numbers of several bytes, byte by byte.
pub mod Bytes
