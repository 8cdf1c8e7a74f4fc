pub mod Hosts
pub mod Ready
