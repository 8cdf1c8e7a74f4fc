pub mod Tables
pub mod Unknown
