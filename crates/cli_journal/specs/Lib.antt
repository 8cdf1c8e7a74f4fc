pub mod Entries
pub mod Items
pub mod Owners
pub mod LeftOut
pub mod Text
pub mod Json
pub mod Shown
