pub mod Courses
pub mod Records
