mod Sums
mod Keys
mod Books
