mod Sums
mod Newest
mod Alone
mod Books
