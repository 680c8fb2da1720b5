pub mod Giving
pub mod Runs
pub mod Walks
