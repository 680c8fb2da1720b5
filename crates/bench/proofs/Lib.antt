pub mod Acts
pub mod Areas
pub mod Owning
pub mod Rewrites
pub mod States
pub mod Words
