-- What a writer is asked for, in reading order.
pub mod Joins
pub mod Script
pub mod Shown
pub mod Steps
pub mod ReadOff
pub mod Telling
pub mod Formed
