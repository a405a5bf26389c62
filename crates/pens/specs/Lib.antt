-- The pen: its machine and its form, and what running line operations leaves on a page.
pub mod Ops
pub mod States
pub mod Ran
