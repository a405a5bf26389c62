-- Printing: what is left in the input and in the page.
pub mod Laws
