-- What writing a text to a lent page leaves.
pub mod Written
