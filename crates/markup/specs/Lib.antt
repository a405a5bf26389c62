-- What the contracts say besides the rules' own words.
pub mod Any
pub mod Coloured
