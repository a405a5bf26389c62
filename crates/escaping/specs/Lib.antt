-- What the contracts say besides the rules' own words.
pub mod Runs
pub mod Returns
