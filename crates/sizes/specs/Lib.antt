-- What the contracts say of the table of em sizes.
pub mod Table
