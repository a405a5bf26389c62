-- What an answer by numbers says.
pub mod ByNumber
