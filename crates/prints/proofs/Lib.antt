-- Laws that the proof of the code cites.
pub mod Laws
