-- What the calls inside this crate say of the words that they take. No crate above names these
-- words.
pub mod Taking
pub mod Options
