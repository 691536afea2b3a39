-- What the contracts of `fix` cite. A reader believes Fields, what the fields of a message are, and Garbled, when a message
-- is garbled.
pub mod Fields
pub mod Garbled
pub mod Steps
