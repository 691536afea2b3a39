-- What the contracts of `refusals` cite; a reader believes it.
pub mod Refusals
