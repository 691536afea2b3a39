-- What the contracts of `request` cite. A reader believes Session, which message is rejected for what, and Asks, what a good
-- message asks.
pub mod Session
pub mod Asks
pub mod Gathers
