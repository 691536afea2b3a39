-- What the contracts of `intake` cite: a message that a market can take, and what a request leaves.
pub mod Intake
