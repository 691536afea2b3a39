-- The laws of `octets`, for the proofs of this crate and of those above it. Nothing here need be believed.
-- Bools: tests taken apart; Ranges: loops that test a range of numbers; Places: numbers and runs of bytes put and read back;
-- Searches: tests over a range compared, and the first number that passes; Parts: parts and texts of a list of bytes; Zeros:
-- bytes that are all zero; Runs: one run of bytes written behind another.
pub mod Bools
pub mod Ranges
pub mod Places
pub mod Searches
pub mod Parts
pub mod Zeros
pub mod Runs
