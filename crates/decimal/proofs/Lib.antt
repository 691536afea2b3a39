-- The laws of `decimal`, for the proofs of this crate and of those above it. Nothing here need be believed.
-- Scans: how many bytes from the front pass a test; Numbers: digits read as a number; Yields: a yield or a price read as a level;
-- Senses: which of two levels is the lower yield, or the higher price;
-- Rehearsed: texts of the paper, read by computing; Digits: digits written; Means: AvgPx; Cases: numbers of the paper, written
-- by computing; Afters: digits written and read are the same; RoundTrip: what was written is read back, and nothing else is
-- read; Canon: the canonical readers, test by test.
pub mod Scans
pub mod Numbers
pub mod Yields
pub mod Senses
pub mod Times
pub mod Rehearsed
pub mod Digits
pub mod Means
pub mod Cases
pub mod Afters
pub mod RoundTrip
pub mod Canon
