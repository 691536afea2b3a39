-- The laws of `intake`, for the proofs of this crate and of those above it. Nothing here need be believed.
-- Standing: what a request that stands promises; Checking: the checks in their order; Legibles: each report can be read;
-- Leaving: what each request leaves; Doing: what the functions that take a request ask for; Answering: from what is asked to
-- what is answered; Keeping: a market stays a market; Counting: how many reports and numbers; Theorems: what people read.
pub mod Standing
pub mod Checking
pub mod Legibles
pub mod Leaving
pub mod Doing
pub mod Answering
pub mod Keeping
pub mod Counting
pub mod Theorems
