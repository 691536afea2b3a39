-- The laws of `members`, for the proofs of this crate and of those above it. Nothing here need be believed.
-- Going: the loop that takes members apart; Nine: why nine of them are enough.
pub mod Going
pub mod Nine
