-- The laws of `load`, for the proofs of this crate and of those above it. A reader begins with Theorems: that a load is single calls, that it
-- stops for the reason it gives, and how it is gone on with. Wrong has answers that are ruled out. The others are the way there, and
-- nothing in them need be believed.
-- Finding: where messages end; Taking: one message; Loading: one after another; Going: the loop; Answers: the cases of the call; Calling: the
-- single calls; Resuming: rooms that differ; Halting: why a load stops.
pub mod Finding
pub mod Taking
pub mod Loading
pub mod Going
pub mod Answers
pub mod Calling
pub mod Resuming
pub mod Halting
pub mod Onward
pub mod Theorems
pub mod Wrong
