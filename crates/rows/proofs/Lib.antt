-- The laws of `rows`, for the proofs of the crates above it: Widths, how long a row can be; Bounds, no report is longer than 512
-- bytes; Executions, the row of an execution report, part by part, is that of its kind. Nothing here need be believed; Bounds has what people read.
pub mod Widths
pub mod Bounds
pub mod Executions
