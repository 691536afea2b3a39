-- What the contracts of `trials` cite: Fine, what a sample is made from; Changes, reports with one byte changed.
pub mod Fine
pub mod Changes
