-- The theorems of `readback`: Theorems, every kind of report is read back as it was written; Events, the report of every event
-- and of every refusal is; Changed, a report with one byte changed is none. The other files are their laws. Takes: a value that
-- a shape takes; Rowed: rows against slots; Fitting: every row fits; Firsts: 35 and 150 tell the kind; ReadBack: a row is read
-- back; Texts: and its texts; Said: and its numbers; Legibly: what is legible can be read.
pub mod Takes
pub mod Rowed
pub mod Fitting
pub mod ReadBack
pub mod Texts
pub mod Said
pub mod Theorems
pub mod Legibly
pub mod Events
pub mod Changed
