-- What the contracts of `rows` cite. A reader believes Rows: which fields each kind of report has, and their values; Ranges: what they are
-- made from, in range. Parts is how the execution reports are written, and need not be believed.
pub mod Rows
pub mod Ranges
pub mod Parts
