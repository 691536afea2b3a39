-- What the contracts of `audit` cite beside table's definitions. What `is_market` promises is table's Market alone; these are the
-- widths of the numbers read, and what the check computes on its way.
pub mod Widths
pub mod Rows
pub mod Checking
