-- What the theorems of `readback` speak of. A reader believes Right: what a report is made from; AsRead: its fields as they are read;
-- Says: what a number of a report that was read says; Told: what the report of an event says.
pub mod Right
pub mod AsRead
pub mod Says
pub mod Told
