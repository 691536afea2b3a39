-- What the contracts of `feed` cite. A reader believes Rows: the row of a drop copy and the slots of one; Settings: how a feed can be set
-- up; Copies: what comes of handing it a report, and what is a copy; Kept: which fields are the report's own.
pub mod Rows
pub mod Settings
pub mod Copies
pub mod Kept
