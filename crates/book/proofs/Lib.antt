-- The laws of `book`, for its proofs. Nothing here need be believed; Theorems says what holds of the program, and Order that buys are
-- printed before sells. Lines: the lines of a side; Sheets: the sheet; Messages: a line as a message; Readings: the input read
-- byte by byte; Programs: the program as a whole.
pub mod Lines
pub mod Sheets
pub mod Messages
pub mod Readings
pub mod Programs
pub mod Theorems
pub mod Order
