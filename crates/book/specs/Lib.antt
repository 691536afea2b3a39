-- What the contracts of `book` cite. A reader believes Sheet, what is printed for a table, and Book, what the program `book`
-- prints for its input; Reading has what the functions on the way leave.
pub mod Sheet
pub mod Book
pub mod Reading
