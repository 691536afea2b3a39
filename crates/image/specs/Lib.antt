-- What the contracts of `image` cite. A reader believes Image: the blocks of an image, written and read; and Answers: what the two calls
-- answer and leave. Columns has the sums by which a block is weighed.
pub mod Image
pub mod Answers
pub mod Columns
