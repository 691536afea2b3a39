-- What the contracts of `kamurjesh` cite beside the definitions of the calls. A reader believes Numbers.
pub mod Numbers
