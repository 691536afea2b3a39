-- What the inner contracts of `kinds` cite. What `kind_read` promises is report's Reports alone; Standing is for the way only.
pub mod Standing
