-- Lent: what is read of the event that comes, and what a run needs and makes of the arrays that are lent to it.
pub mod Lent
