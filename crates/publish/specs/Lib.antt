-- Arrays: how a state reads what is lent, what the posts rely on, and what they come to.
pub mod Arrays
