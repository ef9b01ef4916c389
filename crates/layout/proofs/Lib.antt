-- Places: a block, a slot or a row as a part of its area.
pub mod Places
