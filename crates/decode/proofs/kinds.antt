-- Laws of the kinds of nodes.
pub mod Laws
