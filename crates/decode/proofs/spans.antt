-- Laws of the span chains.
pub mod Laws
pub mod PutLaws
pub mod ClaimLaws
