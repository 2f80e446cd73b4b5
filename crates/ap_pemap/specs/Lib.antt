pub mod PePlans
pub mod Laws
pub mod PeImports
