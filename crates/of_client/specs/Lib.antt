pub mod Services
pub mod Laws
