pub mod Arrays
pub mod Encoding
pub mod Decoding
pub mod RoundTrips
pub mod Laws
