pub mod Vectors
pub mod VectorPlaces
pub mod SamePlaces
pub mod BareNumbers
