pub mod Trips
pub mod TripLaws
