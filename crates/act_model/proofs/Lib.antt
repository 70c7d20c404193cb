pub mod Alike
pub mod AsksInTurn
pub mod Chunks
pub mod Lists
pub mod NamePlaces
pub mod LatestRates
pub mod RatePlaces
pub mod Slims
