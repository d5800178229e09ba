pub mod Examples
pub mod SumLaws
pub mod LandingLaws
pub mod ApartLaws
pub mod LandingsLaws
pub mod SummedLaws
