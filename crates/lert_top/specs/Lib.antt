pub mod cones
pub mod runs
pub mod drills
pub mod recovery
pub mod Generated
