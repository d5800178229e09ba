pub mod Beginning
pub mod Computed
pub mod Keys
pub mod Packet
pub mod Entries
pub mod Weave
