pub mod PlaceLemmas
pub mod Named
