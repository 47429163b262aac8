pub mod Keeping
pub use Rattle.init_core.specs.Extents
