pub mod Format
pub mod Laws
pub mod Reading
pub mod Views
pub mod Walking
