pub mod First
pub mod Column
