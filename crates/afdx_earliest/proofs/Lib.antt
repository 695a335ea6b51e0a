pub mod Firsts
pub mod Marks
