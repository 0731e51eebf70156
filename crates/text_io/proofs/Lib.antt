-- Why the output suffices, what the counts come to, and what each answer tells.
pub mod Suffices
pub mod Counting
pub mod Telling
pub mod Laws
