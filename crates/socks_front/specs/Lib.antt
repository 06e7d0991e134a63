pub mod Answering
pub mod Messages
pub mod Reading
pub mod Refusing
pub mod Spelling
