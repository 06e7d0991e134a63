pub mod Aes
pub mod HopLayer
pub mod KeyDerivation
pub mod Keystream
pub mod RunningDigest
