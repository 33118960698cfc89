pub mod SoundParts
pub mod Decoded
