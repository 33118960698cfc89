pub mod Transcripts
pub mod Said
pub mod LinePlaces
