-- `RecordFields` has the laws of a record's fields at a place, `FlagBytes` those of flag bytes, `Contents`
-- those of the counts, `Empty` those of an empty base, `OwnBytes` says that records depend on their own bytes
-- alone, `InsertedRecord` has the laws of a record put between others, and `SoundBodies` says where the
-- bodies of a sound base stand and what is in them as they are lent.
pub mod Contents
pub mod Empty
pub mod FlagBytes
pub mod RecordFields
pub mod RecordPlaces
pub mod OwnBytes
pub mod InsertedRecord
pub mod FormatFacts
pub mod SoundBodies
