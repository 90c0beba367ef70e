-- What the steps of reading need: the same reading on lists. What a spelling is stands in the files beside this folder.
pub mod Reading
pub mod DeltaReading
pub mod BatchReading
pub mod Scanning
