-- What the steps of reading and of writing a device need. What a content represents is said in the files beside this folder.
pub mod Reading
pub mod Readings
pub mod Appending
pub mod Group
pub mod Freeing
pub mod AtOnce
