-- What the steps of reading a cell need. What a spelling is stands in the files beside this folder.
pub mod Reading
