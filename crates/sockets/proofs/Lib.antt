mod Reading
mod Served
mod Crossing
mod Unasked
mod Ended
