mod Fronts
mod Dumps
mod Worked
mod Serving
mod Doing
