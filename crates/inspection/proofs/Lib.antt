mod Fronts
mod Told
mod Agreeing
mod Weights
mod Places
mod Memory
