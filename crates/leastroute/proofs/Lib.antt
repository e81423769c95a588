mod Adds
mod Refused
mod Shows
