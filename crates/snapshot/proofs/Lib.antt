mod Copies
mod Links
