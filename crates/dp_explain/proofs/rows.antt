mod Explained
mod Whole
