mod Told
mod Assumed
mod Batches
