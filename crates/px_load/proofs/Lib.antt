mod Adding
mod Drawing
mod Readable
