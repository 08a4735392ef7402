mod Telling
mod Well
mod Upserts
mod Reading
mod Doubts
