mod Beside
mod Serving
mod Sights
mod Uses
