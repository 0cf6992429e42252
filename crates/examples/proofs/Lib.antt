-- `Twelve` shows the table. Its rows stand in `Streams`, `Lines`, `Messages` and `Pushes`; `Rows` names them by their place.
mod Rows
mod Streams
mod Lines
mod Messages
mod Pushes
pub mod Twelve
