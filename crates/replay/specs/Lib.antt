-- `Script` says what a line of a script stands for, `Lines` what is printed, `Runs` what a line does, `Replay` what is printed for a whole
-- script, `Turns` what the program does at each turn, `Whole` that the turns print just that, and `Settings` what the session is made with.
pub mod Script
pub mod Lines
pub mod Runs
pub mod Replay
pub mod Turns
pub mod Whole
pub mod Settings
