pub mod Hexadecimals
pub mod ScriptLines
