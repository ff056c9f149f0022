pub mod BankListLaws
pub mod HexadecimalLaws
pub mod LineLaws
pub mod ScriptLaws
pub mod AdvanceLaws
pub mod FillLaws
pub mod PlaceLineLaws
pub mod Printing
