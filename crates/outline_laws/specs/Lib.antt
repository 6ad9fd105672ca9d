pub mod Causes
pub mod FirstBinds
pub mod FirstControls
pub mod FirstTables
pub mod FirstRefusals
pub mod FormFields
