-- The classes of bytes.
pub mod Mark
