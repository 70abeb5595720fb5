-- What translate promises.
pub mod Refusal
pub mod Draft
pub mod Translated
