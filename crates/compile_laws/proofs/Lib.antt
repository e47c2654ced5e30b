pub mod KeepLaws
pub mod WriteLaws
pub mod ListedLaws
pub mod ClearedLaws
