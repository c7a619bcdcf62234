pub mod Newest
pub mod Authorized
pub mod Opens
pub mod EachUnseal
pub mod Strict
