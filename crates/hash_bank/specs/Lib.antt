pub mod Hash
pub mod Extending
pub mod HashedString
pub mod Padding
pub mod Hexadecimal
pub mod Banks
pub mod Hasher
pub mod Digests
