pub mod Masks
pub mod MaskLists
pub mod MaskOrder
