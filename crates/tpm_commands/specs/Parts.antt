-- Texts that are parted at each place of one byte: the definitions of `pl_text`.
pub use Rattle.pl_text.specs.Parts.{parts_of, parts_behind, one_of, two_of, three_of, four_of}
