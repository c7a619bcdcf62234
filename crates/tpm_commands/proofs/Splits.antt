-- Parts of a text: the lemmas of `pl_text`.
pub use Rattle.pl_text.proofs.Splits.{HasFirst, has_first, one_of-more}
