-- For private clauses: the measure of `pl_text` of the parts that are left.
pub use Rattle.pl_text.specs.Left.{left_in}
