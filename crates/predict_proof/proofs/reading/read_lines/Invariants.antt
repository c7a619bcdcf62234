use Rattle.std.proofs.Common.{◌≡◌, length}
use Rattle.pl_text.specs.Parts.{parts_of}
use Rattle.predict_proof.specs.ProofsIn.{proofs_from}
use Rattle.predict_proof.specs.ReadsAs.{LinesBefore}
use Rattle.predict_proof.proofs.ProofsRead.{prefixed}
use Rattle.predict_proof.proofs.reading.read_lines.Given as goal

abbrev pub invariant-loop-place : goal.invariant-loop-place
invariant-loop-place l = record {
  before : LinesBefore l.bank l.text l.proofs l.rest;
  count : length l.proofs ≡ l.place;
  given : prefixed l.proofs (proofs_from l.bank l.place (parts_of 10 l.rest)) ≡ proofs_from l.bank 0 (parts_of 10 l.text);
}
