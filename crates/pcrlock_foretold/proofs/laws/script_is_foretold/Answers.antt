use Rattle.pcrlock_foretold.proofs.Scripts.{boots_foretold}
use Rattle.pcrlock_foretold.proofs.laws.script_is_foretold.Goals as goal

pub returns : goal.returns
returns c = λ script m w out logs live kept range other clean safe fine reads present is. boots_foretold script m w kept range other clean safe logs live reads present is out fine
