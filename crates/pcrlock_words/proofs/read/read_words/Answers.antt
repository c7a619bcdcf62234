use Rattle.std.specs.Prelude.{option_copied}
use Rattle.pcrlock_words.specs.Fields.{standing_policy}
use Rattle.pcrlock_words.specs.ProperRequest.{IsProperRequest, SparesPolicy}
use Rattle.pcrlock_words.proofs.Proper.{read_has, spelled_proper, spelled_spares}
use Rattle.pcrlock_words.proofs.read.read_words.Goals as goal

pub returns-clause-proper : goal.returns-clause-proper
returns-clause-proper c =
    read_has IsProperRequest c.read_request.result _ c.read_request.ensures (spelled_proper c.args.words.now (option_copied c.args.script_policy))

pub returns-clause-spares : goal.returns-clause-spares
returns-clause-spares c =
    let script = option_copied c.args.script_policy in
    read_has (SparesPolicy (standing_policy script)) c.read_request.result _ c.read_request.ensures (spelled_spares c.args.words.now script)
