use Rattle.std.proofs.Common.{List, sym, ap, ◌∙◌}
use Rattle.std.specs.Prelude.{Result, Ok}
use Rattle.predict_proof.specs.declared.proof.Proof.{Proof}
use Rattle.pcrlock_answer.specs.declared.answer.Answer.{Answer}
use Rattle.pcrlock_input.specs.Answering.{◌>>=◌}
use Rattle.pcrlock_lock.proofs.Done.{done_told, done_stops}
use Rattle.pcrlock_proofs.specs.Prove.{written}
use Rattle.pcrlock_proofs.proofs.Passing.{result_passes}
use Rattle.pcrlock_proofs.proofs.proving.prove.Goals as goal

pub returns-in-Ok-clause-told : goal.returns-in-Ok-clause-told
returns-in-Ok-clause-told g c = λ stored words m tells.
    let work = λ (found : Result (List Proof) Answer). found >>= λ proofs. Ok (written c.args.output.now c.args.asked proofs) in
    done_told c.write_file.result _ _ stored words m _ _ (sym (ap work (c.in-Ok.ensures.told m.files tells.files))) tells
    (c.write_file.ensures.told m.files (c.proofs_over.ensures.same ∙ tells.files))

pub returns-in-Ok-clause-stops : goal.returns-in-Ok-clause-stops
returns-in-Ok-clause-stops g c = λ stored words m tells.
    let work = λ (found : Result (List Proof) Answer). found >>= λ proofs. Ok (written c.args.output.now c.args.asked proofs) in
    done_stops c.write_file.result _ _ stored words m _ _ (sym (ap work (c.in-Ok.ensures.told m.files tells.files))) tells
    (c.write_file.ensures.stops m.files (c.proofs_over.ensures.same ∙ tells.files))

pub returns-in-Ok-clause-passes : goal.returns-in-Ok-clause-passes
returns-in-Ok-clause-passes g c = λ local before files held now.
    let over = c.in-Ok.ensures.passing before held in
    result_passes c.args.asked c.args.location.now over.0 c.in-Ok.proofs local over.2 c.write_file.result before files (g.F.Files.held c.write_file.new.files) c.args.output.now c.args.folders.now over.1 now
    (c.write_file.ensures.told before (c.proofs_over.ensures.same ∙ held))
