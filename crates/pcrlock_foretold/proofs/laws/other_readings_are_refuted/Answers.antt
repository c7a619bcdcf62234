use Rattle.pcrlock_foretold.proofs.Examples.{each_its_own, end_alone, not_together, stepwise_holds, stepwise_protects}
use Rattle.pcrlock_foretold.proofs.Stale.{older_tells_nothing, stale_opens_nothing}
use Rattle.pcrlock_foretold.proofs.laws.other_readings_are_refuted.Goals as goal

pub returns-clause-each_cut : goal.returns-clause-each_cut
returns-clause-each_cut c = λ digest apart. (stepwise_protects digest, stepwise_holds digest, end_alone digest apart)

pub returns-clause-one_choice : goal.returns-clause-one_choice
returns-clause-one_choice c = λ digest apart. (each_its_own digest, not_together digest apart)

pub returns-clause-stale : goal.returns-clause-stale
returns-clause-stale c = λ policy m w state token handle filed newest f key kept safe states found bound missing holds opens.
    stale_opens_nothing policy m w state token handle filed newest f key kept safe states found bound missing holds opens

pub returns-clause-older : goal.returns-clause-older
returns-clause-older c = λ policy m w state token handle index pin key newest f older kept current safe e found table holds closed opens.
    older_tells_nothing policy m w state token handle index pin key newest f older kept current safe e found table holds closed opens
