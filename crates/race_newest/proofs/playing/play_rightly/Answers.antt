use Rattle.race_newest.proofs.OnDevices.{only_if_played}
use Rattle.race_newest.proofs.playing.play_rightly.Goals as goal

pub returns-clause-only : goal.returns-clause-only
returns-clause-only g c =
    only_if_played c.play.result c.args.events.now c.args.race.now c.play.new.race (g.T.Tpm.live c.args.tpm.now) (g.T.Tpm.live c.play.new.tpm) (g.T.Tpm.stored c.args.tpm.now) (g.T.Tpm.stored c.play.new.tpm)
    c.requires.events c.play.ensures.told
