use Rattle.pcrlock_update.proofs.Seals.{is_stated_so}
use Rattle.pcrlock_update.proofs.putting.stated_bytes.Goals as goal

pub write_policy-requires : goal.write_policy-requires
write_policy-requires c =
    is_stated_so c.args.given.now.index c.args.pin.now c.args.object c.args.named c.args.given.now.table.now _ _ c.pin_policy.ensures.value c.in_ok-tables.ensures
    c.requires.index c.requires.object c.requires.named c.requires.table
