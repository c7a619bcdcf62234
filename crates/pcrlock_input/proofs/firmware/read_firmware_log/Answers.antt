use Rattle.std.proofs.Common.{option_copied}
use Rattle.pcrlock_line.specs.Content.{content_found}
use Rattle.pcrlock_input.specs.Firmware.{firmware_in, firmware_limit, firmware_path}
use Rattle.pcrlock_input.proofs.Named.{named_told}
use Rattle.pcrlock_input.proofs.firmware.read_firmware_log.Goals as goal

pub returns-clause-told : goal.returns-clause-told
returns-clause-told g c = λ held is.
    named_told (λ log. log) c.log_found.result firmware_in held (option_copied c.args.named) firmware_path firmware_limit c.is_named.result c.path_or-path.result.now (content_found c.in_ok-found.found)
    c.is_named.ensures c.path_or-path.ensures (c.in_ok-found.ensures.told held is) c.log_found.ensures.told
