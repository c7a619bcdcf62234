-- The state after a session of one's own, which was started, went its way and was ended.
use Rattle.std.specs.Prelude.{ℕ, ◌+◌, ◌||◌, nat_le, if◌then◌else◌, length}
use Rattle.tpm_model.specs.declared.parts.Parts.{Parts}

-- where a session can start, its number is used; all else is as before
abbrev pub after_session : Parts → Parts
after_session s =
    if nat_le 64 (length s.sessions) || nat_le 0x01000000 s.next_session then s
    else record s { next_session = s.next_session + 1 }
