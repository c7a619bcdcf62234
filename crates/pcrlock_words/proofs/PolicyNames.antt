-- A line of a script names the script's policy path.
use Rattle.std.proofs.Common.{◌≡◌, ℕ, Bool, true, false, cond, ◌&&◌, List, [], ◌∷◌, Option, Some, None, refl, sym, ◌∙◌, subst, true≢false}
use Rattle.std.specs.Prelude.{IfSome, codes, find, not, option_map}
use Rattle.std.specs.Str.{bytes_eq}
use Rattle.std.proofs.lemmas.Bool.{and_parts}
use Rattle.std.proofs.lemmas.Slice.Eq.{bytes_eq-Decides}
use Rattle.component_make.specs.declared.kind.FirmwareKind.TheVariants.{Code, Config}
use Rattle.pcrlock_words.specs.declared.command.Command.{Command}
use Rattle.pcrlock_words.specs.declared.command.Command.TheVariants as commands
use Rattle.pcrlock_words.specs.declared.request.Request.{Request}
use Rattle.pcrlock_words.specs.Commands.{command_named, options_for, options_of}
use Rattle.pcrlock_words.specs.Fields.{path_in, path_beside, firmware_log_in, userspace_log_in, components_in, location_in, pcrs_in, pcr_in, bank_in, banks_in, index_in, optional_index_in, pin_in, key_in, literal_in, literal_bank_in, optional_locality_in, locality_in, clients_in, client_limit, number_in, extended_bytes, made_beside, policy_in, standing_policy}
use Rattle.pcrlock_words.specs.Options.{Entry, Given, accepted, are_taken, given, is_given, is_known, lacks_one, value_of}
use Rattle.pcrlock_words.specs.ProperRequest.{NamesPolicy}
use Rattle.pcrlock_words.specs.Requests as spelled
use Rattle.pcrlock_words.specs.Values.{defaulted, path_of}
use Rattle.pcrlock_words.proofs.Within.{after, known}

abbrev Text : Type 0
Text = List ℕ

-- no option has a name that isn't known
unknown : (entries : List Entry) (name : Text) (options : List Given) → is_known entries name ≡ false → are_taken entries options ≡ true → value_of name options ≡ None
unknown entries name [] none taken = refl
unknown entries name (option ∷ options) none taken =
    let parts = and_parts (is_known entries option.0 && not (is_given option.0 options)) (are_taken entries options) taken in
    let first = and_parts (is_known entries option.0) (not (is_given option.0 options)) parts.0 in
    by (bytes_eq option.0 name) (bytes_eq-Decides option.0 name).0 first.0 (unknown entries name options none parts.1)
  where
    by : (test : Bool) → (test ≡ true → option.0 ≡ name) → is_known entries option.0 ≡ true → value_of name options ≡ None
        → option_map (λ (one : Given). one.1) (cond test (Some option) (find (λ (one : Given). bytes_eq one.0 name) options)) ≡ None
    by true same is later = absurd (true≢false (sym is ∙ subst (λ (n : Text). is_known entries n ≡ false) (sym (same refl)) none))
    by false same is later = later

-- inside a script no command takes a policy path
lacks_policy : (command : Command) → is_known (options_of true command) (codes "policy") ≡ false
lacks_policy commands.Script = refl
lacks_policy commands.Log = refl
lacks_policy commands.Cel = refl
lacks_policy commands.ListComponents = refl
lacks_policy commands.Predict = refl
lacks_policy commands.MakePolicy = refl
lacks_policy commands.RemovePolicy = refl
lacks_policy commands.Enroll = refl
lacks_policy commands.Unseal = refl
lacks_policy commands.TpmBoot = refl
lacks_policy commands.TpmExtend = refl
lacks_policy commands.TpmExec = refl
lacks_policy commands.Race = refl
lacks_policy commands.Gen = refl
lacks_policy commands.LockFirmwareCode = refl
lacks_policy commands.LockFirmwareConfig = refl
lacks_policy commands.UnlockFirmwareCode = refl
lacks_policy commands.UnlockFirmwareConfig = refl
lacks_policy commands.LockRaw = refl
lacks_policy commands.Broker = refl
lacks_policy commands.Prove = refl
lacks_policy commands.CheckProof = refl

-- so no option of a line is one
abbrev GivesNone : List Given → Type 0
GivesNone options = value_of (codes "policy") options ≡ None

accepted_none : (entries : List Entry) (o : Option (List Given)) → is_known entries (codes "policy") ≡ false → IfSome (accepted entries o) GivesNone
accepted_none entries None none = tt
accepted_none entries (Some options) none = by (are_taken entries options) (not (lacks_one entries options)) (unknown entries (codes "policy") options none)
  where
    by : (taken whole : Bool) → (taken ≡ true → GivesNone options) → IfSome (cond (taken && whole) (Some options) None) GivesNone
    by true true gives = gives refl
    by true false gives = tt
    by false whole gives = tt

-- and the path is the script's
in_script : (path : Text) (options : List Given) → GivesNone options → IfSome (policy_in (Some path) options) (λ policy. policy ≡ path)
in_script path options none = subst (λ (o : Option Text). IfSome (defaulted path_of (standing_policy (Some path)) o) (λ policy. policy ≡ path)) (sym none) refl

module _ (path : Text) (options : List Given) (none : GivesNone options) where
  abbrev Names : Request → Type 0
  Names = NamesPolicy path

  make_policy_names : IfSome (spelled.make_policy_request (Some path) options) Names
  make_policy_names =
      after Names (firmware_log_in options) _ (λ firmware_log.
      after Names (userspace_log_in options) _ (λ userspace_log.
      after Names (components_in options) _ (λ components.
      after Names (location_in options) _ (λ location.
      after Names (pcrs_in options) _ (λ pcr.
      after Names (bank_in options) _ (λ bank.
      known (λ policy. policy ≡ path) Names (policy_in (Some path) options) _ (in_script path options none) (λ policy same.
      after Names (optional_index_in options) _ (λ index.
      after Names (pin_in options) _ (λ pin. same)))))))))

  remove_policy_names : IfSome (spelled.remove_policy_request (Some path) options) Names
  remove_policy_names = known (λ policy. policy ≡ path) Names (policy_in (Some path) options) _ (in_script path options none) (λ policy same. same)

  enroll_names : IfSome (spelled.enroll_request (Some path) options) Names
  enroll_names =
      known (λ policy. policy ≡ path) Names (policy_in (Some path) options) _ (in_script path options none) (λ policy same.
      after Names (path_beside policy (codes "token") options) _ (λ token.
      after Names (key_in options) _ (λ key.
      after Names (literal_in options) _ (λ literal.
      after Names (literal_bank_in literal options) _ (λ bank. same)))))

  unseal_names : IfSome (spelled.unseal_request (Some path) options) Names
  unseal_names =
      known (λ policy. policy ≡ path) Names (policy_in (Some path) options) _ (in_script path options none) (λ policy same.
      after Names (path_beside policy (codes "token") options) _ (λ token. same))

  race_names : IfSome (spelled.race_request (Some path) options) Names
  race_names =
      known (λ policy. policy ≡ path) Names (policy_in (Some path) options) _ (in_script path options none) (λ policy same.
      after Names (path_beside policy (codes "token") options) _ (λ token.
      after Names (path_in (codes "events") options) _ (λ events.
      after Names (clients_in (client_limit (is_given (codes "broker") options)) options) _ (λ clients. same))))

  command_names : (command : Command) → IfSome (spelled.command_request (Some path) command options) Names
  command_names commands.MakePolicy = make_policy_names
  command_names commands.RemovePolicy = remove_policy_names
  command_names commands.Enroll = enroll_names
  command_names commands.Unseal = unseal_names
  command_names commands.Race = race_names
  command_names commands.Script = after Names (path_in (codes "file") options) _ (λ _. after Names (policy_in None options) _ (λ _. after Names (index_in options) _ (λ _. tt)))
  command_names commands.Log = after Names (firmware_log_in options) _ (λ _. after Names (userspace_log_in options) _ (λ _. after Names (components_in options) _ (λ _. after Names (bank_in options) _ (λ _. tt))))
  command_names commands.Cel = after Names (firmware_log_in options) _ (λ _. after Names (userspace_log_in options) _ (λ _. tt))
  command_names commands.ListComponents = after Names (components_in options) _ (λ _. tt)
  command_names commands.Predict = after Names (firmware_log_in options) _ (λ _. after Names (userspace_log_in options) _ (λ _. after Names (components_in options) _ (λ _. after Names (location_in options) _ (λ _. after Names (pcrs_in options) _ (λ _. after Names (bank_in options) _ (λ _. tt))))))
  command_names commands.TpmBoot = after Names (firmware_log_in options) _ (λ _. after Names (userspace_log_in options) _ (λ _. after Names (optional_locality_in options) _ (λ _. after Names (banks_in options) _ (λ _. tt))))
  command_names commands.TpmExtend = after Names (pcr_in options) _ (λ _. after Names (extended_bytes (value_of (codes "text") options) (value_of (codes "hex") options)) _ (λ _. tt))
  command_names commands.TpmExec = after Names (path_in (codes "commands") options) _ (λ _. tt)
  command_names commands.Gen = after Names (number_in options) _ (λ _. tt)
  command_names commands.LockFirmwareCode = after Names (firmware_log_in options) _ (λ _. after Names (made_beside path Code options) _ (λ _. tt))
  command_names commands.LockFirmwareConfig = after Names (firmware_log_in options) _ (λ _. after Names (made_beside path Config options) _ (λ _. tt))
  command_names commands.UnlockFirmwareCode = after Names (made_beside path Code options) _ (λ _. tt)
  command_names commands.UnlockFirmwareConfig = after Names (made_beside path Config options) _ (λ _. tt)
  command_names commands.LockRaw = after Names (path_in (codes "file") options) _ (λ _. after Names (pcr_in options) _ (λ _. after Names (path_beside path (codes "output") options) _ (λ _. tt)))
  command_names commands.Broker = after Names (path_in (codes "commands") options) _ (λ _. after Names (clients_in 16 options) _ (λ _. tt))
  command_names commands.Prove = after Names (path_beside path (codes "output") options) _ (λ _. after Names (components_in options) _ (λ _. after Names (location_in options) _ (λ _. after Names (pcrs_in options) _ (λ _. after Names (bank_in options) _ (λ _. after Names (locality_in options) _ (λ _. tt))))))
  command_names commands.CheckProof = after Names (path_in (codes "proof") options) _ (λ _. after Names (components_in options) _ (λ _. after Names (location_in options) _ (λ _. tt)))

-- a line of a script names its policy path
pub line_names : (path : Text) (words : List Text) → IfSome (spelled.request_of words (Some path)) (NamesPolicy path)
unfolding spelled.request_of
line_names path [] = tt
line_names path (name ∷ words) =
    after (NamesPolicy path) (command_named true name) _ (λ command.
    known GivesNone (NamesPolicy path) (options_for true command words) _ (accepted_none (options_of true command) (given (options_of true command) words) (lacks_policy command))
    (λ options none. command_names path options none command))
