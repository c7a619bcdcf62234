-- Which command a request is.
use Rattle.std.proofs.Common.{◌≡◌, ℕ, ◌+◌, ◌||◌, Bool, true, false, List, refl, sym, ap, ◌∙◌, subst}
use Rattle.std.specs.Prelude.{Option, None, Some, ◌==◌}
use Rattle.std.specs.Option.{unwrap_or}
use Rattle.tpm_model.specs.Pcrs.{one_if}
use Rattle.pcrlock_tpm.specs.Boot.{tpm_boot_line}
use Rattle.pcrlock_words.specs.declared.request.Request.{Request}
use Rattle.pcrlock_words.specs.declared.request.Request.TheVariants as requests
use Rattle.pcrlock_line.specs.Machine.{Machine}
use Rattle.hash_bank.specs.declared.banks.Banks.{Banks}
use Rattle.pcrlock_read.specs.Cel.{cel_line}
use Rattle.pcrlock_read.specs.ComponentLines.{list_components_line}
use Rattle.predictor.specs.declared.window.Window.{Window}
use Rattle.pcrlock_predict.specs.Log.{log_line}
use Rattle.pcrlock_predict.specs.Predict.{predict_line}
use Rattle.pcrlock_exec.specs.Exec.{tpm_exec_line}
use Rattle.pcrlock_broker.specs.Broker.{broker_line}
use Rattle.pcrlock_tpm.specs.Extend.{tpm_extend_line}
use Rattle.hash_bank.specs.declared.bank.Bank.{Bank}
use Rattle.pcrlock_line.specs.Outcome.{Outcome}
use Rattle.pcrlock_seal.specs.Enroll.{enroll_bound_line, enroll_line}
use Rattle.pcrlock_open.specs.Unseal.{unseal_line}
use Rattle.component_make.specs.declared.kind.FirmwareKind.TheVariants.{Code, Config}
use Rattle.pcrlock_lock.specs.LockFirmware.{lock_firmware_line}
use Rattle.pcrlock_lock.specs.UnlockFirmware.{unlock_firmware_line}
use Rattle.pcrlock_lock.specs.LockRaw.{lock_raw_line}
use Rattle.pcrlock_proofs.specs.declared.asked.Asked.{Asked}
use Rattle.pcrlock_proofs.specs.CheckProof.{check_proof_line}
use Rattle.pcrlock_proofs.specs.Prove.{prove_line}
use Rattle.pcrlock_update.specs.RemovePolicy.{remove_policy_line}
use Rattle.pcrlock_policy.specs.MakePolicy.{make_policy_line}
use Rattle.pcrlock_run.specs.Setting.{Setting}
use Rattle.pcrlock_run.specs.Script.{command_line, enroll_outcome, unseal_outcome}

-- a mask of banks that has one counts one
pub some_bank : (a b c d : Bool) → (a || b || c || d) ≡ true → (one_if a + one_if b + one_if c + one_if d == 0) ≡ false
some_bank true true true true e = refl
some_bank true true true false e = refl
some_bank true true false true e = refl
some_bank true true false false e = refl
some_bank true false true true e = refl
some_bank true false true false e = refl
some_bank true false false true e = refl
some_bank true false false false e = refl
some_bank false true true true e = refl
some_bank false true true false e = refl
some_bank false true false true e = refl
some_bank false true false false e = refl
some_bank false false true true e = refl
some_bank false false true false e = refl
some_bank false false false true e = refl
some_bank false false false false e = absurd (cc e)

-- an extend
pub extends : (setting : Setting) (request : Request) (pcr : ℕ) (bytes given : List ℕ) (m : Machine) → request ≡ requests.TpmExtend pcr bytes → given ≡ bytes
    → command_line setting request m ≡ tpm_extend_line setting.state pcr given m
unfolding command_line
extends setting request pcr bytes given m is same = ap (λ (r : Request). command_line setting r m) is ∙ ap (λ (b : List ℕ). tpm_extend_line setting.state pcr b m) (sym same)

-- an enrolling under a PCR or the policy, and one by its request
pub enrolls_under : (state token policy : List ℕ) (key : Option (List ℕ)) (literal : Option ℕ) (pcr : ℕ) (bank : Bank) (m : Machine) → literal ≡ Some pcr
    → enroll_outcome state token policy key literal bank m ≡ enroll_line state token pcr bank key m
unfolding enroll_outcome
enrolls_under state token policy key literal pcr bank m is = ap (λ (l : Option ℕ). enroll_outcome state token policy key l bank m) is

pub enrolls_bound : (state token policy : List ℕ) (key : Option (List ℕ)) (literal : Option ℕ) (bank : Bank) (m : Machine) → literal ≡ None
    → enroll_outcome state token policy key literal bank m ≡ enroll_bound_line state token policy key m
unfolding enroll_outcome
enrolls_bound state token policy key literal bank m is = ap (λ (l : Option ℕ). enroll_outcome state token policy key l bank m) is

pub enrolls : (setting : Setting) (request : Request) (token policy : List ℕ) (key : Option (List ℕ)) (literal : Option ℕ) (bank : Bank) (m : Machine) → request ≡ requests.Enroll token policy key literal bank
    → command_line setting request m ≡ enroll_outcome setting.state token policy key literal bank m
unfolding command_line
enrolls setting request token policy key literal bank m is = ap (λ (r : Request). command_line setting r m) is

pub unseals : (setting : Setting) (request : Request) (token policy : List ℕ) (m : Machine) → request ≡ requests.Unseal token policy → command_line setting request m ≡ unseal_line setting.state token policy m
unfolding command_line unseal_outcome
unseals setting request token policy m is = ap (λ (r : Request). command_line setting r m) is

pub prints : (setting : Setting) (request : Request) (firmware user f u : Option (List ℕ)) (m : Machine) → request ≡ requests.Cel firmware user → f ≡ firmware → u ≡ user
    → command_line setting request m ≡ cel_line f u m
unfolding command_line
prints setting request firmware user f u m is same also =
    ap (λ (r : Request). command_line setting r m) is ∙ ap (λ (x : Option (List ℕ)). cel_line x user m) (sym same) ∙ ap (λ (x : Option (List ℕ)). cel_line f x m) (sym also)

pub lists : (setting : Setting) (request : Request) (folders given : List (List ℕ)) (m : Machine) → request ≡ requests.ListComponents folders → given ≡ folders
    → command_line setting request m ≡ list_components_line given m
unfolding command_line
lists setting request folders given m is same = ap (λ (r : Request). command_line setting r m) is ∙ ap (λ (x : List (List ℕ)). list_components_line x m) (sym same)

pub starts : (setting : Setting) (request : Request) (firmware user f u : Option (List ℕ)) (locality : Option ℕ) (banks : Banks) (m : Machine) → request ≡ requests.TpmBoot firmware user locality banks
    → f ≡ firmware → u ≡ user → command_line setting request m ≡ tpm_boot_line setting.state f u locality banks m
unfolding command_line
starts setting request firmware user f u locality banks m is same also =
    ap (λ (r : Request). command_line setting r m) is
    ∙ ap (λ (x : Option (List ℕ)). tpm_boot_line setting.state x user locality banks m) (sym same)
    ∙ ap (λ (x : Option (List ℕ)). tpm_boot_line setting.state f x locality banks m) (sym also)

pub logs : (setting : Setting) (request : Request) (firmware user f u : Option (List ℕ)) (folders given : List (List ℕ)) (bank : Bank) (m : Machine) → request ≡ requests.Log firmware user folders bank
    → f ≡ firmware → u ≡ user → given ≡ folders → command_line setting request m ≡ log_line setting.state f u given bank m
unfolding command_line
logs setting request firmware user f u folders given bank m is same also all =
    ap (λ (r : Request). command_line setting r m) is
    ∙ ap (λ (x : Option (List ℕ)). log_line setting.state x user folders bank m) (sym same)
    ∙ ap (λ (x : Option (List ℕ)). log_line setting.state f x folders bank m) (sym also)
    ∙ ap (λ (x : List (List ℕ)). log_line setting.state f u x bank m) (sym all)

pub predicts : (setting : Setting) (request : Request) (firmware user f u : Option (List ℕ)) (folders given : List (List ℕ)) (location : Window) (pcrs : ℕ) (bank : Bank) (joint : Bool) (m : Machine)
    → request ≡ requests.Predict firmware user folders location pcrs bank joint → f ≡ firmware → u ≡ user → given ≡ folders
    → command_line setting request m ≡ predict_line setting.state f u given location pcrs bank joint m
unfolding command_line
predicts setting request firmware user f u folders given location pcrs bank joint m is same also all =
    ap (λ (r : Request). command_line setting r m) is
    ∙ ap (λ (x : Option (List ℕ)). predict_line setting.state x user folders location pcrs bank joint m) (sym same)
    ∙ ap (λ (x : Option (List ℕ)). predict_line setting.state f x folders location pcrs bank joint m) (sym also)
    ∙ ap (λ (x : List (List ℕ)). predict_line setting.state f u x location pcrs bank joint m) (sym all)

pub executes : (setting : Setting) (request : Request) (commands : List ℕ) (m : Machine) → request ≡ requests.TpmExec commands → command_line setting request m ≡ tpm_exec_line setting.state commands m
unfolding command_line
executes setting request commands m is = ap (λ (r : Request). command_line setting r m) is

pub serves : (setting : Setting) (request : Request) (commands : List ℕ) (clients : ℕ) (m : Machine) → request ≡ requests.Broker commands clients
    → command_line setting request m ≡ broker_line setting.state commands clients m
unfolding command_line
serves setting request commands clients m is = ap (λ (r : Request). command_line setting r m) is

-- what holds of an outcome holds of one that equals it
pub by_outcome : (a b : Outcome) (L : Outcome → Type 0) → a ≡ b → L b → L a
by_outcome a b L e f = subst L (sym e) f

pub locks_code : (setting : Setting) (request : Request) (log l : Option (List ℕ)) (folder variant : List ℕ) (m : Machine) → request ≡ requests.LockFirmwareCode log folder variant → l ≡ log
    → command_line setting request m ≡ lock_firmware_line Code l folder variant m
unfolding command_line
locks_code setting request log l folder variant m is same =
    ap (λ (r : Request). command_line setting r m) is ∙ ap (λ (x : Option (List ℕ)). lock_firmware_line Code x folder variant m) (sym same)

pub locks_config : (setting : Setting) (request : Request) (log l : Option (List ℕ)) (folder variant : List ℕ) (m : Machine) → request ≡ requests.LockFirmwareConfig log folder variant → l ≡ log
    → command_line setting request m ≡ lock_firmware_line Config l folder variant m
unfolding command_line
locks_config setting request log l folder variant m is same =
    ap (λ (r : Request). command_line setting r m) is ∙ ap (λ (x : Option (List ℕ)). lock_firmware_line Config x folder variant m) (sym same)

pub unlocks_code : (setting : Setting) (request : Request) (folder variant : List ℕ) (m : Machine) → request ≡ requests.UnlockFirmwareCode folder variant → command_line setting request m ≡ unlock_firmware_line Code folder variant m
unfolding command_line
unlocks_code setting request folder variant m is = ap (λ (r : Request). command_line setting r m) is

pub unlocks_config : (setting : Setting) (request : Request) (folder variant : List ℕ) (m : Machine) → request ≡ requests.UnlockFirmwareConfig folder variant → command_line setting request m ≡ unlock_firmware_line Config folder variant m
unfolding command_line
unlocks_config setting request folder variant m is = ap (λ (r : Request). command_line setting r m) is

pub locks_raw : (setting : Setting) (request : Request) (file : List ℕ) (pcr : ℕ) (output : List ℕ) (m : Machine) → request ≡ requests.LockRaw file pcr output → command_line setting request m ≡ lock_raw_line file pcr output m
unfolding command_line
locks_raw setting request file pcr output m is = ap (λ (r : Request). command_line setting r m) is

pub proves : (setting : Setting) (request : Request) (output : List ℕ) (folders given : List (List ℕ)) (location : Window) (asked : Asked) (m : Machine)
    → request ≡ requests.Prove output folders location asked.pcrs asked.bank asked.locality asked.joint → given ≡ folders
    → command_line setting request m ≡ prove_line output given location asked m
unfolding command_line
proves setting request output folders given location asked m is same =
    ap (λ (r : Request). command_line setting r m) is ∙ ap (λ (x : List (List ℕ)). prove_line output x location asked m) (sym same)

pub checks : (setting : Setting) (request : Request) (proof : List ℕ) (folders given : List (List ℕ)) (location : Window) (m : Machine)
    → request ≡ requests.CheckProof proof folders location → given ≡ folders → command_line setting request m ≡ check_proof_line proof given location m
unfolding command_line
checks setting request proof folders given location m is same =
    ap (λ (r : Request). command_line setting r m) is ∙ ap (λ (x : List (List ℕ)). check_proof_line proof x location m) (sym same)

pub makes_policy : (setting : Setting) (request : Request) (firmware user f u : Option (List ℕ)) (folders given : List (List ℕ)) (location : Window) (pcrs : ℕ) (bank : Bank) (joint : Bool)
    (policy : List ℕ) (named : Option ℕ) (index : ℕ) (pin p : Option (List ℕ)) (force : Bool) (m : Machine)
    → request ≡ requests.MakePolicy firmware user folders location pcrs bank policy named pin force joint → f ≡ firmware → u ≡ user → given ≡ folders → index ≡ unwrap_or named setting.index → p ≡ pin
    → command_line setting request m ≡ make_policy_line setting.state (record { firmware = f; user = u; folders = given; window = location; pcrs = pcrs; bank = bank; joint = joint })
    (record { path = policy; index = index; pin = p; force = force }) m
unfolding command_line
makes_policy setting request firmware user f u folders given location pcrs bank joint policy named index pin p force m is same also all here one =
    let log = sym same in
    let other = sym also in
    let tree = sym all in
    let handle = sym here in
    let bytes = sym one in
    ap (λ (r : Request). command_line setting r m) is
    ∙ (λ i. make_policy_line setting.state (record { firmware = log i; user = other i; folders = tree i; window = location; pcrs = pcrs; bank = bank; joint = joint })
    (record { path = policy; index = handle i; pin = bytes i; force = force }) m)

pub removes_policy : (setting : Setting) (request : Request) (policy : List ℕ) (m : Machine) → request ≡ requests.RemovePolicy policy → command_line setting request m ≡ remove_policy_line setting.state policy m
unfolding command_line
removes_policy setting request policy m is = ap (λ (r : Request). command_line setting r m) is
