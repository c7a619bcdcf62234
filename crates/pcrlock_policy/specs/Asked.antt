-- What `make-policy` is asked for.
use Rattle.std.specs.Prelude.{ℕ, Bool, List, Option, option_copied}
use Rattle.hash_bank.specs.declared.bank.Bank.{Bank}
use Rattle.predictor.specs.declared.window.Window.{Window}
use Rattle.pcrlock_policy.specs.declared.asked.Asked.{Asked as LentAsked}
use Rattle.pcrlock_policy.specs.declared.asked.Target.{Target as LentTarget}

-- the PCRs that a policy is to protect: the logs that are named, the folders of components, the window, the mask
-- of the PCRs, their bank, and whether one row is to tell the values of all of them at once
pub record Asked : Type 0 where
  pub firmware : Option (List ℕ)
  pub user : Option (List ℕ)
  pub folders : List (List ℕ)
  pub window : Window
  pub pcrs : ℕ
  pub bank : Bank
  pub joint : Bool

-- where the policy is put in force: the policy file, the index for a policy where no file names one, the pin that
-- was given, and whether an unchanged table is written too
pub record Target : Type 0 where
  pub path : List ℕ
  pub index : ℕ
  pub pin : Option (List ℕ)
  pub force : Bool

-- what was lent
abbrev pub asked_of : LentAsked → Asked
asked_of lent = record {
  firmware = option_copied lent.firmware;
  user = option_copied lent.user;
  folders = lent.folders.now;
  window = lent.location.now;
  pcrs = lent.pcrs;
  bank = lent.bank;
  joint = lent.joint;
}

abbrev pub target_of : LentTarget → Target
target_of lent = record { path = lent.path.now; index = lent.index; pin = option_copied lent.pin; force = lent.force }
