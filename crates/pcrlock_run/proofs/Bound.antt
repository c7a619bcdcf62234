-- A single `unseal` of an object that is bound to an index prints the key exactly where the newest table is open.
use Rattle.std.proofs.Common.{◌≡◌, ℕ, List, ◌++◌, sym, subst}
use Rattle.tpm_model.specs.World.{World, hashed_world}
use Rattle.pcrlock_line.specs.Machine.{Machine, Live, machine}
use Rattle.pcrlock_line.specs.Outcome.{Fine}
use Rattle.pcrlock_answer.specs.Texts.{key_text}
use Rattle.pcrlock_deeds.specs.Acts.{HoldsAt}
use Rattle.pcrlock_deeds.specs.Filed.{Current}
use Rattle.pcrlock_deeds.specs.Kept.{IsOwnKept}
use Rattle.pcrlock_open.specs.Unseal.{unseal_line}
use Rattle.pcrlock_headline.specs.Enrolled.{IsEnrolledTo}
use Rattle.pcrlock_headline.specs.Exact.{OpensBound}
use Rattle.pcrlock_headline.proofs.Exact.{by_values, exact, prints_key}
use Rattle.pcrlock_run.specs.Headline.{TokenOpensBound, TokenPaths}
use Rattle.pcrlock_run.specs.Leaves.{Safe}
use Rattle.pcrlock_run.specs.Script.{unseal_outcome}
use Rattle.pcrlock_run.proofs.Folds.{safe_left}

-- what is kept where the policy file of the `unseal` stands
kept_there : (path policy : List ℕ) (m : Machine) (w : World) (live : Live) → policy ≡ path → HoldsAt (IsOwnKept path) m w → m ≡ machine live → IsOwnKept policy live w
kept_there path policy m w live names kept is =
    subst (λ (p : List ℕ). IsOwnKept p live w) (sym names) (subst (λ (x : Machine). HoldsAt (IsOwnKept path) x w) is kept)

module _ (path state : List ℕ) (paths : TokenPaths) (m : Machine) (w : World) (names : paths.policy ≡ path) (kept : HoldsAt (IsOwnKept path) m w)
    (safe : Safe (hashed_world (unseal_outcome state paths.token paths.policy m).hashed w).hashed) where
  before : Safe w.hashed
  before = safe_left w.hashed (unseal_outcome state paths.token paths.policy m).hashed safe

  pub token_bound : TokenOpensBound state paths m w
  unfolding unseal_outcome
  token_bound = λ live handle index pin key is current enrolled.
      let k : IsOwnKept paths.policy live w = kept_there path paths.policy m w live names kept is in
      subst (λ (x : Machine). OpensBound (unseal_line state paths.token paths.policy x).ending key index pin w) (sym is) (record {
        policy = exact paths.policy live w state paths.token handle index pin key k current before enrolled;
        values = by_values paths.policy live w state paths.token handle index pin key k current before enrolled;
      })

  -- nothing else is printed
  pub token_key : (live : Live) (handle index : ℕ) (pin key text : List ℕ) → m ≡ machine live → Current w → IsEnrolledTo live w paths.token handle index pin key
      → (unseal_outcome state paths.token paths.policy m).ending ≡ Fine text → (unseal_outcome state paths.token paths.policy m).ending ≡ Fine (key_text key)
  unfolding unseal_outcome
  token_key live handle index pin key text is current enrolled =
      let k : IsOwnKept paths.policy live w = kept_there path paths.policy m w live names kept is in
      subst (λ (x : Machine). (unseal_line state paths.token paths.policy x).ending ≡ Fine text → (unseal_line state paths.token paths.policy x).ending ≡ Fine (key_text key)) (sym is)
      (prints_key paths.policy live w state paths.token handle index pin key k current before enrolled text)
