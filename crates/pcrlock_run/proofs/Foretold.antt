-- Each `make-policy` of a run puts what is foretold in force, and each `unseal` by a policy opens as it was foretold.
use Rattle.std.proofs.Common.{◌≡◌, ◌↔◌, ℕ, List, [], ◌∷◌, ◌++◌, sym, subst, ◌∙◌}
use Rattle.std.specs.Prelude.{Option, None, Some}
use Rattle.tpm_model.specs.Events.{Clean}
use Rattle.tpm_model.specs.Opening.{UnlocksIndex}
use Rattle.tpm_model.specs.World.{World, hashed_world}
use Rattle.tpm_worlds.proofs.EachUnseal.{safe_before}
use Rattle.forecasts.specs.Forecast.{Forecast, Holds, TableOf}
use Rattle.pcrlock_words.specs.declared.request.Request.{Request}
use Rattle.pcrlock_words.specs.declared.request.Request.TheVariants as requests
use Rattle.pcrlock_words.specs.Requests.{request_of}
use Rattle.pcrlock_line.specs.Machine.{Live, Machine}
use Rattle.pcrlock_deeds.specs.Acts.{HoldsAt, act_world}
use Rattle.pcrlock_deeds.specs.Kept.{IsOwnKept}
use Rattle.pcrlock_deeds.proofs.Tying.{own_tie}
use Rattle.pcrlock_policy.specs.Acts.{make_policy_act}
use Rattle.pcrlock_policy.specs.Asked.{Asked, Target}
use Rattle.pcrlock_foretold.specs.Foretold.{MakesForetold, UnsealsForetold, values_in}
use Rattle.pcrlock_foretold.proofs.Made.{makes_foretold}
use Rattle.pcrlock_foretold.proofs.Opens.{unseals_foretold}
use Rattle.pcrlock_run.specs.Acts.{act_of}
use Rattle.pcrlock_run.specs.EachRequest.{RunHas}
use Rattle.pcrlock_run.specs.Foretelling.{CallIsForetold, MakesTheForetold, UnsealIsForetold}
use Rattle.pcrlock_run.specs.Headline.{CallOpensBound, PrintsWhere, TokenPaths, token_spelled}
use Rattle.pcrlock_run.specs.Leaves.{Safe}
use Rattle.pcrlock_run.specs.Script.{unseal_outcome}
use Rattle.pcrlock_run.specs.Setting.{Setting, outside, target_in}
use Rattle.pcrlock_run.specs.Under.{IsOwnKeptAt, IsUnder, SpelledUnder}
use Rattle.pcrlock_run.specs.Whole.{run_line, run_spelled}
use Rattle.pcrlock_run.specs.Worlds.{command_world, run_world, spelled_world}
use Rattle.pcrlock_run.proofs.Acts.{command_grows}
use Rattle.pcrlock_run.proofs.Bound.{token_bound}
use Rattle.pcrlock_run.proofs.Exact.{HoldsOf, run_has, unseal_safe}
use Rattle.pcrlock_run.proofs.Folds.{safe_left}
use Rattle.pcrlock_run.proofs.Printed.{run_bound}

-- what is kept at the path is kept at one that equals it
kept_at : (path policy : List ℕ) (m : Machine) (w : World) → policy ≡ path → HoldsAt (IsOwnKept path) m w → HoldsAt (IsOwnKept policy) m w
kept_at path policy m w same kept = subst (λ (p : List ℕ). HoldsAt (IsOwnKept p) m w) (sym same) kept

makes_each : (path : List ℕ) → HoldsOf path (IsOwnKept path) MakesTheForetold
unfolding act_of
makes_each path setting (requests.MakePolicy firmware user folders location pcr bank policy index pin force joint) m w proper under clean safe kept =
    makes_foretold setting.state (record { firmware = firmware; user = user; folders = folders; window = location; pcrs = pcr; bank = bank; joint = joint })
    (target_in setting policy index pin force) m w (kept_at path policy m w under.names kept) clean safe
makes_each path setting other m w proper under clean safe kept = tt

unseals_each : (path : List ℕ) → HoldsOf path (IsOwnKept path) UnsealIsForetold
unseals_each path setting (requests.Unseal token policy) m w proper under clean safe kept =
    unseals_foretold setting.state token policy m w (kept_at path policy m w under.names kept)
    (safe_before w (command_world setting (requests.Unseal token policy) m w) (command_grows setting (requests.Unseal token policy) m w).strings safe)
unseals_each path setting other m w proper under clean safe kept = tt

pub run_makes : (path : List ℕ) (words : List (List ℕ)) (m : Machine) (w : World) → IsUnder words path → Clean (run_world words m w) → Safe (run_world words m w).hashed
    → IsOwnKeptAt path m w → RunHas MakesTheForetold words m w
run_makes path words m w under clean safe kept = run_has path (IsOwnKept path) (own_tie path) (λ n v k. k) MakesTheForetold (makes_each path) words m w under clean safe kept

pub run_foretold : (path : List ℕ) (words : List (List ℕ)) (m : Machine) (w : World) → IsUnder words path → Clean (run_world words m w) → Safe (run_world words m w).hashed
    → IsOwnKeptAt path m w → RunHas UnsealIsForetold words m w
run_foretold path words m w under clean safe kept = run_has path (IsOwnKept path) (own_tie path) (λ n v k. k) UnsealIsForetold (unseals_each path) words m w under clean safe kept

-- ---- a single call

-- what is printed where one holds is printed where the other does
prints_where : (P Q : Type 0) (status : ℕ) (u v : Option (List ℕ)) (key : List ℕ) → (P ↔ Q) → PrintsWhere P status u v key → PrintsWhere Q status u v key
prints_where P Q status u v key same h = record {
  opens = (λ zero. same.0 (h.opens.0 zero), λ q. h.opens.1 (same.1 q));
  prints = h.prints;
  silent = h.silent;
}

call_foretold : (path state : List ℕ) (paths : TokenPaths) (m : Machine) (w : World) (number : ℕ) (u v : Option (List ℕ)) → paths.policy ≡ path → IsOwnKeptAt path m w
    → Safe (hashed_world (unseal_outcome state paths.token paths.policy m).hashed w).hashed → CallOpensBound (Some paths) m w number u v → CallIsForetold (Some paths) m w number u v
unfolding unseal_outcome
call_foretold path state paths m w number u v names kept safe bound = λ live handle index pin key newest f is current enrolled found table.
    let by_policy = (token_bound path state paths m w names kept safe live handle index pin key is current enrolled).policy in
    let by_forecast = unseals_foretold state paths.token paths.policy m w (kept_at path paths.policy m w names kept)
    (safe_left w.hashed (unseal_outcome state paths.token paths.policy m).hashed safe) live handle index pin key newest f is current enrolled found table in
    prints_where (UnlocksIndex w index pin) (Holds f (values_in w f.bank)) number u v key
    (λ unlocks. by_forecast.0 (by_policy.1 unlocks), λ holds. by_policy.0 (by_forecast.1 holds))
    (bound live handle index pin key is current enrolled)

spelled_foretold : (path : List ℕ) (setting : Setting) (o : Option Request) (m : Machine) (w : World) (number : ℕ) (u v : Option (List ℕ)) → SpelledUnder path o → IsOwnKeptAt path m w
    → Safe (spelled_world setting o m w).hashed → CallOpensBound (token_spelled o) m w number u v → CallIsForetold (token_spelled o) m w number u v
spelled_foretold path setting None m w number u v under kept safe bound = tt
spelled_foretold path setting (Some (requests.Unseal token policy)) m w number u v under kept safe bound =
    call_foretold path setting.state (record { token = token; policy = policy }) m w number u v under.names kept (unseal_safe setting token policy m w safe) bound
spelled_foretold path setting (Some other) m w number u v under kept safe bound = tt

-- the whole call
pub run_call_foretold : (path : List ℕ) (words : List (List ℕ)) (m : Machine) (w : World) (number : ℕ) (u v : Option (List ℕ)) → IsUnder words path → IsOwnKeptAt path m w
    → Safe (run_world words m w).hashed → number ≡ (run_line words m).status → ((before : List ℕ) → u ≡ Some before → v ≡ Some (before ++ (run_line words m).out))
    → CallIsForetold (token_spelled (request_of words None)) m w number u v
unfolding run_world request_of IsUnder
run_call_foretold path [] m w number u v under kept safe status out = tt
run_call_foretold path (state ∷ words) m w number u v under kept safe status out =
    spelled_foretold path (outside state) (request_of (state ∷ words) None) m w number u v under kept safe (run_bound path (state ∷ words) m w number u v under kept safe status out)
