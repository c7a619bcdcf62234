-- What holds of each request at a machine that is kept holds of each request of a run; so each `unseal` is exact.
use Rattle.std.proofs.Common.{◌≡◌, ℕ, Bool, true, false, cond, List, [], ◌∷◌, ◌++◌, sym, subst}
use Rattle.std.specs.Prelude.{Option, None, Some, IfSome}
use Rattle.std.specs.List.{Contains}
use Rattle.hash_bank.specs.HashedString.{HashedString}
use Rattle.tpm_model.specs.Events.{Clean}
use Rattle.tpm_model.specs.World.{World, hashed_world}
use Rattle.tpm_device.specs.Stored.{Stored, Holds, TooLarge, Malformed, BadRule}
use Rattle.tpm_worlds.proofs.EachUnseal.{safe_before}
use Rattle.tpm_worlds.proofs.TrailReads.{GrowsAll}
use Rattle.tpm_worlds.proofs.WholeLists.{clean_before}
use Rattle.pcrlock_words.specs.declared.request.Request.{Request}
use Rattle.pcrlock_words.specs.declared.request.Request.TheVariants as requests
use Rattle.pcrlock_words.specs.Requests.{request_of}
use Rattle.pcrlock_words.specs.Lines.{words_of}
use Rattle.pcrlock_words.specs.ProperRequest.{IsIndex, IsProperRequest}
use Rattle.pcrlock_words.proofs.Proper.{spelled_proper}
use Rattle.pcrlock_line.specs.Machine.{Machine, Live, machine}
use Rattle.pcrlock_line.specs.Outcome.{Outcome, is_stop}
use Rattle.pcrlock_line.specs.Worlds.{IsTied, IsTiedTo}
use Rattle.pcrlock_deeds.specs.Acts.{HoldsAt, HoldsOn}
use Rattle.pcrlock_deeds.specs.Kept.{IsOwnKept, LeavesFiled}
use Rattle.pcrlock_deeds.specs.Sound.{IsTie}
use Rattle.pcrlock_deeds.proofs.Tying.{own_tie}
use Rattle.pcrlock_open.specs.Headline.{OpensExactly}
use Rattle.pcrlock_open.specs.Unseal.{unseal_line}
use Rattle.pcrlock_open.proofs.Acts.{unseal_world}
use Rattle.pcrlock_open.proofs.Opens.{opens}
use Rattle.pcrlock_run.specs.Acts.{act_of}
use Rattle.pcrlock_run.specs.Leaves.{Safe}
use Rattle.pcrlock_run.specs.Setting.{Setting, outside}
use Rattle.pcrlock_run.specs.ScriptText.{script_text}
use Rattle.pcrlock_run.specs.Script.{line, unseal_outcome}
use Rattle.pcrlock_run.specs.Whole.{Scripted, script_in, script_setting}
use Rattle.pcrlock_run.specs.Under.{IsOwnKeptAt, IsUnder, IsUnderPath, RequestUnder, SpelledUnder}
use Rattle.pcrlock_run.specs.Worlds.{answered_world, command_world, line_world, lines_read, run_world, script_world, spelled_world, world_as}
use Rattle.pcrlock_run.specs.EachRequest.{LinesHave, OfRequest, RequestHas, RunHas, SpelledHas, Unless, WordsHave}
use Rattle.pcrlock_run.specs.Headline.{TokenOpensExactly, TokenPaths, UnsealIsExact}
use Rattle.pcrlock_run.proofs.Acts.{OwnsKept}
use Rattle.pcrlock_run.proofs.Bound.{token_bound}
use Rattle.pcrlock_run.proofs.Kept.{IsInside, line_asks, line_kept, script_grows, script_index, script_inside}

-- strings that are among safe ones are safe
pub among : (xs ys : List HashedString) → ((x : HashedString) → Contains xs x → Contains ys x) → Safe ys → Safe xs
among xs ys inside safe = record {
  distinct = λ s t h k. safe.distinct s t (inside s h) (inside t k);
  nonzero = λ s h. safe.nonzero s (inside s h);
}

-- where the path is that of the policy file, of each proper request under it, at a machine that is tied to the world
abbrev pub HoldsOf : List ℕ → (Live → World → Type 0) → OfRequest → Type 0
HoldsOf path T P = (setting : Setting) (request : Request) (m : Machine) (w : World) → IsProperRequest request → IsUnderPath path request
    → Clean (command_world setting request m w) → Safe (command_world setting request m w).hashed → HoldsAt T m w → P setting request m w

module _ (path : List ℕ) (T : Live → World → Type 0) (laws : IsTie T (LeavesFiled path)) (owns : OwnsKept path T) (P : OfRequest) (each : HoldsOf path T P) where
  spelled_has : (setting : Setting) (o : Option Request) (m : Machine) (w : World) → IfSome o IsProperRequest → IfSome o (IsUnderPath path)
      → Clean (answered_world setting o m w) → Safe (answered_world setting o m w).hashed → HoldsAt T m w → SpelledHas P setting o m w
  spelled_has setting None m w proper under clean safe kept = tt
  spelled_has setting (Some request) m w proper under clean safe kept = each setting request m w proper under clean safe kept

  line_has : (setting : Setting) → IsInside path setting → (words : List (List ℕ)) (m : Machine) (w : World)
      → Clean (line_world setting words m w) → Safe (line_world setting words m w).hashed → HoldsAt T m w → SpelledHas P setting (request_of words setting.policy) m w
  unfolding line_world
  line_has setting same words m w clean safe kept =
      spelled_has setting (request_of words setting.policy) m w (spelled_proper words setting.policy) (line_asks path setting same.policy words) clean safe kept

  -- what holds where a line stops, and where it goes on
  has_then : (test : Bool) (v u : World) (Here Behind : Type 0) → GrowsAll v u → Clean (cond test v u) → Safe (cond test v u).hashed
      → (Clean v → Safe v.hashed → Here) → (Clean v → Safe v.hashed → Clean u → Safe u.hashed → Behind) → Here × Unless test Behind
  has_then true v u Here Behind grows clean safe first later = (first clean safe, tt)
  has_then false v u Here Behind grows clean safe first later =
      let clean_here : Clean v = clean_before v u grows clean in
      let safe_here : Safe v.hashed = safe_before v u grows.strings safe in
      (first clean_here safe_here, later clean_here safe_here clean safe)

  lines_have : (setting : Setting) → IsInside path setting → (lines : List (List ℕ)) (m : Machine) (w : World)
      → Clean (script_world setting lines m w) → Safe (script_world setting lines m w).hashed → HoldsAt T m w → LinesHave P setting lines m w
  lines_have setting same [] m w clean safe kept = tt
  lines_have setting same (text ∷ texts) m w clean safe kept =
      let o : Outcome = line setting (words_of text) m in
      let v : World = line_world setting (words_of text) m w in
      has_then (is_stop o.ending) v (script_world setting texts o.after v) (SpelledHas P setting (request_of (words_of text) setting.policy) m w) (LinesHave P setting texts o.after v)
      (script_grows setting texts o.after v) clean safe
      (λ c s. line_has setting same (words_of text) m w c s kept)
      (λ c s d t. lines_have setting same texts o.after v d t (line_kept path T laws owns setting same (words_of text) m w c s kept))

  request_has : (setting : Setting) (o : Option Scripted) (request : Request) (m : Machine) (w : World) → IfSome o (λ script. IsIndex script.index) → IsProperRequest request → RequestUnder path o request
      → Clean (world_as setting o request m w) → Safe (world_as setting o request m w).hashed → HoldsAt T m w → RequestHas P setting o request m w
  request_has setting None request m w index proper under clean safe kept = each setting request m w proper under clean safe kept
  request_has setting (Some script) request m w index proper under clean safe kept =
      lines_have (script_setting setting script) (script_inside path setting script under index) (lines_read (script_text m.files script.file)) m w clean safe kept

  words_have : (setting : Setting) (o : Option Request) (m : Machine) (w : World) → IfSome o IsProperRequest → SpelledUnder path o
      → Clean (spelled_world setting o m w) → Safe (spelled_world setting o m w).hashed → HoldsAt T m w → WordsHave P setting o m w
  words_have setting None m w proper under clean safe kept = tt
  words_have setting (Some request) m w proper under clean safe kept = request_has setting (script_in request) request m w (script_index request proper) proper under clean safe kept

  pub run_has : (words : List (List ℕ)) (m : Machine) (w : World) → IsUnder words path → Clean (run_world words m w) → Safe (run_world words m w).hashed
      → HoldsAt T m w → RunHas P words m w
  unfolding run_world RunHas IsUnder
  run_has [] m w under clean safe kept = tt
  run_has (state ∷ words) m w under clean safe kept =
      words_have (outside state) (request_of (state ∷ words) None) m w (spelled_proper (state ∷ words) None) under clean safe kept

-- ---- a single `unseal`

-- what is kept is tied
tied_on : (path : List ℕ) (kept : Stored) (m : Machine) (w : World) → HoldsOn (IsOwnKept path) kept m w → IsTied kept w
tied_on path (Holds s) m w k = record { tied = k.own.base; order = k.orderly.objects }
tied_on path (TooLarge size) m w k = absurd k
tied_on path (Malformed place) m w k = absurd k
tied_on path (BadRule rule) m w k = absurd k

pub kept_tied : (path : List ℕ) (m : Machine) (w : World) → IsOwnKeptAt path m w → IsTied m.device w
kept_tied path m w k = tied_on path m.device m w k

pub token_exact : (state : List ℕ) (paths : TokenPaths) (m : Machine) (w : World) → IsTied m.device w → Safe (hashed_world (unseal_outcome state paths.token paths.policy m).hashed w).hashed → TokenOpensExactly state paths m w
unfolding unseal_outcome
token_exact state paths m w t safe = λ live handle literal key is enrolled.
    let tied : IsTiedTo live.state w = subst (λ (x : Machine). IsTied x.device w) is t in
    let there : Safe (w.hashed ++ (unseal_line state paths.token paths.policy (machine live)).hashed) = subst (λ (x : Machine). Safe (w.hashed ++ (unseal_line state paths.token paths.policy x).hashed)) is safe in
    subst (λ (x : Machine). OpensExactly (unseal_line state paths.token paths.policy x).ending key literal live) (sym is)
    (opens live w state paths.token paths.policy handle literal key (record { tied = tied.tied; safe = there }) enrolled)

-- the world after an `unseal` has its strings, and no more
pub unseal_safe : (setting : Setting) (token policy : List ℕ) (m : Machine) (w : World) → Safe (command_world setting (requests.Unseal token policy) m w).hashed
    → Safe (hashed_world (unseal_outcome setting.state token policy m).hashed w).hashed
unfolding act_of unseal_outcome
unseal_safe setting token policy m w safe = subst (λ (v : World). Safe v.hashed) (unseal_world setting.state token policy m w) safe

unseal_exact : (path : List ℕ) → HoldsOf path (IsOwnKept path) UnsealIsExact
unseal_exact path setting (requests.Unseal token policy) m w proper under clean safe kept =
    let there : Safe (hashed_world (unseal_outcome setting.state token policy m).hashed w).hashed = unseal_safe setting token policy m w safe in (
      token_exact setting.state (record { token = token; policy = policy }) m w (kept_tied path m w kept) there,
      token_bound path setting.state (record { token = token; policy = policy }) m w under.names kept there,
    )
unseal_exact path setting other m w proper under clean safe kept = tt

pub run_exact : (path : List ℕ) (words : List (List ℕ)) (m : Machine) (w : World) → IsUnder words path → Clean (run_world words m w) → Safe (run_world words m w).hashed
    → IsOwnKeptAt path m w → RunHas UnsealIsExact words m w
run_exact path words m w under clean safe kept = run_has path (IsOwnKept path) (own_tie path) (λ n v k. k) UnsealIsExact (unseal_exact path) words m w under clean safe kept
