-- What the TPM gets through the broker leads to the state that is left.
use Rattle.std.proofs.Common.{◌≡◌, ℕ, ◌+◌, ◌<◌, ◌≤◌, List, [], ◌∷◌, ◌++◌, map, length, get_or, take, drop, refl, sym, ap, ◌∙◌, subst, arith}
use Rattle.std.specs.Prelude.{Option, flat_map}
use Rattle.std.proofs.lemmas.List.{append-nil, append_assoc, length-append, map-append, take-append-drop, take-append-le, take_all, take_more}
use Rattle.std.proofs.lemmas.List.Concat.{flat_map-append}
use Rattle.tpm_model.specs.declared.command.Command.{Command}
use Rattle.tpm_model.specs.declared.command.Command.TheVariants as command
use Rattle.tpm_model.specs.declared.parts.Parts.{Parts}
use Rattle.tpm_model.specs.Respond.{respond}
use Rattle.tpm_worlds.specs.CommandLists.{state_after}
use Rattle.tpm_device.specs.Stored.{Stored}
use Rattle.tpm_broker.specs.declared.plan.Plan.{Plan}
use Rattle.tpm_broker.specs.declared.plan.Plan.TheVariants as plan
use Rattle.tpm_broker.specs.declared.rows.Handles.{Handles}
use Rattle.tpm_broker.specs.Clients.{Client, client_at}
use Rattle.tpm_broker.specs.Leaving.{after_flushes}
use Rattle.tpm_broker.specs.Lists.{clients_left, state_left}
use Rattle.tpm_broker.specs.Served.{plan_of, served, served_by}
use Rattle.pcrlock_line.specs.Running.{Keeps, Runs}
use Rattle.pcrlock_exec.specs.Sending.{IsPartWay}
use Rattle.pcrlock_broker.specs.Broker.{brokered, flushes, flushes_of, new_clients, passed, passed_by}
use Rattle.pcrlock_broker.specs.Serving.{IsServedPartWay}

-- ---- lists of commands

state_append : (xs ys : List Command) (s : Parts) → state_after (xs ++ ys) s ≡ state_after ys (state_after xs s)
state_append [] ys s = refl
state_append (x ∷ xs) ys s = state_append xs ys (respond x s).1

take_front : {A : Type 0} (xs ys : List A) → take (length xs) (xs ++ ys) ≡ xs
take_front xs ys = take-append-le (length xs) xs ys (omega arith) ∙ take_all (length xs) xs (omega arith)

-- what stands after the first commands of a list stands part way
pub at_front : (kept : Option Stored) (list front rest : List Command) (s : Parts) → list ≡ front ++ rest → Keeps kept (state_after front s) → IsPartWay kept list s
at_front kept list front rest s is keeps =
    let size : length list ≡ length front + length rest = ap length is ∙ length-append front rest in
    record {
      count = length front;
      few = omega (arith, size);
      keeps = subst (λ xs. Keeps kept (state_after xs s)) (sym (take_front front rest) ∙ ap (take (length front)) (sym is)) keeps;
    }

-- ---- a command

one_passed : (p : Plan) (k : ℕ) (c : Command) (clients : List Client) (s : Parts) → (served_by p k c clients s).state ≡ state_after (passed_by p c) s
one_passed plan.Pass k c clients s = refl
one_passed (plan.PassOn tpm) k c clients s = refl
one_passed (plan.NoSession own) k c clients s = refl
one_passed plan.WrongHash k c clients s = refl
one_passed plan.Full k c clients s = refl
one_passed plan.End k c clients s = refl

-- ---- commands

pub all_passed : (asked : List (ℕ × Command)) (clients : List Client) (s : Parts) → state_left asked clients s ≡ state_after (passed asked clients s) s
all_passed [] clients s = refl
all_passed (one ∷ rest) clients s =
    let out = served one.0 one.1 clients s in
    let p = plan_of one.1 (client_at one.0 clients) in
    all_passed rest out.clients out.state
    ∙ ap (state_after (passed rest out.clients out.state)) (one_passed p one.0 one.1 clients s)
    ∙ sym (state_append (passed_by p one.1) (passed rest out.clients out.state) s)

passed_append : (xs ys : List (ℕ × Command)) (clients : List Client) (s : Parts) → passed (xs ++ ys) clients s ≡ passed xs clients s ++ passed ys (clients_left xs clients s) (state_left xs clients s)
passed_append [] ys clients s = refl
passed_append (one ∷ rest) ys clients s =
    let out = served one.0 one.1 clients s in
    let front = passed_by (plan_of one.1 (client_at one.0 clients)) one.1 in
    ap (λ more. front ++ more) (passed_append rest ys out.clients out.state)
    ∙ sym (append_assoc front (passed rest out.clients out.state) (passed ys (clients_left rest out.clients out.state) (state_left rest out.clients out.state)))

-- ---- flushes

pub flushed : (sessions : List Handles) (s : Parts) → after_flushes sessions s ≡ state_after (map (λ (handles : Handles). command.FlushSession handles.tpm) sessions) s
flushed [] s = refl
flushed (handles ∷ rest) s = flushed rest (respond (command.FlushSession handles.tpm) s).1

-- the flushes of one client more
flushes_more : (clients : List Client) (i : ℕ) → i < length clients → flushes (take (i + 1) clients) ≡ flushes (take i clients) ++ flushes_of (client_at i clients)
flushes_more clients i within =
    ap flushes (take_more clients i _ within)
    ∙ flat_map-append flushes_of (take i clients) (client_at i clients ∷ [])
    ∙ ap (λ more. flushes (take i clients) ++ more) (append-nil (flushes_of (client_at i clients)))

pub flushed_more : (clients : List Client) (i : ℕ) (s : Parts) → i < length clients
    → after_flushes (client_at i clients).sessions (state_after (flushes (take i clients)) s) ≡ state_after (flushes (take (i + 1) clients)) s
flushed_more clients i s within =
    flushed (client_at i clients).sessions (state_after (flushes (take i clients)) s)
    ∙ sym (state_append (flushes (take i clients)) (flushes_of (client_at i clients)) s)
    ∙ ap (λ xs. state_after xs s) (sym (flushes_more clients i within))

-- some of the sessions of the next client were flushed
pub flushed_part : (kept : Option Stored) (clients : List Client) (i n : ℕ) (s : Parts) → i < length clients
    → Keeps kept (after_flushes (take n (client_at i clients).sessions) (state_after (flushes (take i clients)) s)) → IsPartWay kept (flushes clients) s
flushed_part kept clients i n s within keeps =
    let f = λ (handles : Handles). command.FlushSession handles.tpm in
    let sessions = (client_at i clients).sessions in
    let before = flushes (take i clients) in
    let front = map f (take n sessions) in
    let later = map f (drop n sessions) ++ flushes (drop (i + 1) clients) in
    let one : flushes_of (client_at i clients) ≡ front ++ map f (drop n sessions) = ap (map f) (sym (take-append-drop n sessions)) ∙ map-append f (take n sessions) (drop n sessions) in
    let all : flushes clients ≡ (before ++ front) ++ later =
    ap flushes (sym (take-append-drop (i + 1) clients))
    ∙ flat_map-append flushes_of (take (i + 1) clients) (drop (i + 1) clients)
    ∙ ap (λ xs. xs ++ flushes (drop (i + 1) clients)) (flushes_more clients i within ∙ ap (λ xs. before ++ xs) one)
    ∙ append_assoc before (front ++ map f (drop n sessions)) (flushes (drop (i + 1) clients))
    ∙ ap (λ xs. before ++ xs) (append_assoc front (map f (drop n sessions)) (flushes (drop (i + 1) clients)))
    ∙ sym (append_assoc before front later) in
    at_front kept (flushes clients) (before ++ front) later s all
    (subst (Keeps kept) (flushed (take n sessions) (state_after before s) ∙ sym (state_append before front s)) keeps)

-- ---- both

pub all_left : (count : ℕ) (list : List (ℕ × Command)) (s : Parts)
    → state_after (flushes (clients_left list (new_clients count) s)) (state_left list (new_clients count) s) ≡ state_after (brokered count list s) s
all_left count list s =
    let clients = new_clients count in
    ap (state_after (flushes (clients_left list clients s))) (all_passed list clients s)
    ∙ sym (state_append (passed list clients s) (flushes (clients_left list clients s)) s)

-- a stop among the commands
pub stopped_serving : (kept : Option Stored) (count : ℕ) (list : List (ℕ × Command)) (s : Parts) → IsServedPartWay kept list (new_clients count) s → IsPartWay kept (brokered count list s) s
stopped_serving kept count list s part =
    let clients = new_clients count in
    let first = take part.count list in
    let rest = drop part.count list in
    let later = passed rest (clients_left first clients s) (state_left first clients s) in
    let ends = flushes (clients_left list clients s) in
    at_front kept (brokered count list s) (passed first clients s) (later ++ ends) s
    (ap (λ xs. passed xs clients s ++ ends) (sym (take-append-drop part.count list))
    ∙ ap (λ xs. xs ++ ends) (passed_append first rest clients s)
    ∙ append_assoc (passed first clients s) later ends)
    (subst (Keeps kept) (all_passed first clients s) part.keeps)

-- a stop among the flushes
pub stopped_leaving : (kept : Option Stored) (count : ℕ) (list : List (ℕ × Command)) (s : Parts)
    → IsPartWay kept (flushes (clients_left list (new_clients count) s)) (state_left list (new_clients count) s) → IsPartWay kept (brokered count list s) s
stopped_leaving kept count list s part =
    let clients = new_clients count in
    let all = flushes (clients_left list clients s) in
    let front = passed list clients s in
    at_front kept (brokered count list s) (front ++ take part.count all) (drop part.count all) s
    (ap (λ xs. front ++ xs) (sym (take-append-drop part.count all)) ∙ sym (append_assoc front (take part.count all) (drop part.count all)))
    (subst (Keeps kept) (ap (state_after (take part.count all)) (all_passed list clients s) ∙ sym (state_append front (take part.count all) s)) part.keeps)

-- ---- from a new broker

pub served_stops : (kept : Option Stored) (count : ℕ) (list : List (ℕ × Command)) (s : Parts) (before : List Client) → before ≡ new_clients count → IsServedPartWay kept list before s
    → IsPartWay kept (brokered count list s) s
served_stops kept count list s before new part = stopped_serving kept count list s (subst (λ (cs : List Client). IsServedPartWay kept list cs s) new part)

pub left_stops : (kept : Option Stored) (count : ℕ) (list : List (ℕ × Command)) (s : Parts) (before broker : List Client) → before ≡ new_clients count → broker ≡ clients_left list before s
    → IsPartWay kept (flushes broker) (state_left list before s) → IsPartWay kept (brokered count list s) s
left_stops kept count list s before broker new left part =
    stopped_leaving kept count list s
    (subst (λ (cs : List Client). IsPartWay kept (flushes (clients_left list cs s)) (state_left list cs s)) new
    (subst (λ (cs : List Client). IsPartWay kept (flushes cs) (state_left list before s)) left part))

pub left_runs : (now : Option Parts) (kept : Option Stored) (count : ℕ) (list : List (ℕ × Command)) (s : Parts) (before broker : List Client) → before ≡ new_clients count
    → broker ≡ clients_left list before s → Runs now kept (state_after (flushes broker) (state_left list before s)) → Runs now kept (state_after (brokered count list s) s)
left_runs now kept count list s before broker new left runs =
    subst (Runs now kept) (all_left count list s)
    (subst (λ (cs : List Client). Runs now kept (state_after (flushes (clients_left list cs s)) (state_left list cs s))) new
    (subst (λ (cs : List Client). Runs now kept (state_after (flushes cs) (state_left list before s))) left runs))
