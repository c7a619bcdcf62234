-- What a command that stopped has printed and said.
use Rattle.std.proofs.Common.{◌≡◌, ℕ, ◌≤◌, List, [], ◌++◌, inl, inr, refl, sym, ap, ◌∙◌, subst, append_assoc, arith}
use Rattle.std.specs.Prelude.{Option, None, Some, Result, Ok, Err, IfErr, OnOk}
use Rattle.std.proofs.lemmas.List.{append-nil}
use Rattle.pl_base.specs.FileMap.{FileMap}
use Rattle.pl_base.specs.Faults.{Rose}
use Rattle.pl_base.specs.Written.{WriteLeaves}
use Rattle.pl_base.specs.declared.memory.Memory.{Memory}
use Rattle.pl_base.specs.declared.sink.SinkError.{SinkError}
use Rattle.pl_base.specs.declared.sink.SinkError.TheVariants as sinks
use Rattle.tpm_device.specs.Stored.{Stored}
use Rattle.pcrlock_answer.specs.declared.answer.Answer.{Answer}
use Rattle.pcrlock_answer.specs.Texts.{answer_text, status_text}
use Rattle.pcrlock_line.specs.declared.reply.Reply.{Reply}
use Rattle.pcrlock_line.specs.declared.stop.Stop.{Stop}
use Rattle.pcrlock_line.specs.Outcome.{Ending, Outcome, Gives, ending_of, is_stop}
use Rattle.pcrlock_line.specs.Stopped.{StandsAmong}
use Rattle.pcrlock_line.proofs.Devices.{stands}
use Rattle.pcrlock_run.specs.Fronts.{CommandHalts, Gains, Halted, IsChanging, IsFront, IsPast, IsShowing, IsWriting, LineHalts, TellsStop}
use Rattle.pcrlock_run.specs.Says.{Says}
use Rattle.pcrlock_run.specs.Status.{status_of, out_of, err_of, stop_number, stop_answer}
use Rattle.pcrlock_run.proofs.Marks.{reply_goes}
use Rattle.pcrlock_run.proofs.Said.{says_nothing, says_same, says_then, says_told}

-- nothing is a front of each text
pub front_none : (text : List ℕ) → IsFront [] text
front_none text = record { rest = text; whole = refl }

pub front_empty : (front text : List ℕ) → front ≡ [] → IsFront front text
front_empty front text is = subst (λ (t : List ℕ). IsFront t text) (sym is) (front_none text)

-- a front of the first text is one of both
pub front_left : (front xs ys : List ℕ) → IsFront front xs → IsFront front (xs ++ ys)
front_left front xs ys h = record { rest = h.rest ++ ys; whole = ap (λ (t : List ℕ). t ++ ys) h.whole ∙ append_assoc front h.rest ys }

-- the first text before a front of the second
pub front_behind : (xs front ys : List ℕ) → IsFront front ys → IsFront (xs ++ front) (xs ++ ys)
front_behind xs front ys h = record { rest = h.rest; whole = ap (λ (t : List ℕ). xs ++ t) h.whole ∙ sym (append_assoc xs front h.rest) }

-- a count that didn't rise since a first time didn't rise since a later one
pub still : (a b c : ℕ) → a ≤ b → ¬ Rose a c → ¬ Rose b c
still a b c le none = λ r. none (omega (arith, le, r))

-- what holds anyway holds after a stop
pub anyway : {A E : Type 0} (P : Type 0) (result : Result A E) → P → IfErr result (λ _. P)
anyway P (Ok x) p = tt
anyway P (Err e) p = p

-- what follows from what holds after a stop
pub err_as : {A E : Type 0} (P Q : Type 0) (result : Result A E) → (P → Q) → IfErr result (λ _. P) → IfErr result (λ _. Q)
err_as P Q (Ok x) f h = tt
err_as P Q (Err e) f h = f h

-- ---- one write

-- a write that failed
pub failed_gains : (before now : ℕ) (u v : Option (List ℕ)) (bytes : List ℕ) (error : SinkError) → error ≡ sinks.Failed → Rose before now
    → ((written : List ℕ) → u ≡ Some written → WriteLeaves written bytes (Err error) v) → Gains before now u v bytes
failed_gains before now u v bytes error is rose leaves = by u (λ written e. let P : SinkError → Type 0 = λ s. WriteLeaves written bytes (Err s) v in subst P is (leaves written e))
  where
    by : (o : Option (List ℕ)) → ((written : List ℕ) → o ≡ Some written → WriteLeaves written bytes (Err sinks.Failed) v) → Gains before now o v bytes
    by None h = record { gained = []; front = record { rest = bytes; whole = refl }; exact = λ none. refl; out = λ written e. absurd (cc e) }
    by (Some first) h =
        let left = h first refl in
        record {
          gained = left.0;
          front = record { rest = left.1; whole = left.2 };
          exact = λ none. absurd (none rose);
          out = λ written e. let same : first ≡ written = cc in left.3 ∙ ap (λ (t : List ℕ). Some (t ++ left.0)) same;
        }

-- a write that was never begun
pub unwritten_gains : (before now : ℕ) (u v : Option (List ℕ)) (bytes : List ℕ) → ((written : List ℕ) → u ≡ Some written → v ≡ Some written) → Gains before now u v bytes
unwritten_gains before now u v bytes same = record {
  gained = [];
  front = front_none bytes;
  exact = λ none. refl;
  out = λ written e. same written e ∙ ap Some (sym (append-nil written));
}

-- a write that found no memory
pub memory_gains : (before now : ℕ) (u v : Option (List ℕ)) (bytes : List ℕ) (error : SinkError) → error ≡ sinks.Memory
    → ((written : List ℕ) → u ≡ Some written → WriteLeaves written bytes (Err error) v) → Gains before now u v bytes
memory_gains before now u v bytes error is leaves =
    unwritten_gains before now u v bytes (λ written e. let P : SinkError → Type 0 = λ s. WriteLeaves written bytes (Err s) v in subst P is (leaves written e))

-- an answer that found no memory says nothing
pub memory_says : (before now : ℕ) (u v : Option (List ℕ)) (bytes : List ℕ) (error : SinkError) → error ≡ sinks.Memory → before ≤ now
    → ((written : List ℕ) → u ≡ Some written → WriteLeaves written bytes (Err error) v) → Says before u now v []
memory_says before now u v bytes error is later leaves = record {
  later = later;
  appended = λ written e none. (let P : SinkError → Type 0 = λ s. WriteLeaves written bytes (Err s) v in subst P is (leaves written e)) ∙ ap Some (sym (append-nil written));
}

-- ---- a reply

-- another way to stop, behind the same texts
pub halted_as : (P Q : List ℕ → List ℕ → Type 0) (u v : Option (List ℕ)) (f : ℕ) (x : Option (List ℕ)) (g : ℕ) (y : Option (List ℕ)) → ((printed spoken : List ℕ) → P printed spoken → Q printed spoken)
    → Halted P u v f x g y → Halted Q u v f x g y
halted_as P Q u v f x g y into h = record { printed = h.printed; spoken = h.spoken; so = into h.printed h.spoken h.so; out = h.out; err = h.err }

-- nothing was printed or said
pub halted_silent : (P : List ℕ → List ℕ → Type 0) (u : Option (List ℕ)) (f : ℕ) (x : Option (List ℕ)) → P [] [] → Halted P u u f x f x
halted_silent P u f x p = record { printed = []; spoken = []; so = p; out = λ written e. e ∙ ap Some (sym (append-nil written)); err = says_nothing f x }

-- a text that wasn't written whole
pub fine_halts : (before now : ℕ) (u v : Option (List ℕ)) (f : ℕ) (x : Option (List ℕ)) (ending : Ending) (text : List ℕ) → text ≡ out_of ending → Gains before now u v text
    → Halted (IsWriting before now ending) u v f x f x
fine_halts before now u v f x ending text is h = record {
  printed = h.gained;
  spoken = [];
  so = record { front = subst (IsFront h.gained) is h.front; exact = h.exact; quiet = refl };
  out = h.out;
  err = says_nothing f x;
}

-- an answer that wasn't told
pub answer_halts : (count : ℕ) (u : Option (List ℕ)) (f : ℕ) (x : Option (List ℕ)) (g : ℕ) (y : Option (List ℕ)) (ending : Ending) → Says f x g y []
    → Halted (IsWriting count count ending) u u f x g y
answer_halts count u f x g y ending said = record {
  printed = [];
  spoken = [];
  so = record { front = front_none (out_of ending); exact = λ none. refl; quiet = refl };
  out = λ written e. e ∙ ap Some (sym (append-nil written));
  err = said;
}

-- a mark that wasn't written whole
pub mark_halts : (a b c : ℕ) (u v w : Option (List ℕ)) (f : ℕ) (x : Option (List ℕ)) (g : ℕ) (y : Option (List ℕ)) (ending : Ending) (number : ℕ) → a ≤ b → number ≡ status_of ending
    → ((written : List ℕ) → u ≡ Some written → v ≡ Some (written ++ out_of ending)) → Says f x g y (err_of ending) → Gains b c v w (status_text number)
    → Halted (IsShowing a c ending) u w f x g y
mark_halts a b c u v w f x g y ending number le same told said h = record {
  printed = out_of ending ++ h.gained;
  spoken = err_of ending;
  so = inr (record {
    mark = h.gained;
    text = refl;
    front = subst (λ (n : ℕ). IsFront h.gained (status_text n)) same h.front;
    exact = λ none. h.exact (still a b c le none);
    answer = refl;
  });
  out = λ written e. h.out (written ++ out_of ending) (told written e) ∙ ap Some (append_assoc written (out_of ending) h.gained);
  err = said;
}

-- ---- a command

-- with a reply all changes are done
past : (held : Option FileMap) (stored : Option Stored) (draws : Option (List (List ℕ))) (reply : Reply) (o : Outcome) → Gives held stored draws reply o → IsPast held stored o
past held stored draws reply o gives = record { goes = ap is_stop (sym gives.ending) ∙ reply_goes reply; stands = stands held stored draws o.after gives.tells }

pub command_writing : (held : Option FileMap) (stored : Option Stored) (draws : Option (List (List ℕ))) (before now : ℕ) (u v : Option (List ℕ)) (f : ℕ) (x : Option (List ℕ)) (g : ℕ) (y : Option (List ℕ)) (reply : Reply) (o : Outcome)
    → Gives held stored draws reply o → Halted (IsWriting before now (ending_of reply)) u v f x g y → Halted (CommandHalts held stored before now o) u v f x g y
command_writing held stored draws before now u v f x g y reply o gives h =
    halted_as (IsWriting before now (ending_of reply)) (CommandHalts held stored before now o) u v f x g y
    (λ printed spoken k. inr (past held stored draws reply o gives, subst (λ (e : Ending). IsWriting before now e printed spoken) gives.ending k)) h

pub line_showing : (held : Option FileMap) (stored : Option Stored) (draws : Option (List (List ℕ))) (before now : ℕ) (u v : Option (List ℕ)) (f : ℕ) (x : Option (List ℕ)) (g : ℕ) (y : Option (List ℕ)) (reply : Reply) (o : Outcome)
    → Gives held stored draws reply o → Halted (IsShowing before now (ending_of reply)) u v f x g y → Halted (LineHalts held stored before now o) u v f x g y
line_showing held stored draws before now u v f x g y reply o gives h =
    halted_as (IsShowing before now (ending_of reply)) (LineHalts held stored before now o) u v f x g y
    (λ printed spoken k. inr (past held stored draws reply o gives, subst (λ (e : Ending). IsShowing before now e printed spoken) gives.ending k)) h

-- a stop among the changes
changing : (held : Option FileMap) (stored : Option Stored) (o : Outcome) → StandsAmong held stored o.stops → IsChanging held stored o [] []
changing held stored o h = record { stands = h; silent = refl; quiet = refl }

pub command_changing : (held : Option FileMap) (stored : Option Stored) (count : ℕ) (u : Option (List ℕ)) (f : ℕ) (x : Option (List ℕ)) (o : Outcome) → StandsAmong held stored o.stops
    → Halted (CommandHalts held stored count count o) u u f x f x
command_changing held stored count u f x o h = halted_silent (CommandHalts held stored count count o) u f x (inl (changing held stored o h))

pub line_changing : (held : Option FileMap) (stored : Option Stored) (count : ℕ) (u : Option (List ℕ)) (f : ℕ) (x : Option (List ℕ)) (o : Outcome) → StandsAmong held stored o.stops
    → Halted (LineHalts held stored count count o) u u f x f x
line_changing held stored count u f x o h = halted_silent (LineHalts held stored count count o) u f x (inl (changing held stored o h))

-- a refusal that wasn't told stops where nothing is changed yet
pub refusal_halts : (held : Option FileMap) (stored : Option Stored) (count : ℕ) (u : Option (List ℕ)) (f : ℕ) (x : Option (List ℕ)) (g : ℕ) (y : Option (List ℕ)) (o : Outcome)
    → StandsAmong held stored o.stops → Says f x g y [] → Halted (CommandHalts held stored count count o) u u f x g y
refusal_halts held stored count u f x g y o h said = record {
  printed = [];
  spoken = [];
  so = inl (changing held stored o h);
  out = λ written e. e ∙ ap Some (sym (append-nil written));
  err = said;
}

-- ---- the line of a stop

-- a stop that was told behind what was said
pub tells_behind : (stop : Stop) (status : ℕ) (spoken : List ℕ) (f : ℕ) (x : Option (List ℕ)) (g : ℕ) (y : Option (List ℕ)) (k : ℕ) (z : Option (List ℕ)) → Says f x g y spoken
    → TellsStop stop status [] g y k z → TellsStop stop status spoken f x k z
tells_behind stop status spoken f x g y k z said (inl told) =
    inl (told.0, says_then f x g y k z spoken (answer_text (stop_answer stop)) said told.1)
tells_behind stop status spoken f x g y k z said (inr silent) =
    inr (silent.0, says_same f x k z (spoken ++ []) spoken (append-nil spoken) (says_then f x g y k z spoken [] said silent.1))

pub told_so : (stop : Stop) (status : ℕ) (f : ℕ) (x : Option (List ℕ)) (g : ℕ) (y : Option (List ℕ)) (answer : Answer) (result : Result Unit Memory) → status ≡ stop_number stop → answer ≡ stop_answer stop → result ≡ Ok tt → f ≤ g
    → ((before : List ℕ) → x ≡ Some before → ¬ Rose f g → OnOk result (y ≡ Some (before ++ answer_text answer))) → TellsStop stop status [] f x g y
told_so stop status f x g y answer result same is fine later told =
    inl (same, says_same f x g y (answer_text answer) (answer_text (stop_answer stop)) (ap answer_text is) (says_told f x g y (answer_text answer) result fine later told))
