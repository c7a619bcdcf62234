-- A log is that of its path and of what stands there.
use Rattle.std.proofs.Common.{◌≡◌, ℕ, Bool, List, sym, ap, ◌∙◌, subst}
use Rattle.std.specs.Prelude.{Option, None, Some, Result, Ok, Err, is_some, unwrap_or}
use Rattle.pl_base.specs.FileMap.{FileMap}
use Rattle.pcrlock_answer.specs.declared.answer.Answer.{Answer}
use Rattle.pcrlock_line.specs.Content.{Content, content_of}
use Rattle.pcrlock_input.specs.declared.error.InputError.{InputError}
use Rattle.pcrlock_input.specs.Answering.{Answers}

-- content that is found, which no answer refuses
abbrev pub found_ok : Content → Result Content Answer
found_ok content = Ok content

-- what is read by these tests of a path and this content is what the definition reads
pub named_told : {X Y : Type 0} (view : X → Y) (result : Result X InputError) (reads : Bool → List ℕ → Content → Result Y Answer)
    (files : FileMap) (named : Option (List ℕ)) (usual : List ℕ) (limit : ℕ) (is_named : Bool) (path : List ℕ) (content : Content)
    → is_named ≡ is_some named → path ≡ unwrap_or named usual → found_ok (content_of files path limit) ≡ Ok content
    → Answers view result (reads is_named path content)
    → Answers view result (reads (is_some named) (unwrap_or named usual) (content_of files (unwrap_or named usual) limit))
named_told view result reads files named usual limit is_named path content test same found told =
    let there : content ≡ content_of files (unwrap_or named usual) limit = sym (let e : content_of files path limit ≡ content = cc in e) ∙ ap (λ (p : List ℕ). content_of files p limit) same in
    let whole : reads is_named path content ≡ reads (is_some named) (unwrap_or named usual) (content_of files (unwrap_or named usual) limit) = cc in
    subst (Answers view result) whole told
