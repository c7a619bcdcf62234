use Rattle.std.proofs.Common.{◌∙◌, sym, ap, get_or, []}
use Rattle.std.proofs.Common.{◌∷◌, ◌++◌}
use Rattle.pcrlock_words.specs.Lines.{is_blank, words_among}
use Rattle.pcrlock_words.proofs.LineLemmas.{cut-none, cut-more, cut-blank, so_far-end}
use Rattle.pcrlock_words.proofs.lines.split_line.Goals as goal
use Rattle.pcrlock_words.proofs.lines.split_line.Goals.{then-is_blank+in_ok-push_word, else-is_blank}

pub loop-end-init : goal.loop-end-init
loop-end-init c = cut-none c.args.line.now c.new-words.result c.utf8.line c.new-words.ensures

pub loop-end-preserved : goal.loop-end-preserved
loop-end-preserved c =
    let same = c.as_bytes-byte-items.ensures.value in
    let byte_is = ap (λ bytes. is_blank (get_or bytes c.loop-end.end 0)) same in
    elim c.if-is_blank.branch [
      | then-is_blank+in_ok-push_word w ↦
          rw (w.words-is, w.start-is)
          (cut-blank c.args.line.now c.loop-end.words w.push_word.new.words c.loop-end.start c.loop-end.end c.loop-end.invariant c.utf8.line (rw same at c.loop-end-test.true) (sym byte_is ∙ sym c.is_blank.ensures ∙ w.if-is_blank.true) (w.in_ok-push_word.ensures ∙ ap (λ part. c.loop-end.words ++ words_among (part ∷ [])) w.range.ensures.value))
      | else-is_blank w ↦
          rw (w.words-is, w.start-is)
          (cut-more c.args.line.now c.loop-end.words c.loop-end.start c.loop-end.end c.loop-end.invariant (sym byte_is ∙ sym c.is_blank.ensures ∙ w.if-is_blank.false))
    ]

pub returns : goal.returns
returns c =
    let same = c.as_bytes-byte-items.ensures.value in
    so_far-end c.args.line.now c.loop-end.words c.push_word-2.new.words c.loop-end.start c.loop-end.end c.loop-end.invariant (rw same at c.loop-end.auto.end-end) (rw same at c.loop-end-test.false) (c.in_ok-push_word-2.ensures ∙ ap (λ part. c.loop-end.words ++ words_among (part ∷ [])) c.range_from.ensures.value)
