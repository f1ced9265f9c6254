use Rattle.std.proofs.Common.{◌-◌, length, take, drop, subst}
use Rattle.std.proofs.lemmas.Bool.{false≢true}
use Rattle.dist_cert.specs.Form.{letter, words, words_text}
use Rattle.dist_cert.specs.SpellingPrivate.{Leaves}
use Rattle.dist_cert.proofs.SpellingLemmas.{no-text-of}
use Rattle.dist_cert.proofs.spelling.is_text_of.Goals as goal

pub returns-in-None : goal.returns-in-None
returns-in-None c =
    let line = c.args.line.now in
    let step = c.args.step.now in
    let behind = take (length line - 1) (drop 1 line) in
    let none = subst (Leaves behind (words_text (words step))) c.in-None.is c.behind_words.ensures in
    (λ never. absurd (false≢true never), λ is. absurd (no-text-of line (words_text (words step)) (letter step) c.in-len1-up.len_at_least none is))
