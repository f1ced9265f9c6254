use Rattle.std.proofs.Common.{false, get_or, subst}
use Rattle.dist_cert.specs.Form.{words_text}
use Rattle.dist_cert.specs.SpellingPrivate.{Leaves}
use Rattle.dist_cert.proofs.SpellingLemmas.{first-more, first-never, words-add, word_behind}
use Rattle.dist_cert.proofs.spelling.behind_literals.Goals as goal

pub returns-in-None : goal.returns-in-None
returns-in-None c =
    first-never words_text word_behind words-add c.args.text.now _ c.loop-left.rest.now c.loop-left.left.now (0, false) c.in-len1-up.len_at_least
    c.loop-left.invariant
    (subst (Leaves c.loop-left.rest.now (word_behind (get_or c.loop-left.left.now 0 (0, false)))) c.in-None.is c.behind_word.ensures)

pub loop-left-preserved : goal.loop-left-preserved
loop-left-preserved c =
    first-more words_text word_behind words-add c.args.text.now _ c.loop-left.rest.now c.loop-left.left.now (0, false) c.in-len1-up.len_at_least
    c.loop-left.invariant
    c.in-Some.behind (subst (Leaves c.loop-left.rest.now (word_behind (get_or c.loop-left.left.now 0 (0, false)))) c.in-Some.is c.behind_word.ensures)
