use Rattle.std.proofs.Common.{get_or, subst}
use Rattle.dist_cert.specs.Form.{pair_words, words_text}
use Rattle.dist_cert.specs.SpellingPrivate.{Leaves}
use Rattle.dist_cert.proofs.SpellingLemmas.{first-more, first-never, pairs-add, pair_text}
use Rattle.dist_cert.proofs.spelling.behind_pairs.Goals as goal

pub returns-in-None : goal.returns-in-None
returns-in-None c =
    first-never (λ ps. words_text (pair_words ps)) pair_text pairs-add c.args.text.now _ c.loop-left.rest.now c.loop-left.left.now (0, 0)
    c.in-len1-up.len_at_least c.loop-left.invariant
    (subst (Leaves c.loop-left.rest.now (pair_text (get_or c.loop-left.left.now 0 (0, 0)))) c.in-None.is c.behind_pair.ensures)

pub loop-left-preserved : goal.loop-left-preserved
loop-left-preserved c =
    first-more (λ ps. words_text (pair_words ps)) pair_text pairs-add c.args.text.now _ c.loop-left.rest.now c.loop-left.left.now (0, 0)
    c.in-len1-up.len_at_least c.loop-left.invariant
    c.in-Some.behind (subst (Leaves c.loop-left.rest.now (pair_text (get_or c.loop-left.left.now 0 (0, 0)))) c.in-Some.is c.behind_pair.ensures)
