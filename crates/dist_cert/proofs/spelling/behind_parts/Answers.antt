use Rattle.std.proofs.Common.{subst}
use Rattle.dist_cert.specs.Form.{words_text}
use Rattle.dist_cert.specs.SpellingPrivate.{Leaves, parts_words}
use Rattle.dist_cert.proofs.SpellingLemmas.{first-more, first-never, parts-add, part_text}
use Rattle.dist_cert.proofs.spelling.behind_parts.Goals as goal

pub returns-in-None : goal.returns-in-None
returns-in-None c =
    first-never (λ ps. words_text (parts_words ps)) part_text parts-add c.args.text.now _ c.loop-left.rest.now c.loop-left.left.now _ c.in-len1-up.len_at_least
    c.loop-left.invariant
    (subst (Leaves c.loop-left.rest.now _) c.in-None.is c.behind_part.ensures)

pub loop-left-preserved : goal.loop-left-preserved
loop-left-preserved c =
    first-more (λ ps. words_text (parts_words ps)) part_text parts-add c.args.text.now _ c.loop-left.rest.now c.loop-left.left.now _ c.in-len1-up.len_at_least
    c.loop-left.invariant
    c.in-Some.behind (subst (Leaves c.loop-left.rest.now _) c.in-Some.is c.behind_part.ensures)
