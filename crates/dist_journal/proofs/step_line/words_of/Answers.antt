use Rattle.std.proofs.Common.{◌≡◌, ℕ, List, arith, subst}
use Rattle.std.specs.Borrow.{Bor}
use Rattle.dist_journal.specs.CutPrivate.{with_more}
use Rattle.dist_journal.specs.Journal.{words}
use Rattle.dist_journal.proofs.WordLemmas.{has-more, some-word}
use Rattle.dist_journal.proofs.step_line.words_of.Goals as goal

pub returns-in-Some-rest-2 : goal.returns-in-Some-rest-2
returns-in-Some-rest-2 c =
    let first = has-more c.args.line.now _ _ c.in_default-Some.rest c.split_word.ensures c.in_default-Some.is-1 in
    let second = has-more c.in_default-Some.rest.now c.split_word-2.result.0.now c.split_word-2.result.1 c.in-Some.rest
    (subst (λ (b : Bor (List ℕ)). words b.now ≡ with_more c.split_word-2.result.0.now c.split_word-2.result.1) c.in_default-Some.rest-is
    c.split_word-2.ensures) c.in-Some.is in
    let third = has-more c.in-Some.rest.now _ _ c.in-Some-rest.rest c.split_word-3.ensures c.in-Some-rest.is in
    let fourth = has-more c.in-Some-rest.rest.now _ _ c.in-Some-rest-2.field-0 c.split_word-4.ensures c.in-Some-rest-2.is in
    let some = some-word c.in-Some-rest-2.field-0.now in (
      (λ e. omega (arith, first.longer, second.longer, third.longer, fourth.longer, some, e)),
      (λ e. omega (arith, first.longer, second.longer, third.longer, fourth.longer, some, e)),
      λ e. omega (arith, first.longer, second.longer, third.longer, fourth.longer, some, e),
    )
