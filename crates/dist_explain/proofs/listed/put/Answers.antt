use Rattle.std.proofs.Common.{nat_cmp, subst, sym, Err}
use Rattle.std.specs.List.Sorted.{IsBinarySearchResult}
use Rattle.dist_cert.specs.Rising.{AreRising}
use Rattle.dist_explain.specs.ListedPrivate.{HasOneMore}
use Rattle.dist_explain.proofs.ListedLemmas.{one-more, put-rising}
use Rattle.dist_explain.proofs.listed.put.Goals as goal

pub returns-in_ok-insert-clause-rising : goal.returns-in_ok-insert-clause-rising
returns-in_ok-insert-clause-rising c =
    subst AreRising (sym c.in_ok-insert.ensures.items) (put-rising c.args.numbers.now.items c.args.number c.in-Err.place c.requires
    (subst (λ xs. IsBinarySearchResult (λ x. nat_cmp x c.args.number) xs (Err c.in-Err.place)) c.deref.ensures.value c.in-Err.ensures.position))

pub returns-in_ok-insert-clause-more : goal.returns-in_ok-insert-clause-more
returns-in_ok-insert-clause-more c = subst (λ xs. HasOneMore c.args.numbers.now.items xs c.args.number) (sym c.in_ok-insert.ensures.items)
    (one-more c.args.numbers.now.items c.in-Err.place c.args.number)
