use Rattle.std.proofs.Common.{List, ℕ, arith, subst, sym}
use Rattle.dist_archive.specs.MembersPrivate.{IsNamedBehind}
use Rattle.dist_archive.proofs.MembersLemmas.{AreNumbersSoFar, IsNumbered, numbered-more, numbered-none}
use Rattle.dist_archive.proofs.OrderLemmas.{all-by-place}
use Rattle.dist_archive.proofs.uploads.numbers_of.Goals as goal

pub loop-number-init : goal.loop-number-init
loop-number-init c =
    let packages = c.args.repo.now.packages in
    let block = c.args.block.now.packages in
    subst (λ (l : List ℕ). AreNumbersSoFar packages block 0 l) (sym c.new-numbers.ensures.items) (numbered-none packages block)

pub loop-number-preserved : goal.loop-number-preserved
loop-number-preserved c =
    let packages = c.args.repo.now.packages in
    let old = c.loop-number.numbers.items in
    let new = c.push_named.new.numbers.items in
    numbered-more packages c.args.block.now.packages c.loop-number.number c.package.result.now old new c.package.ensures
    (subst (λ (name : List ℕ). IsNamedBehind packages name old new) c.bytes.ensures.value c.in_ok-push_named.ensures) c.loop-number.invariant

pub returns : goal.returns
returns c =
    let packages = c.args.repo.now.packages in
    let block = c.args.block.now.packages in record {
      each = c.loop-number.invariant.each;
      all = all-by-place (IsNumbered packages block c.loop-number.numbers.items) block
          (λ k short. c.loop-number.invariant.all k (omega (arith, c.len-number-end.ensures.value)));
    }
