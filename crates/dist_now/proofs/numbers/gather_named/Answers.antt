use Rattle.std.proofs.Common.{◌≡◌, ℕ, List, refl, [], subst, inl}
use Rattle.std.proofs.lemmas.Bool.{false≢true}
use Rattle.dist_repo.specs.Providers.{AreProviders}
use Rattle.dist_repo.specs.declared.package.Package.{Package}
use Rattle.dist_now.proofs.AddsLemmas.{adds-more}
use Rattle.dist_now.proofs.NumberLemmas.{IsAtAnd, adds-all, adds-at, adds-not, numbers-from, provider-within}
use Rattle.dist_now.proofs.numbers.gather_named.Goals.{then-eq+in_ok-push, else-eq}
use Rattle.dist_now.proofs.numbers.gather_named.Goals as goal

pub package-requires : goal.package-requires
package-requires c = provider-within c.args.repo.now c.bytes.result.now c.providers-providers.result.now c.loop-number.number-index
    c.providers-providers.ensures c.loop-number-test.true

pub loop-number-preserved : goal.loop-number-preserved
loop-number-preserved c =
    let P : Package → Type 0 = λ p. p.name ≡ c.args.name.now in
    let Of = IsAtAnd c.args.repo.now c.providers-providers.result.now P in
    elim c.if-eq.branch [
      | then-eq+in_ok-push w ↦
          rw (w.numbers-is, w.in_ok-push.ensures.items)
          (adds-more [] c.loop-number.numbers.items _ Of c.loop-number.number-index c.loop-number.invariant
          (adds-at c.args.repo.now c.providers-providers.result.now P c.loop-number.number-index c.package.result.now c.loop-number.numbers.items
          c.package.ensures (w.if-eq.ensures.same.0 refl)))
      | else-eq w ↦
          rw w.numbers-is
          (adds-more [] c.loop-number.numbers.items c.loop-number.numbers.items Of c.loop-number.number-index c.loop-number.invariant
          (adds-not c.args.repo.now c.providers-providers.result.now P c.loop-number.number-index c.package.result.now c.loop-number.numbers.items
          c.package.ensures (λ same. false≢true (w.if-eq.ensures.same.1 same))))
    ]

pub returns : goal.returns
returns c =
    let P : Package → Type 0 = λ p. p.name ≡ c.args.name.now in
    let are : AreProviders c.args.repo.now c.args.name.now c.providers-providers.result.now =
    subst (λ (name : List ℕ). AreProviders c.args.repo.now name c.providers-providers.result.now) c.bytes.ensures.value c.providers-providers.ensures in
    numbers-from c.args.repo.now P c.loop-number.numbers.items c.put_in_order.new.numbers.items c.put_in_order.ensures.rising c.put_in_order.ensures.same
    (adds-all c.args.repo.now c.args.name.now c.providers-providers.result.now P c.loop-number.number-index [] c.loop-number.numbers.items
    c.loop-number-test.false are (λ p same. inl same) c.loop-number.invariant)
