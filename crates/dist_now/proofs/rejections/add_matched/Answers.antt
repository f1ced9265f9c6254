use Rattle.std.proofs.Common.{ℕ, List, arith, get_or, subst}
use Rattle.std.proofs.lemmas.Bool.{false≢true}
use Rattle.std.proofs.lemmas.Result.{on_ok_weaker}
use Rattle.dist_repo.specs.Match.{Matches}
use Rattle.dist_repo.specs.Providers.{AreProviders}
use Rattle.dist_now.proofs.AddsLemmas.{adds-more, adds-none}
use Rattle.dist_now.proofs.NumberLemmas.{provider-at}
use Rattle.dist_now.proofs.PairLemmas.{IsPairAt, offered-pairs, pair-behind, pair-below, pairs-all, pairs-none}
use Rattle.dist_now.proofs.rejections.add_matched.Goals.{else-number-span, then-number-span}
use Rattle.dist_now.proofs.rejections.add_matched.Goals as goal

pub returns-then-not-usable : goal.returns-then-not-usable
returns-then-not-usable c =
    pairs-none c.args.repo.now c.args.span.start c.args.span.end c.args.number c.args.atom.now c.args.pairs.now.items
    (λ usable. false≢true (c.if-not-usable.ensures.1 usable))

pub loop-place-init : goal.loop-place-init
loop-place-init c =
    let P = Matches c.args.repo.now.architecture c.args.atom.now in
    adds-none c.args.pairs.now.items (IsPairAt c.args.repo.now c.args.span.start c.args.span.end c.args.number c.providers-providers.result.now P)
    c.place_from-from.result
    (λ i x less. pair-below c.args.repo.now c.args.span.start c.args.span.end c.args.number (get_or c.providers-providers.result.now i 0) P x
    (c.place_from-from.ensures.below i less))

pub cost_no_more-requires-clause-providers : goal.cost_no_more-requires-clause-providers
cost_no_more-requires-clause-providers c =
    subst (λ (name : List ℕ). AreProviders c.args.repo.now name c.providers-providers.result.now) c.bytes.ensures.value c.providers-providers.ensures

pub cost_no_more-requires-clause-to : goal.cost_no_more-requires-clause-to
cost_no_more-requires-clause-to c = elim c.if-number-span.branch [
  | then-number-span w ↦ let to = w.to-is in omega (arith, to)
  | else-number-span w ↦ let to = w.to-is in omega (arith, to, w.place_from-to.ensures.to_len)
]

pub add_match-requires-clause-provider : goal.add_match-requires-clause-provider
add_match-requires-clause-provider c =
    let providers = c.providers-providers.result.now in
    let are = subst (λ (name : List ℕ). AreProviders c.args.repo.now name providers) c.bytes.ensures.value c.providers-providers.ensures in
    provider-at c.args.repo.now c.args.atom.now.name providers c.loop-place.place are
    (elim c.if-number-span.branch [
      | then-number-span w ↦ let to = w.to-is in omega (arith, to, c.loop-place-test.true)
      | else-number-span w ↦ let to = w.to-is in omega (arith, to, c.loop-place-test.true, w.place_from-to.ensures.to_len)
    ])

pub loop-place-preserved : goal.loop-place-preserved
loop-place-preserved c =
    adds-more c.args.pairs.now.items c.loop-place.pairs.items c.add_match.new.pairs.items
    (IsPairAt c.args.repo.now c.args.span.start c.args.span.end c.args.number c.providers-providers.result.now
    (Matches c.args.repo.now.architecture c.args.atom.now))
    c.loop-place.place c.loop-place.invariant c.in_ok-add_match.ensures

pub returns-then-cost_no_more : goal.returns-then-cost_no_more
returns-then-cost_no_more c =
    on_ok_weaker c.add_offered.result
    (offered-pairs c.args.repo.now c.args.span.start c.args.span.end c.args.number c.args.atom.now c.matched-offers.result.now
    c.args.pairs.now.items c.add_offered.new.pairs.items c.matched-offers.ensures) c.add_offered.ensures

pub returns : goal.returns
returns c =
    let P = Matches c.args.repo.now.architecture c.args.atom.now in
    let providers = c.providers-providers.result.now in
    let are = subst (λ (name : List ℕ). AreProviders c.args.repo.now name providers) c.bytes.ensures.value c.providers-providers.ensures in
    pairs-all c.args.repo.now c.args.span.start c.args.span.end c.args.number c.args.atom.now providers c.loop-place.place
    c.args.pairs.now.items c.loop-place.pairs.items
    (λ i pair past short. elim c.if-number-span.branch [
      | then-number-span w ↦ let to = w.to-is in absurd (omega (arith, to, c.loop-place-test.false))
      | else-number-span w ↦
          let to = w.to-is in
          pair-behind c.args.repo.now c.args.span.start c.args.span.end c.args.number (get_or providers i 0) P pair w.if-number-span.false
          (w.place_from-to.ensures.from i (omega (arith, to, c.loop-place-test.false)) short)
    ])
    are c.loop-place.invariant
