use Rattle.std.proofs.Common.{refl}
use Rattle.std.proofs.lemmas.Bool.{false≢true}
use Rattle.dist_base.specs.ListLaws.{element-is, has-at}
use Rattle.dist_repo.specs.Match.{Matches}
use Rattle.dist_repo.specs.PackageList.{IsPackageAnd}
use Rattle.dist_now.proofs.AddsLemmas.{adds-more, adds-nothing}
use Rattle.dist_now.proofs.MemberLemmas.{matched-provides}
use Rattle.dist_now.proofs.NumberLemmas.{IsAtAnd, adds-all, adds-here, adds-never, provider-at}
use Rattle.dist_now.proofs.numbers.add_provided.Goals.{then-matches_provider+in_ok-push, else-matches_provider}
use Rattle.dist_now.proofs.numbers.add_provided.Goals as goal

pub returns-then-not-usable : goal.returns-then-not-usable
returns-then-not-usable c =
    adds-nothing c.args.numbers.now.items (λ k. IsPackageAnd c.args.repo.now.packages k (Matches c.args.repo.now.architecture c.args.atom.now))
    (λ k here. false≢true (c.if-not-usable.ensures.1
    (has-at (Matches c.args.repo.now.architecture c.args.atom.now) c.args.repo.now.packages k _ (element-is _ c.args.repo.now.packages k here) here).usable))

pub matches_provider-requires-clause-provider : goal.matches_provider-requires-clause-provider
matches_provider-requires-clause-provider c = provider-at c.args.repo.now c.args.atom.now.name c.args.providers.now c.loop-number.number-index
    c.requires c.loop-number-test.true

pub loop-number-preserved : goal.loop-number-preserved
loop-number-preserved c =
    let P = Matches c.args.repo.now.architecture c.args.atom.now in
    let Of = IsAtAnd c.args.repo.now c.args.providers.now P in
    elim c.if-matches_provider.branch [
      | then-matches_provider+in_ok-push w ↦
          rw (w.numbers-is, w.in_ok-push.ensures.items)
          (adds-more c.args.numbers.now.items c.loop-number.numbers.items _ Of c.loop-number.number-index c.loop-number.invariant
          (adds-here c.args.repo.now c.args.providers.now P c.loop-number.number-index c.loop-number.numbers.items
          (w.if-matches_provider.ensures.0 refl)))
      | else-matches_provider w ↦
          rw w.numbers-is
          (adds-more c.args.numbers.now.items c.loop-number.numbers.items c.loop-number.numbers.items Of c.loop-number.number-index c.loop-number.invariant
          (adds-never c.args.repo.now c.args.providers.now P c.loop-number.number-index c.loop-number.numbers.items
          (λ matches. false≢true (w.if-matches_provider.ensures.1 matches))))
    ]

pub returns : goal.returns
returns c =
    adds-all c.args.repo.now c.args.atom.now.name c.args.providers.now (Matches c.args.repo.now.architecture c.args.atom.now) c.loop-number.number-index
    c.args.numbers.now.items c.loop-number.numbers.items
    c.loop-number-test.false c.requires (matched-provides c.args.repo.now.architecture c.args.atom.now) c.loop-number.invariant
