use Rattle.std.proofs.Common.{ap, length, refl, ◌∙◌}
use Rattle.std.proofs.lemmas.Option.{slice_get_read}
use Rattle.dist_repo.specs.declared.package.Package.{Package}
use Rattle.dist_repo.proofs.OwnLemmas.{counted-more, counted-none, own-more, own-none}
use Rattle.dist_repo.proofs.own.Own.fill.Goals as goal

pub loop-number-init : goal.loop-number-init
loop-number-init c = (rw c.requires.numbers counted-none, rw c.requires.offers (own-none c.args.packages.now))

pub loop-number-preserved : goal.loop-number-preserved
loop-number-preserved c =
    let p : Package = c.index-packages-number.result in
    let is = slice_get_read c.args.packages.now _ c.loop-number.number p refl c.loop-number-test.true c.index-packages-number.is in (
      rw c.in_ok-push.ensures.items (counted-more c.loop-number.number c.loop-number.self.numbers.items c.loop-number.invariant.0),
      rw c.in_ok-push-2.ensures.items
          (own-more c.args.packages.now c.loop-number.number c.loop-number.self.offers.items p _ c.loop-number.invariant.1 is refl
          (c.len-place.ensures ∙ ap (λ (x : Package). length x.provides) c.package.ensures)),
    )
