use Rattle.std.proofs.Common.{◌≤◌, ◌∙◌, ℕ, List, Option, ap, arith, length, subst, sym}
use Rattle.std.proofs.lemmas.Result.{IfOk-weaker}
use Rattle.dist_space.specs.Space.{SpaceView}
use Rattle.dist_cert.specs.declared.records.Claim.{Claim}
use Rattle.dist_journal.specs.BreakingPrivate.{AreNoted, IsNoted}
use Rattle.dist_journal.specs.Broken.{AreBroken}
use Rattle.dist_journal.specs.PairsPrivate.{Adds, IsListOf}
use Rattle.dist_journal.proofs.BreakingLemmas.{noted-broken, noted-more, noted-none}
use Rattle.dist_journal.proofs.breaking.broken.Goals as goal

pub loop-number-init : goal.loop-number-init
loop-number-init c =
    subst (λ (keys : List (ℕ × ℕ)). AreNoted c.args.archive.now c.in_ok-moved.moved.items c.args.claims.now 0 keys) (sym c.new-found.ensures.empty)
    (noted-none c.args.archive.now c.in_ok-moved.moved.items c.args.claims.now)

pub loop-number-preserved : goal.loop-number-preserved
loop-number-preserved c =
    let v = c.args.archive.now in
    let claim : Claim = c.get.result.now in
    let old = c.loop-number.found.keys in
    let new = c.note_claim.new.found.keys in
    let adds = subst (λ (moved : List (Option ℕ)). Adds old new (IsNoted v moved c.loop-number.number claim)) c.deref.ensures.value
    c.in_ok-note_claim.ensures in
    noted-more v c.in_ok-moved.moved.items c.args.claims.now c.loop-number.number claim old new c.get.ensures c.loop-number.invariant adds

pub returns : goal.returns
returns c =
    let v = c.args.archive.now in
    let made = c.args.claims.now in
    let keys = c.loop-number.found.keys in
    let many = c.package_count-number-end.ensures ∙ ap (λ (x : SpaceView). length x.repository.packages) c.space.ensures in
    let past : length made ≤ c.loop-number.number = let e = c.requires in let f = c.loop-number-test.false in omega (arith, e, f, many) in
    IfOk-weaker c.listed.result (IsListOf keys) (AreBroken v.space v.packages made) (λ list is. record {
      rising = is.0;
      exact = λ b.
          let all = noted-broken v c.in_ok-moved.moved.items made c.loop-number.number keys b past c.in_ok-moved.ensures c.loop-number.invariant in
          ((λ there. all.0 ((is.1 b).0 there)), λ broken. (is.1 b).1 (all.1 broken));
    }) c.listed.ensures
