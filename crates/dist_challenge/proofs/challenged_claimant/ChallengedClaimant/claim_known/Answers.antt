use Rattle.std.proofs.Common.{◌≡◌, ℕ, Option, Some, Result, IfErr, IfSome, arith, inl, refl, subst}
use Rattle.std.proofs.lemmas.Result.{IfErr-weaker, IfOk-weaker}
use Rattle.dist_outside.specs.DeskView.{DeskView}
use Rattle.dist_outside.specs.declared.trouble.WorkError.{WorkError}
use Rattle.dist_outside.specs.declared.trouble.WorkError.TheVariants.{NoMemory}
use Rattle.dist_cert.specs.declared.records.Claim.{Claim}
use Rattle.dist_line_write.specs.Asking.{AskerView}
use Rattle.dist_line_write.specs.ScriptLaws.{by-exit}
use Rattle.dist_sweep.specs.Claiming.{ClaimMore, ClaimStops}
use Rattle.dist_sweep.specs.Window.{WindowView}
use Rattle.dist_covering.specs.Planning.{IsTakenUp}
use Rattle.dist_covering.specs.Group.{group_of, GroupView}
use Rattle.dist_covering.specs.Covering.{CoveringView}
use Rattle.dist_challenge.specs.ChallengedPrivate.{KeepsChallenged}
use Rattle.dist_challenge.specs.GroupPrivate.{ChallengeMore, ChallengeStops}
use Rattle.dist_sweep.specs.AskedLaws.{memory-stops}
use Rattle.dist_challenge.proofs.ChallengedSteps.{begun-claimed, begun-stops}
use Rattle.dist_challenge.proofs.ChallengedSteps.{fresh-fits, may-stand, MayChallenge, present-upto, StartsBy, taken-claimed, taken-fits, taken-stops}
use Rattle.dist_challenge.proofs.challenged_claimant.ChallengedClaimant.claim_known.Goals as goal

-- the group that is known
known-one : (c : CoveringView) (w : WindowView) (was : GroupView) (today : ℕ) (known : Option GroupView) (group_is : GroupView) → known ≡ Some group_is
    → IfSome known (λ h. IsTakenUp c w was h today today) → IsTakenUp c w was group_is today today
known-one c w was today known group_is is holds = subst (λ (o : Option GroupView). IfSome o (λ h. IsTakenUp c w was h today today)) is holds

known-starts : (w : WindowView) (today : ℕ) → StartsBy w w.count today today
known-starts w today = (inl refl, λ n low high. absurd (omega (arith, low, high)))

pub known_group-requires-clause-upto : goal.known_group-requires-clause-upto
known_group-requires-clause-upto g c =
    present-upto c.args.asker.now c.args.window.now c.args.self.now.covering (group_of c.args.package c.args.present) c.keeps_invariant.ensures.space
    (fresh-fits c.args.asker.now c.args.window.now c.args.self.now.covering c.args.package c.args.present c.requires.suits c.requires.fits c.requires.present)

pub returns-in_err-group-clause-err : goal.returns-in_err-group-clause-err
returns-in_err-group-clause-err g c =
    let old : DeskView = g.D.Desk.view c.args.desk.now in
    let a : AskerView = c.args.asker.now in
    let w : WindowView = c.args.window.now in
    let self : CoveringView = c.args.self.now.covering in
    by-exit (λ (r : Result Claim WorkError). IfErr r (ClaimStops KeepsChallenged c.args.package old old a w self)) c.from_residual.result NoMemory
    c.from_residual.ensures.1
    (λ s before may keeps. memory-stops (MayChallenge a w self c.args.package) old a c.file_grows.ensures.begin (may-stand a w self c.args.package)
    s before (record { may = may; keeps = keeps }))

pub returns-in_err-group-2-clause-err : goal.returns-in_err-group-2-clause-err
returns-in_err-group-2-clause-err g c =
    let old : DeskView = g.D.Desk.view c.args.desk.now in
    let a : AskerView = c.args.asker.now in
    let w : WindowView = c.args.window.now in
    let self : CoveringView = c.args.self.now.covering in
    by-exit (λ (r : Result Claim WorkError). IfErr r (ClaimStops KeepsChallenged c.args.package old old a w self)) c.from_residual-in_err-group-2.result
    NoMemory
    c.from_residual-in_err-group-2.ensures.1
    (λ s before may keeps. memory-stops (MayChallenge a w self c.args.package) old a c.file_grows.ensures.begin (may-stand a w self c.args.package)
    s before (record { may = may; keeps = keeps }))

pub claim_group-requires-clause-fits : goal.claim_group-requires-clause-fits
claim_group-requires-clause-fits g c =
    let old : DeskView = g.D.Desk.view c.args.desk.now in
    let a : AskerView = c.args.asker.now in
    let w : WindowView = c.args.window.now in
    let self : CoveringView = c.args.self.now.covering in
    let p : ℕ = c.args.package in
    let was : GroupView = group_of p c.args.present in
    let fits = fresh-fits a w self p c.args.present c.requires.suits c.requires.fits c.requires.present in
    let space = c.keeps_invariant.ensures.space in
    let taken : IsTakenUp self w was c.in-Some.group c.args.today c.args.today =
    known-one self w was c.args.today c.in_ok-group.field-0 c.in-Some.group c.in-Some.is c.in_ok-group.ensures in
    let low = c.requires.today.kept.low in
    let high = c.requires.today.kept.high in
    let within = c.keeps_invariant-2.ensures.within in
    taken-fits c.pairs_are_of_the_space.ensures.covered a w self was c.in-Some.group w.count c.args.today c.args.today space fits c.requires.today
    c.requires.today.kept (known-starts w c.args.today) taken (omega (arith, low, high, within)) (omega (arith, low, within))

pub returns-in-Some-clause-ok : goal.returns-in-Some-clause-ok
returns-in-Some-clause-ok g c =
    let old : DeskView = g.D.Desk.view c.args.desk.now in
    let a : AskerView = c.args.asker.now in
    let w : WindowView = c.args.window.now in
    let self : CoveringView = c.args.self.now.covering in
    let p : ℕ = c.args.package in
    let was : GroupView = group_of p c.args.present in
    let fits = fresh-fits a w self p c.args.present c.requires.suits c.requires.fits c.requires.present in
    let space = c.keeps_invariant.ensures.space in
    let taken : IsTakenUp self w was c.in-Some.group c.args.today c.args.today =
    known-one self w was c.args.today c.in_ok-group.field-0 c.in-Some.group c.in-Some.is c.in_ok-group.ensures in
    let new : DeskView = g.D.Desk.view c.claim_group.new.desk in
    IfOk-weaker c.claim_group.result
    (ChallengeMore old new a c.claim_group.new.asker w c.claim_group.new.window self c.claim_group.new.self.covering c.in-Some.group)
    (ClaimMore KeepsChallenged p old new a c.claim_group.new.asker w c.claim_group.new.window self c.claim_group.new.self.covering)
    (λ claim more. begun-claimed old new a c.claim_group.new.asker w c.claim_group.new.window self c.claim_group.new.self.covering p c.args.present claim
    c.requires.fits.upto c.requires.present
    (taken-claimed c.pairs_are_of_the_space.ensures.covered a w self was c.in-Some.group w.count c.args.today c.args.today space fits c.requires.today
    c.requires.today.kept (known-starts w c.args.today) taken old new c.claim_group.new.asker c.claim_group.new.window c.claim_group.new.self.covering claim
    more))
    c.claim_group.ensures.ok

pub returns-in-Some-clause-err : goal.returns-in-Some-clause-err
returns-in-Some-clause-err g c =
    let old : DeskView = g.D.Desk.view c.args.desk.now in
    let a : AskerView = c.args.asker.now in
    let w : WindowView = c.args.window.now in
    let self : CoveringView = c.args.self.now.covering in
    let p : ℕ = c.args.package in
    let was : GroupView = group_of p c.args.present in
    let fits = fresh-fits a w self p c.args.present c.requires.suits c.requires.fits c.requires.present in
    let space = c.keeps_invariant.ensures.space in
    let taken : IsTakenUp self w was c.in-Some.group c.args.today c.args.today =
    known-one self w was c.args.today c.in_ok-group.field-0 c.in-Some.group c.in-Some.is c.in_ok-group.ensures in
    let new : DeskView = g.D.Desk.view c.claim_group.new.desk in
    IfErr-weaker c.claim_group.result (ChallengeStops old new a w self c.in-Some.group) (ClaimStops KeepsChallenged p old new a w self)
    (λ error stops. begun-stops old new a w self p c.args.present error c.requires.fits.upto c.requires.present
    (taken-stops c.pairs_are_of_the_space.ensures.covered a w self was c.in-Some.group w.count c.args.today c.args.today space fits c.requires.today
    c.requires.today.kept (known-starts w c.args.today) taken old new error stops)) c.claim_group.ensures.err
