use Rattle.std.proofs.Common.{◌+◌, ◌<◌, ◌≤◌, ℕ, Result, IfErr, arith, inl, inr, refl, subst, sym}
use Rattle.std.proofs.lemmas.Result.{IfErr-weaker, IfOk-weaker}
use Rattle.dist_outside.specs.DeskView.{DeskView}
use Rattle.dist_outside.specs.declared.trouble.WorkError.{WorkError}
use Rattle.dist_outside.specs.declared.trouble.WorkError.TheVariants.{NoMemory}
use Rattle.dist_cert.specs.declared.records.Claim.{Claim}
use Rattle.dist_space.specs.Space.{IsSpace}
use Rattle.dist_line_write.specs.Asking.{AskerView}
use Rattle.dist_line_write.specs.ScriptLaws.{by-exit, two-grow}
use Rattle.dist_sweep.specs.Claiming.{ClaimMore, ClaimStops}
use Rattle.dist_sweep.specs.Window.{WindowView}
use Rattle.dist_challenge.specs.BegunPrivate.{BegunMore, BegunStops}
use Rattle.dist_covering.specs.Planning.{IsTakenUp}
use Rattle.dist_covering.specs.Group.{GroupView}
use Rattle.dist_covering.specs.Covering.{CoveringView}
use Rattle.dist_challenge.specs.ChallengedPrivate.{KeepsChallenged}
use Rattle.dist_covering.specs.OpenPairs.{IsKept}
use Rattle.dist_challenge.specs.GroupPrivate.{IsNextCount}
use Rattle.dist_challenge.specs.GroupPrivate.{ChallengeMore, ChallengeStops}
use Rattle.dist_sweep.specs.AskedLaws.{memory-stops}
use Rattle.dist_challenge.proofs.ChallengedSteps.{asked-stops, Begun, begun-stand, first-claimed, first-fits, first-stops}
use Rattle.dist_challenge.proofs.ChallengedSteps.{present-upto, StartsBy, taken-claimed, taken-fits, taken-stops}
use Rattle.dist_challenge.proofs.challenged_claimant.ChallengedClaimant.claim_by_first.Goals as goal

-- one installation came, which is the one to start with
starts-behind : (w v : WindowView) (today : ℕ) → w.count < v.count → IsNextCount w v → StartsBy v w.count today v.count
starts-behind w v today later (inl same) = absurd (omega (arith, later, same))
starts-behind w v today later (inr next) = let one = next.0 in (inr later, λ n low high. omega (arith, low, high, one))

latest-of-next : (w v : WindowView) → w.count < v.count → IsNextCount w v → IsKept v v.count
latest-of-next w v later (inl same) = absurd (omega (arith, later, same))
latest-of-next w v later (inr next) = next.1

next-within : (w v : WindowView) → IsNextCount w v → (w.count ≤ v.count) × (v.count ≤ w.count + 1)
next-within w v (inl same) = (omega (arith, same), omega (arith, same))
next-within w v (inr next) = let one = next.0 in (omega (arith, one), omega (arith, one))

pub ask_pairs-requires-clause-fits : goal.ask_pairs-requires-clause-fits
ask_pairs-requires-clause-fits g c =
    let old : DeskView = g.D.Desk.view c.args.desk.now in
    let a : AskerView = c.args.asker.now in
    let w : WindowView = c.args.window.now in
    let self : CoveringView = c.args.self.now.covering in
    let p : ℕ = c.args.group.now.claimed in
    let present : ℕ = c.args.group.now.present in
    let low = c.requires.today.kept.low in
    let high = c.requires.today.kept.high in
    let within = c.keeps_invariant-2.ensures.within in
    first-fits c.pairs_are_of_the_space.ensures.covered a w self p present c.args.group.now c.args.today c.keeps_invariant.ensures.space c.requires.suits
    c.requires.fits
    c.requires.present c.requires.today c.requires.first (omega (arith, low, high, within)) (omega (arith, low, within))

pub returns-in_err-ask_pairs-clause-err : goal.returns-in_err-ask_pairs-clause-err
returns-in_err-ask_pairs-clause-err g c =
    let old : DeskView = g.D.Desk.view c.args.desk.now in
    let a : AskerView = c.args.asker.now in
    let w : WindowView = c.args.window.now in
    let self : CoveringView = c.args.self.now.covering in
    let p : ℕ = c.args.group.now.claimed in
    let present : ℕ = c.args.group.now.present in
    let mid : DeskView = g.D.Desk.view c.ask_pairs.new.desk in
    by-exit (λ (r : Result Claim WorkError). IfErr r (ClaimStops KeepsChallenged p old mid a w self)) c.from_residual.result c.in_err-ask_pairs.field-0.0
    c.from_residual.ensures.1
    (asked-stops c.pairs_are_of_the_space.ensures.covered a w self p present c.args.group.now c.args.today c.keeps_invariant.ensures.space c.requires.suits
    c.requires.fits
    c.requires.present c.requires.today c.requires.first old mid c.in_err-ask_pairs.field-0.0 c.in_err-ask_pairs.ensures.err)

pub take_up_behind-requires-clause-upto : goal.take_up_behind-requires-clause-upto
take_up_behind-requires-clause-upto g c =
    present-upto c.ask_pairs.new.asker c.ask_pairs.new.window c.ask_pairs.new.self.covering c.ask_pairs.new.group
    (subst IsSpace (sym c.ask_pairs.ensures.space) c.keeps_invariant.ensures.space) c.in_ok-ask_pairs.ensures.fits.begun

pub returns-in_err-taken-clause-err : goal.returns-in_err-taken-clause-err
returns-in_err-taken-clause-err g c =
    let old : DeskView = g.D.Desk.view c.args.desk.now in
    let a : AskerView = c.args.asker.now in
    let w : WindowView = c.args.window.now in
    let self : CoveringView = c.args.self.now.covering in
    let p : ℕ = c.args.group.now.claimed in
    let present : ℕ = c.args.group.now.present in
    let mid : DeskView = g.D.Desk.view c.ask_pairs.new.desk in
    let b : AskerView = c.ask_pairs.new.asker in
    let v : WindowView = c.ask_pairs.new.window in
    let d : CoveringView = c.ask_pairs.new.self.covering in
    let two : GroupView = c.ask_pairs.new.group in
    let space : IsSpace d.space = subst IsSpace (sym c.ask_pairs.ensures.space) c.keeps_invariant.ensures.space in
    let fits = c.in_ok-ask_pairs.ensures.fits.begun in
    by-exit (λ (r : Result Claim WorkError). IfErr r (ClaimStops KeepsChallenged p old mid a w self)) c.from_residual-in_err-taken.result NoMemory
    c.from_residual-in_err-taken.ensures.1
    (first-stops c.pairs_are_of_the_space.ensures.covered a w self p present c.args.group.now c.args.today c.keeps_invariant.ensures.space c.requires.suits
    c.requires.fits
    c.requires.present c.requires.today c.requires.first old mid mid b v d two NoMemory c.file_grows.ensures.twice c.in_ok-ask_pairs.ensures.ok
    (memory-stops (Begun b v d two w.count) mid b c.file_grows.ensures.begin (begun-stand b v d two w.count)))

pub claim_group-requires-clause-fits : goal.claim_group-requires-clause-fits
claim_group-requires-clause-fits g c =
    let old : DeskView = g.D.Desk.view c.args.desk.now in
    let a : AskerView = c.args.asker.now in
    let w : WindowView = c.args.window.now in
    let self : CoveringView = c.args.self.now.covering in
    let p : ℕ = c.args.group.now.claimed in
    let present : ℕ = c.args.group.now.present in
    let mid : DeskView = g.D.Desk.view c.ask_pairs.new.desk in
    let b : AskerView = c.ask_pairs.new.asker in
    let v : WindowView = c.ask_pairs.new.window in
    let d : CoveringView = c.ask_pairs.new.self.covering in
    let two : GroupView = c.ask_pairs.new.group in
    let space : IsSpace d.space = subst IsSpace (sym c.ask_pairs.ensures.space) c.keeps_invariant.ensures.space in
    let fits = c.in_ok-ask_pairs.ensures.fits.begun in
    let now = c.in_ok-taken.ensures.today c.if-taken.true in
    let earlier = subst (λ (n : ℕ). n < v.count) c.count-earlier.ensures (c.in_ok-taken.ensures.found c.if-taken.true) in
    let starts : StartsBy v w.count c.args.today v.count = starts-behind w v c.args.today earlier (c.in_ok-ask_pairs.ensures.latest refl) in
    let kept : IsKept v v.count = latest-of-next w v earlier (c.in_ok-ask_pairs.ensures.latest refl) in
    let taken : IsTakenUp d v two c.take_up_behind.new.group c.args.today v.count = c.in_ok-taken.ensures.taken c.if-taken.true in
    taken-fits c.pairs_are_of_the_space.ensures.covered b v d two c.take_up_behind.new.group w.count c.args.today v.count space fits now kept starts taken
    (omega (arith, earlier)) (let low = c.requires.today.kept.low in let within = c.keeps_invariant-2.ensures.within in omega
    (arith, low, within))

pub returns-then-taken-clause-ok : goal.returns-then-taken-clause-ok
returns-then-taken-clause-ok g c =
    let old : DeskView = g.D.Desk.view c.args.desk.now in
    let a : AskerView = c.args.asker.now in
    let w : WindowView = c.args.window.now in
    let self : CoveringView = c.args.self.now.covering in
    let p : ℕ = c.args.group.now.claimed in
    let present : ℕ = c.args.group.now.present in
    let mid : DeskView = g.D.Desk.view c.ask_pairs.new.desk in
    let b : AskerView = c.ask_pairs.new.asker in
    let v : WindowView = c.ask_pairs.new.window in
    let d : CoveringView = c.ask_pairs.new.self.covering in
    let two : GroupView = c.ask_pairs.new.group in
    let space : IsSpace d.space = subst IsSpace (sym c.ask_pairs.ensures.space) c.keeps_invariant.ensures.space in
    let fits = c.in_ok-ask_pairs.ensures.fits.begun in
    let now = c.in_ok-taken.ensures.today c.if-taken.true in
    let earlier = subst (λ (n : ℕ). n < v.count) c.count-earlier.ensures (c.in_ok-taken.ensures.found c.if-taken.true) in
    let starts : StartsBy v w.count c.args.today v.count = starts-behind w v c.args.today earlier (c.in_ok-ask_pairs.ensures.latest refl) in
    let kept : IsKept v v.count = latest-of-next w v earlier (c.in_ok-ask_pairs.ensures.latest refl) in
    let taken : IsTakenUp d v two c.take_up_behind.new.group c.args.today v.count = c.in_ok-taken.ensures.taken c.if-taken.true in
    let new : DeskView = g.D.Desk.view c.claim_group.new.desk in
    IfOk-weaker c.claim_group.result
    (ChallengeMore mid new b c.claim_group.new.asker v c.claim_group.new.window d c.claim_group.new.self.covering c.take_up_behind.new.group)
    (ClaimMore KeepsChallenged p old new a c.claim_group.new.asker w c.claim_group.new.window self c.claim_group.new.self.covering)
    (λ claim more. first-claimed c.pairs_are_of_the_space.ensures.covered a w self p present c.args.group.now c.args.today c.keeps_invariant.ensures.space
    c.requires.suits c.requires.fits
    c.requires.present c.requires.today c.requires.first old mid new b c.claim_group.new.asker v c.claim_group.new.window d c.claim_group.new.self.covering two
    claim
    c.file_grows.ensures.twice c.in_ok-ask_pairs.ensures.ok
    (taken-claimed c.pairs_are_of_the_space.ensures.covered b v d two c.take_up_behind.new.group w.count c.args.today v.count space fits now kept starts taken
    mid new c.claim_group.new.asker c.claim_group.new.window c.claim_group.new.self.covering claim more)) c.claim_group.ensures.ok

pub returns-then-taken-clause-err : goal.returns-then-taken-clause-err
returns-then-taken-clause-err g c =
    let old : DeskView = g.D.Desk.view c.args.desk.now in
    let a : AskerView = c.args.asker.now in
    let w : WindowView = c.args.window.now in
    let self : CoveringView = c.args.self.now.covering in
    let p : ℕ = c.args.group.now.claimed in
    let present : ℕ = c.args.group.now.present in
    let mid : DeskView = g.D.Desk.view c.ask_pairs.new.desk in
    let b : AskerView = c.ask_pairs.new.asker in
    let v : WindowView = c.ask_pairs.new.window in
    let d : CoveringView = c.ask_pairs.new.self.covering in
    let two : GroupView = c.ask_pairs.new.group in
    let space : IsSpace d.space = subst IsSpace (sym c.ask_pairs.ensures.space) c.keeps_invariant.ensures.space in
    let fits = c.in_ok-ask_pairs.ensures.fits.begun in
    let now = c.in_ok-taken.ensures.today c.if-taken.true in
    let earlier = subst (λ (n : ℕ). n < v.count) c.count-earlier.ensures (c.in_ok-taken.ensures.found c.if-taken.true) in
    let starts : StartsBy v w.count c.args.today v.count = starts-behind w v c.args.today earlier (c.in_ok-ask_pairs.ensures.latest refl) in
    let kept : IsKept v v.count = latest-of-next w v earlier (c.in_ok-ask_pairs.ensures.latest refl) in
    let taken : IsTakenUp d v two c.take_up_behind.new.group c.args.today v.count = c.in_ok-taken.ensures.taken c.if-taken.true in
    let new : DeskView = g.D.Desk.view c.claim_group.new.desk in
    IfErr-weaker c.claim_group.result (ChallengeStops mid new b v d c.take_up_behind.new.group) (ClaimStops KeepsChallenged p old new a w self)
    (λ error stops. first-stops c.pairs_are_of_the_space.ensures.covered a w self p present c.args.group.now c.args.today c.keeps_invariant.ensures.space
    c.requires.suits c.requires.fits
    c.requires.present c.requires.today c.requires.first old mid new b v d two error c.file_grows.ensures.twice c.in_ok-ask_pairs.ensures.ok
    (taken-stops c.pairs_are_of_the_space.ensures.covered b v d two c.take_up_behind.new.group w.count c.args.today v.count space fits now kept starts taken
    mid new error stops)) c.claim_group.ensures.err

pub returns-then-taken-clause-grows : goal.returns-then-taken-clause-grows
returns-then-taken-clause-grows g c =
    two-grow c.file_grows.ensures.twice c.ask_pairs.ensures.grows.0 c.claim_group.ensures.grows.0 (g.D.Desk.view c.args.desk.now)
    (g.D.Desk.view c.ask_pairs.new.desk) (g.D.Desk.view c.claim_group.new.desk) c.ask_pairs.ensures.grows.1 c.claim_group.ensures.grows.1

pub returns-clause-ok : goal.returns-clause-ok
returns-clause-ok g c =
    let old : DeskView = g.D.Desk.view c.args.desk.now in
    let a : AskerView = c.args.asker.now in
    let w : WindowView = c.args.window.now in
    let self : CoveringView = c.args.self.now.covering in
    let p : ℕ = c.args.group.now.claimed in
    let present : ℕ = c.args.group.now.present in
    let mid : DeskView = g.D.Desk.view c.ask_pairs.new.desk in
    let b : AskerView = c.ask_pairs.new.asker in
    let v : WindowView = c.ask_pairs.new.window in
    let d : CoveringView = c.ask_pairs.new.self.covering in
    let two : GroupView = c.ask_pairs.new.group in
    let space : IsSpace d.space = subst IsSpace (sym c.ask_pairs.ensures.space) c.keeps_invariant.ensures.space in
    let fits = c.in_ok-ask_pairs.ensures.fits.begun in
    let new : DeskView = g.D.Desk.view c.claim_by_today.new.desk in
    IfOk-weaker c.claim_by_today.result
    (BegunMore mid new b c.claim_by_today.new.asker v c.claim_by_today.new.window d c.claim_by_today.new.self.covering c.take_up_behind.new.group
    c.count-earlier.result)
    (ClaimMore KeepsChallenged p old new a c.claim_by_today.new.asker w c.claim_by_today.new.window self c.claim_by_today.new.self.covering)
    (λ claim more. first-claimed c.pairs_are_of_the_space.ensures.covered a w self p present c.args.group.now c.args.today c.keeps_invariant.ensures.space
    c.requires.suits c.requires.fits
    c.requires.present c.requires.today c.requires.first old mid new b c.claim_by_today.new.asker v c.claim_by_today.new.window d
    c.claim_by_today.new.self.covering two claim
    c.file_grows.ensures.twice c.in_ok-ask_pairs.ensures.ok
    (subst (λ (x : GroupView). BegunMore mid new b c.claim_by_today.new.asker v c.claim_by_today.new.window d c.claim_by_today.new.self.covering x w.count
    claim)
    (c.in_ok-taken.ensures.left c.if-taken.false)
    (subst (λ (n : ℕ). BegunMore mid new b c.claim_by_today.new.asker v c.claim_by_today.new.window d c.claim_by_today.new.self.covering
    c.take_up_behind.new.group n claim)
    c.count-earlier.ensures more))) c.claim_by_today.ensures.ok

pub returns-clause-err : goal.returns-clause-err
returns-clause-err g c =
    let old : DeskView = g.D.Desk.view c.args.desk.now in
    let a : AskerView = c.args.asker.now in
    let w : WindowView = c.args.window.now in
    let self : CoveringView = c.args.self.now.covering in
    let p : ℕ = c.args.group.now.claimed in
    let present : ℕ = c.args.group.now.present in
    let mid : DeskView = g.D.Desk.view c.ask_pairs.new.desk in
    let b : AskerView = c.ask_pairs.new.asker in
    let v : WindowView = c.ask_pairs.new.window in
    let d : CoveringView = c.ask_pairs.new.self.covering in
    let two : GroupView = c.ask_pairs.new.group in
    let space : IsSpace d.space = subst IsSpace (sym c.ask_pairs.ensures.space) c.keeps_invariant.ensures.space in
    let fits = c.in_ok-ask_pairs.ensures.fits.begun in
    let new : DeskView = g.D.Desk.view c.claim_by_today.new.desk in
    IfErr-weaker c.claim_by_today.result (BegunStops mid new b v d c.take_up_behind.new.group c.count-earlier.result)
    (ClaimStops KeepsChallenged p old new a w self)
    (λ error stops. first-stops c.pairs_are_of_the_space.ensures.covered a w self p present c.args.group.now c.args.today c.keeps_invariant.ensures.space
    c.requires.suits c.requires.fits
    c.requires.present c.requires.today c.requires.first old mid new b v d two error c.file_grows.ensures.twice c.in_ok-ask_pairs.ensures.ok
    (subst (λ (x : GroupView). BegunStops mid new b v d x w.count error) (c.in_ok-taken.ensures.left c.if-taken.false)
    (subst (λ (n : ℕ). BegunStops mid new b v d c.take_up_behind.new.group n error) c.count-earlier.ensures stops))) c.claim_by_today.ensures.err

pub returns-clause-grows : goal.returns-clause-grows
returns-clause-grows g c =
    two-grow c.file_grows.ensures.twice c.ask_pairs.ensures.grows.0 c.claim_by_today.ensures.grows.0 (g.D.Desk.view c.args.desk.now)
    (g.D.Desk.view c.ask_pairs.new.desk) (g.D.Desk.view c.claim_by_today.new.desk) c.ask_pairs.ensures.grows.1 c.claim_by_today.ensures.grows.1
