use Rattle.std.proofs.Common.{◌∙◌, Result, IfErr, ap, map, subst}
use Rattle.dist_outside.specs.DeskView.{DeskView}
use Rattle.dist_outside.specs.declared.trouble.WorkError.{WorkError}
use Rattle.dist_outside.specs.declared.trouble.WorkError.TheVariants.{NoMemory}
use Rattle.dist_cert.specs.declared.records.CertRecord.{CertRecord}
use Rattle.dist_cert.specs.declared.records.Claim.{Claim}
use Rattle.dist_space.specs.Space.{SpaceView}
use Rattle.dist_line_write.specs.Asking.{AskerView}
use Rattle.dist_line_write.specs.ScriptLaws.{by-exit}
use Rattle.dist_sweep.specs.Window.{WindowView}
use Rattle.dist_covering.specs.Covering.{CoveringView}
use Rattle.dist_challenge.specs.GroupPrivate.{ChallengeStops, challenged_line}
use Rattle.dist_covering.specs.Used.{pair_at}
use Rattle.dist_challenge.specs.GroupPrivate.{AreSmallPairs}
use Rattle.dist_sweep.specs.AskedLaws.{memory-stops, put-claim, put-stops}
use Rattle.dist_challenge.proofs.ChallengedSteps.{challenged-puts, KeptBy, line-kind, Whole}
use Rattle.dist_challenge.proofs.challenged_claimant.ChallengedClaimant.put_challenged.Goals as goal

pub returns-in_err-step-clause-err : goal.returns-in_err-step-clause-err
returns-in_err-step-clause-err g c =
    let old : DeskView = g.D.Desk.view c.args.desk.now in
    by-exit (λ (r : Result Claim WorkError). IfErr r (ChallengeStops old old c.args.asker.now c.args.window.now c.args.self.now.covering c.args.group.now))
    c.from_residual.result NoMemory c.from_residual.ensures.1
    (λ s before settling rest.
    memory-stops (Whole c.args.asker.now c.args.window.now c.args.self.now.covering c.args.group.now) old c.args.asker.now c.file_grows.ensures.begin
    (λ t lines known. known.0.at) s before (settling, rest))

pub returns-in_err-put-clause-err : goal.returns-in_err-put-clause-err
returns-in_err-put-clause-err g c =
    let old : DeskView = g.D.Desk.view c.args.desk.now in
    let new : DeskView = g.D.Desk.view c.put.new.desk in
    let a : AskerView = c.args.asker.now in
    let w : WindowView = c.args.window.now in
    let self : CoveringView = c.args.self.now.covering in
    let step : CertRecord = c.in_ok-step.step in
    let same = c.space.ensures.value in
    by-exit (λ (r : Result Claim WorkError). IfErr r (ChallengeStops old new a w self c.args.group.now))
    c.from_residual-in_err-put.result c.in_err-put.field-0.0 c.from_residual-in_err-put.ensures.1
    (λ t before settling rest.
    put-stops (Whole a w self c.args.group.now) (KeptBy self) old new a w step c.in_err-put.field-0.0 (λ s lines known. known.0.at)
    (challenged-puts c.pairs_are_of_the_space.ensures.pairs a w self c.args.group.now step c.space.ensures.is_space c.requires.fits c.requires.done
    c.requires.rising
    c.space.ensures.few c.in_ok-step.ensures.small
    (subst (λ (s : SpaceView). AreSmallPairs (map (pair_at s) c.args.group.now.refuted)) same c.in_ok-step.ensures.refuted)
    (subst (λ (s : SpaceView). AreSmallPairs (map (pair_at s) c.args.group.now.undecided)) same c.in_ok-step.ensures.undecided)
    (c.in_ok-step.ensures.line ∙ ap (λ (s : SpaceView). challenged_line s w c.args.group.now) same))
    c.in_err-put.ensures.err t before (settling, rest))

pub returns-clause-ok : goal.returns-clause-ok
returns-clause-ok g c =
    let old : DeskView = g.D.Desk.view c.args.desk.now in
    let new : DeskView = g.D.Desk.view c.put.new.desk in
    let a : AskerView = c.args.asker.now in
    let w : WindowView = c.args.window.now in
    let self : CoveringView = c.args.self.now.covering in
    let step : CertRecord = c.in_ok-step.step in
    let same = c.space.ensures.value in
    let line = c.in_ok-step.ensures.line ∙ ap (λ (s : SpaceView). challenged_line s w c.args.group.now) same in
    λ t before settling rest.
    put-claim (Whole a w self c.args.group.now) (KeptBy self) old new a c.put.new.self w step c.in_ok-step.claim (λ s lines known. known.0.at)
    (challenged-puts c.pairs_are_of_the_space.ensures.pairs a w self c.args.group.now step c.space.ensures.is_space c.requires.fits c.requires.done
    c.requires.rising
    c.space.ensures.few c.in_ok-step.ensures.small
    (subst (λ (s : SpaceView). AreSmallPairs (map (pair_at s) c.args.group.now.refuted)) same c.in_ok-step.ensures.refuted)
    (subst (λ (s : SpaceView). AreSmallPairs (map (pair_at s) c.args.group.now.undecided)) same c.in_ok-step.ensures.undecided) line)
    (line-kind self.space w c.args.group.now step line) c.in_ok-step.ensures.claim c.put.ensures.rest c.in_ok-put.ensures.grew c.in_ok-put.ensures.ok
    t before (settling, rest)
