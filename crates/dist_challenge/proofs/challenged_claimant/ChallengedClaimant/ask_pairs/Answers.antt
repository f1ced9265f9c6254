use Rattle.std.proofs.Common.{◌∙◌, ◌+◌, inl, inr, refl, ℕ, [], ◌∷◌, Result, IfErr, ap, arith, length, length-append, subst, sym}
use Rattle.std.proofs.lemmas.Bool.{true≢false}
use Rattle.dist_outside.specs.DeskView.{DeskView}
use Rattle.dist_outside.specs.Files.{IsWriting}
use Rattle.dist_outside.specs.declared.trouble.WorkError.{WorkError}
use Rattle.dist_line_write.specs.ScriptLaws.{by-exit, two-grow}
use Rattle.dist_challenge.specs.GroupPrivate.{FitsGroup, SettleMore, SettleStops}
use Rattle.dist_covering.specs.Group.{GroupView}
use Rattle.dist_challenge.proofs.SettleSteps.{settle-join, settle-none, settle-stops}
use Rattle.dist_challenge.proofs.challenged_claimant.ChallengedClaimant.ask_pairs.Goals as goal
use Rattle.dist_challenge.proofs.challenged_claimant.ChallengedClaimant.ask_pairs.Goals.{else-until_found-via-then-until_found+else-count-before}
use Rattle.dist_challenge.proofs.challenged_claimant.ChallengedClaimant.ask_pairs.Goals.{else-until_found-via-else-until_found}

pub pairs-init : goal.pairs-init
pairs-init g c =
    let old : DeskView = g.D.Desk.view c.args.desk.now in
    record {
      writing = c.requires.writing;
      fits = c.requires.fits;
      claimed = refl;
      space = refl;
      latest = λ is. refl;
      more = settle-none old c.args.asker.now c.args.window.now c.args.self.now.covering c.args.group.now (c.file_grows.ensures.begin old);
      grows = ([], c.file_grows.ensures.begin old);
    }

pub ask_pair-requires-clause-fits : goal.ask_pair-requires-clause-fits
ask_pair-requires-clause-fits g c =
    subst (λ (x : GroupView). FitsGroup c.pairs.asker c.pairs.window c.pairs.self.covering x) c.in-Some.ensures.some c.pairs.invariant.fits

pub pairs-smaller : goal.pairs-smaller
pairs-smaller g c =
    let before = ap (λ (x : GroupView). length x.left) c.in-Some.ensures.some in
    omega (arith, before, length-append c.next.new.self.left (c.in-Some.at ∷ []), c.in_ok-ask_pair.ensures.fewer)

pub pairs-preserved : goal.pairs-preserved
pairs-preserved g c =
    let first : DeskView = g.D.Desk.view c.args.desk.now in
    let mid : DeskView = g.D.Desk.view c.pairs.desk in
    let last : DeskView = g.D.Desk.view c.ask_pair.new.desk in
    record {
      latest = λ is. elim c.in_ok-ask_pair.ensures.latest [
        | inl same ↦ same ∙ c.pairs.invariant.latest is
        | inr more ↦ elim c.else-until_found.branch [
          | else-until_found-via-then-until_found+else-count-before w ↦ absurd (let count = more.0 in let old = c.pairs.invariant.latest is in omega
              (arith, w.if-count-before.false, w.count.ensures, c.count-before.ensures, count, old))
          | else-until_found-via-else-until_found w ↦ absurd (true≢false (sym is ∙ w.if-until_found.false))
        ]
      ];
      writing = subst IsWriting (sym c.ask_pair.ensures.grows.1.mode_stays) c.pairs.invariant.writing;
      fits = c.in_ok-ask_pair.ensures.fits;
      claimed = c.in_ok-ask_pair.ensures.claimed ∙ sym (ap (λ (x : GroupView). x.claimed) c.in-Some.ensures.some) ∙ c.pairs.invariant.claimed;
      space = c.ask_pair.ensures.space ∙ c.pairs.invariant.space;
      more = settle-join first mid last c.args.asker.now c.pairs.asker c.ask_pair.new.asker c.args.window.now c.pairs.window c.ask_pair.new.window
          c.args.self.now.covering c.pairs.self.covering c.ask_pair.new.self.covering c.args.group.now c.pairs.group c.ask_pair.new.group
          c.file_grows.ensures.twice
          c.pairs.invariant.more
          (subst (λ (x : GroupView). SettleMore mid last c.pairs.asker c.ask_pair.new.asker c.pairs.window c.ask_pair.new.window c.pairs.self.covering
          c.ask_pair.new.self.covering x c.ask_pair.new.group) (sym c.in-Some.ensures.some) c.in_ok-ask_pair.ensures.ok);
      grows = two-grow c.file_grows.ensures.twice c.pairs.invariant.grows.0 c.ask_pair.ensures.grows.0 first mid last c.pairs.invariant.grows.1
          c.ask_pair.ensures.grows.1;
    }

pub returns-in_err-ask_pair-clause-err : goal.returns-in_err-ask_pair-clause-err
returns-in_err-ask_pair-clause-err g c =
    let first : DeskView = g.D.Desk.view c.args.desk.now in
    let mid : DeskView = g.D.Desk.view c.pairs.desk in
    let last : DeskView = g.D.Desk.view c.ask_pair.new.desk in
    by-exit (λ (r : Result (Unit {0}) WorkError). IfErr r (SettleStops first last c.args.asker.now c.args.window.now c.args.self.now.covering c.args.group.now))
    c.from_residual.result c.in_err-ask_pair.field-0.0 c.from_residual.ensures.1
    (settle-stops first mid last c.args.asker.now c.pairs.asker c.args.window.now c.pairs.window c.args.self.now.covering c.pairs.self.covering c.args.group.now
    c.pairs.group c.in_err-ask_pair.field-0.0 c.file_grows.ensures.twice c.pairs.invariant.more
    (subst (λ (x : GroupView). SettleStops mid last c.pairs.asker c.pairs.window c.pairs.self.covering x c.in_err-ask_pair.field-0.0) (sym
    c.in-Some.ensures.some)
    c.in_err-ask_pair.ensures.err))

pub returns-in_err-ask_pair-clause-grows : goal.returns-in_err-ask_pair-clause-grows
returns-in_err-ask_pair-clause-grows g c =
    two-grow c.file_grows.ensures.twice c.pairs.invariant.grows.0 c.ask_pair.ensures.grows.0 (g.D.Desk.view c.args.desk.now) (g.D.Desk.view c.pairs.desk)
    (g.D.Desk.view c.ask_pair.new.desk) c.pairs.invariant.grows.1 c.ask_pair.ensures.grows.1

pub returns-then-count-before-clause-ok : goal.returns-then-count-before-clause-ok
returns-then-count-before-clause-ok g c =
    let first : DeskView = g.D.Desk.view c.args.desk.now in
    let mid : DeskView = g.D.Desk.view c.pairs.desk in
    let last : DeskView = g.D.Desk.view c.ask_pair.new.desk in
    settle-join first mid last c.args.asker.now c.pairs.asker c.ask_pair.new.asker c.args.window.now c.pairs.window c.ask_pair.new.window
    c.args.self.now.covering c.pairs.self.covering c.ask_pair.new.self.covering c.args.group.now c.pairs.group c.ask_pair.new.group c.file_grows.ensures.twice
    c.pairs.invariant.more
    (subst (λ (x : GroupView). SettleMore mid last c.pairs.asker c.ask_pair.new.asker c.pairs.window c.ask_pair.new.window c.pairs.self.covering
    c.ask_pair.new.self.covering x c.ask_pair.new.group) (sym c.in-Some.ensures.some) c.in_ok-ask_pair.ensures.ok)

pub returns-then-count-before-clause-latest : goal.returns-then-count-before-clause-latest
returns-then-count-before-clause-latest g c is = elim c.in_ok-ask_pair.ensures.latest [
  | inl same ↦ inl (same ∙ c.pairs.invariant.latest is)
  | inr more ↦ inr (more.0 ∙ ap (λ (n : ℕ). n + 1) (c.pairs.invariant.latest is), more.1)
]

pub returns-then-count-before-clause-grows : goal.returns-then-count-before-clause-grows
returns-then-count-before-clause-grows g c =
    two-grow c.file_grows.ensures.twice c.pairs.invariant.grows.0 c.ask_pair.ensures.grows.0 (g.D.Desk.view c.args.desk.now) (g.D.Desk.view c.pairs.desk)
    (g.D.Desk.view c.ask_pair.new.desk) c.pairs.invariant.grows.1 c.ask_pair.ensures.grows.1

pub returns-in_default-clause-latest : goal.returns-in_default-clause-latest
returns-in_default-clause-latest g c is = inl (c.pairs.invariant.latest is)
