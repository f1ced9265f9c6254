use Rattle.std.proofs.Common.{◌-◌, ◌+◌, ◌∙◌, [], take, All, Contains, slice_index, subst, sym, arith}
use Rattle.std.proofs.lemmas.Bool.{false≢true}
use Rattle.std.proofs.lemmas.List.{length-take}
use Rattle.std.proofs.lemmas.List.Elements.{Contains-get_or}
use Rattle.std.proofs.lemmas.Result.{on_ok_weaker}
use Rattle.dist_clause.specs.ClauseList.{clause_at}
use Rattle.dist_derive.specs.ClauseLog.{inputs_of}
use Rattle.dist_derive.specs.Propagation.{IsUnit}
use Rattle.dist_derive.specs.Follows.{IsNumberOf}
use Rattle.dist_search.specs.AnalysisPrivate.{WalkState, HasValue, LeadsToPoint, IsWalked}
use Rattle.dist_search.proofs.WalkLemmas.{walked_past, walked_kept, point_past, point_kept}
use Rattle.dist_search.proofs.ResolveLemmas.{walked_resolved, point_resolved}
use Rattle.dist_search.proofs.KeptLemmas.{valued}
use Rattle.dist_search.proofs.analysis.Walk.take.Goals as goal
use Rattle.dist_search.proofs.analysis.Walk.take.Goals.{Then-not-contains, After-keep, After-reason, After-resolve}

unmet : (c : Then-not-contains) → ¬ Contains c.args.self.now.members c.get-literal.result.variable
unmet c = λ h.
    let before = subst (λ (w : WalkState). Contains w.members c.get-literal.result.variable) (sym c.self.view_is) h in
    let here = subst (λ v. Contains c.self.inside.marked.members v) (sym c.variable.ensures.value) before in
    false≢true (sym c.if-not-contains.true ∙ c.contains.ensures.1 here)

pub returns-then-not-contains-clause-walked : goal.returns-then-not-contains-clause-walked
returns-then-not-contains-clause-walked c =
    walked_past c.args.log.now (take c.args.bounds.assumed c.args.trail.now.literals) c.args.trail.now c.args.bounds.current c.args.place
    c.args.self.now c.get-literal.result c.requires.within (sym c.get-literal.ensures) c.requires.walked (unmet c)

pub returns-then-not-contains-clause-point : goal.returns-then-not-contains-clause-point
returns-then-not-contains-clause-point c =
    point_past c.args.log.now (take c.args.bounds.assumed c.args.trail.now.literals) c.args.trail.now c.args.bounds.current c.args.place
    c.args.self.now c.get-literal.result c.requires.within (sym c.get-literal.ensures) c.requires.walked (unmet c)

met_kept : (c : After-keep) → Contains c.args.self.now.members c.get-literal.result.variable
met_kept c = subst (λ (w : WalkState). Contains w.members c.get-literal.result.variable) c.self.view_is
    (subst (λ v. Contains c.self.inside.marked.members v) c.variable.ensures.value (c.contains.ensures.0 c.if-not-contains.false))

met_resolved : (c : After-resolve) → Contains c.args.self.now.members c.get-literal.result.variable
met_resolved c = subst (λ (w : WalkState). Contains w.members c.get-literal.result.variable) c.self.view_is
    (subst (λ v. Contains c.self.inside.marked.members v) c.variable.ensures.value (c.contains.ensures.0 c.if-not-contains.false))

pub returns-then-is_kept-clause-walked : goal.returns-then-is_kept-clause-walked
returns-then-is_kept-clause-walked c =
    let trues = c.args.trail.now.literals in
    let count = c.args.bounds.assumed in
    let may = c.is_kept.ensures.kept c.if-is_kept.true in
    on_ok_weaker c.keep.result
    (λ e. subst (λ w. IsWalked c.args.log.now (take count trues) c.args.trail.now c.args.bounds.current c.args.place w) (sym e)
    (walked_kept c.args.log.now (take c.args.bounds.assumed c.args.trail.now.literals) c.args.trail.now c.args.bounds.current c.args.place
    c.args.self.now c.get-literal.result c.requires.within (sym c.get-literal.ensures) c.requires.walked c.keeps_invariant.ensures.ordered.over.distinct
    c.requires.trail.assumed (met_kept c) (λ none. omega (arith, length-take count trues, may.assumed none, c.requires.within)) may.last))
    c.keep.ensures.kept

pub returns-then-is_kept-clause-point : goal.returns-then-is_kept-clause-point
returns-then-is_kept-clause-point c =
    let trues = c.args.trail.now.literals in
    let count = c.args.bounds.assumed in
    let may = c.is_kept.ensures.kept c.if-is_kept.true in
    on_ok_weaker c.keep.result
    (λ e. subst (λ w. LeadsToPoint c.args.trail.now.literals c.args.bounds.current (c.args.place + 1) c.args.self.now
    → LeadsToPoint c.args.trail.now.literals c.args.bounds.current c.args.place w) (sym e)
    (point_kept c.args.log.now (take c.args.bounds.assumed c.args.trail.now.literals) c.args.trail.now c.args.bounds.current c.args.place
    c.args.self.now c.get-literal.result c.requires.within (sym c.get-literal.ensures) c.requires.walked c.keeps_invariant.ensures.ordered.over.distinct
    c.requires.trail.assumed (met_kept c) (λ none. omega (arith, length-take count trues, may.assumed none, c.requires.within)) may.last))
    c.keep.ensures.kept

pub resolve-requires-clause-valued : goal.resolve-requires-clause-valued
resolve-requires-clause-valued c =
    let clauses = c.args.log.now.clauses in
    let trail = c.args.trail.now in
    let may = c.is_kept.ensures.resolved c.if-is_kept.false in
    subst (λ n. All (HasValue trail.literals) (clause_at clauses n)) (sym c.reason.ensures) (valued clauses trail c.args.place c.requires.within may.given)

pub returns-clause-walked : goal.returns-clause-walked
returns-clause-walked c =
    let clauses = c.args.log.now.clauses in
    let trues = c.args.trail.now.literals in
    let count = c.args.bounds.assumed in
    let place = c.args.place in
    let t = c.get-literal.result in
    let reason = c.reason.result in
    let may = c.is_kept.ensures.resolved c.if-is_kept.false in
    let number = subst (IsNumberOf clauses) (sym c.reason.ensures) may.given.number in
    let unit = subst (λ n. IsUnit (take place trues) (clause_at clauses n) t) (sym c.reason.ensures)
    (subst (λ l. IsUnit (take place trues) (clause_at clauses (slice_index c.args.trail.now.reasons place)) l) (sym c.get-literal.ensures) may.given.unit) in
    on_ok_weaker c.resolve.result
    (λ m. walked_resolved c.args.log.now (take c.args.bounds.assumed c.args.trail.now.literals) c.args.trail.now c.args.bounds.current c.args.place
    c.args.self.now c.resolve.new.self t reason c.requires.within (sym c.get-literal.ensures) c.requires.walked m
    c.keeps_invariant.ensures.ordered.over.distinct c.requires.trail.assumed number unit (met_resolved c)
    (omega (arith, length-take count trues, may.behind)) may.lower
    (λ rest one other r. c.what_is_safe.ensures.resolvent (inputs_of c.args.log.now) (clause_at clauses reason) c.requires.walked.resolves.resolvent rest t
    one other r)
    (λ s. c.what_is_safe.ensures.each (inputs_of c.args.log.now) clauses (clause_at clauses reason) s
    (Contains-get_or clauses (reason - 1) [] (omega (arith, number.0, number.1)))))
    c.resolve.ensures.met

pub returns-clause-point : goal.returns-clause-point
returns-clause-point c =
    let clauses = c.args.log.now.clauses in
    let trues = c.args.trail.now.literals in
    let count = c.args.bounds.assumed in
    let place = c.args.place in
    let t = c.get-literal.result in
    let reason = c.reason.result in
    let may = c.is_kept.ensures.resolved c.if-is_kept.false in
    let number = subst (IsNumberOf clauses) (sym c.reason.ensures) may.given.number in
    let unit = subst (λ n. IsUnit (take place trues) (clause_at clauses n) t) (sym c.reason.ensures)
    (subst (λ l. IsUnit (take place trues) (clause_at clauses (slice_index c.args.trail.now.reasons place)) l) (sym c.get-literal.ensures) may.given.unit) in
    on_ok_weaker c.resolve.result
    (λ m. point_resolved c.args.log.now (take c.args.bounds.assumed c.args.trail.now.literals) c.args.trail.now c.args.bounds.current c.args.place
    c.args.self.now c.resolve.new.self t reason c.requires.within (sym c.get-literal.ensures) c.requires.walked m
    c.keeps_invariant.ensures.ordered.over.distinct c.requires.trail.assumed number unit (met_resolved c)
    (omega (arith, length-take count trues, may.behind)) may.lower
    (λ rest one other r. c.what_is_safe.ensures.resolvent (inputs_of c.args.log.now) (clause_at clauses reason) c.requires.walked.resolves.resolvent rest t
    one other r)
    (λ s. c.what_is_safe.ensures.each (inputs_of c.args.log.now) clauses (clause_at clauses reason) s
    (Contains-get_or clauses (reason - 1) [] (omega (arith, number.0, number.1)))))
    c.resolve.ensures.met
