use Rattle.std.proofs.Common.{All, subst, sym, ◌∙◌}
use Rattle.dist_clause.specs.ClauseList.{clause_at}
use Rattle.dist_search.specs.AnalysisPrivate.{HasValue}
use Rattle.dist_search.proofs.KeptLemmas.{keep_unreasoned, keep_chosen, is_given, valued}
use Rattle.dist_search.proofs.analysis.Walk.is_kept.Goals as goal

pub returns-then-reason-eq0-clause-kept : goal.returns-then-reason-eq0-clause-kept
returns-then-reason-eq0-clause-kept c = λ _.
    keep_unreasoned c.args.log.now.clauses c.args.trail.now c.args.bounds.assumed c.args.bounds.first c.args.bounds.current c.args.place c.args.self.now.lowest
    c.requires.bounds c.requires.trail c.requires.within c.keeps_invariant.ensures.ordered.rising (sym c.reason-reason.ensures ∙ c.if-reason-eq0.true)

pub is_chosen-requires-clause-valued : goal.is_chosen-requires-clause-valued
is_chosen-requires-clause-valued c =
    let clauses = c.args.log.now.clauses in
    let trail = c.args.trail.now in
    let given = is_given clauses trail c.args.bounds.assumed c.args.bounds.first c.args.bounds.current c.args.place c.args.self.now.lowest
    c.requires.bounds c.requires.trail c.requires.within (λ e. c.if-reason-eq0.false (c.reason-reason.ensures ∙ e)) in
    subst (λ n. All (HasValue trail.literals) (clause_at clauses n)) (sym c.reason-reason.ensures)
    (valued clauses trail c.args.place c.requires.within given)

pub returns-clause-kept : goal.returns-clause-kept
returns-clause-kept c = λ h.
    keep_chosen c.args.log.now.clauses c.args.trail.now c.args.bounds.assumed c.args.bounds.first c.args.bounds.current c.args.place c.args.self.now.lowest
    c.requires.bounds c.requires.trail c.requires.within (c.is_chosen.ensures.kept h)
