use Rattle.std.proofs.Common.{[], ◌∷◌, take, subst, sym}
use Rattle.std.proofs.lemmas.List.{take_all}
use Rattle.dist_search.proofs.GuardLiterals.{take_item}
use Rattle.dist_search.proofs.ContainmentLemmas.{All-item}
use Rattle.dist_search.specs.AnalysisPrivate.{HasValue, Meets}
use Rattle.dist_search.proofs.MeetLemmas.{meets_none, meets_then}
use Rattle.dist_search.proofs.analysis.Walk.meet_all.Goals as goal

pub loop-literal-init : goal.loop-literal-init
loop-literal-init c = meets_none c.args.trail.now.literals c.args.bounds.current c.args.self.now

pub meet-requires-clause-valued : goal.meet-requires-clause-valued
meet-requires-clause-valued c = All-item (HasValue c.args.trail.now.literals) c.args.clause.now c.loop-literal.literal-index c.literal-item.result
    c.loop-literal-test.true c.literal-item.is c.requires.valued

pub loop-literal-preserved : goal.loop-literal-preserved
loop-literal-preserved c =
    let i = c.loop-literal.literal-index in
    let l = c.literal-item.result in
    let clause = c.args.clause.now in
    subst (λ xs. Meets c.args.trail.now.literals c.args.bounds.current xs c.args.self.now c.meet.new.self)
    (sym (take_item clause i l l c.loop-literal-test.true c.literal-item.is))
    (meets_then c.args.trail.now.literals c.args.bounds.current (take i clause) (l ∷ []) c.args.self.now c.loop-literal.self c.meet.new.self
    c.loop-literal.invariant c.meet.ensures)

pub returns : goal.returns
returns c = subst (λ xs. Meets c.args.trail.now.literals c.args.bounds.current xs c.args.self.now c.loop-literal.self)
    (take_all c.loop-literal.literal-index c.args.clause.now c.loop-literal-test.false) c.loop-literal.invariant
