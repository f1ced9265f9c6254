use Rattle.std.proofs.Common.{◌-◌, [], ◌∷◌, ◌++◌, take, ap, ◌∙◌, arith}
use Rattle.std.proofs.lemmas.List.Elements.{Contains-get_or}
use Rattle.std.proofs.lemmas.Result.{on_ok_weaker}
use Rattle.dist_clause.specs.ClauseList.{clause_at}
use Rattle.dist_derive.specs.ClauseLog.{inputs_of}
use Rattle.dist_search.specs.AnalysisPrivate.{WalkState}
use Rattle.dist_search.proofs.LearnLemmas.{walked_first, point_first}
use Rattle.dist_search.proofs.analysis.Walk.begin.Goals as goal

pub returns-clause-walked : goal.returns-clause-walked
returns-clause-walked c =
    let log = c.args.log.now in
    let cleared = c.clear.new.self in
    let conflict = c.args.conflict in
    on_ok_weaker c.resolve.result
    (λ m. walked_first log (take c.args.bounds.assumed c.args.trail.now.literals) c.args.trail.now conflict c.args.bounds.current
    (record cleared { hints = cleared.hints ++ conflict ∷ [] }) c.resolve.new.self
    (ap (λ (w : WalkState). w.members) c.clear.ensures) (ap (λ (w : WalkState). w.clause) c.clear.ensures)
    (ap (λ (w : WalkState). w.hints ++ conflict ∷ []) c.clear.ensures) (ap (λ (w : WalkState). w.lowest) c.clear.ensures)
    (ap (λ (w : WalkState). w.variables) c.clear.ensures ∙ c.requires.same_variables) m c.keeps_invariant.ensures.ordered.over.distinct
    c.requires.number c.requires.is_false
    (λ s. c.what_is_safe.ensures.each (inputs_of log) log.clauses (clause_at log.clauses conflict) s
    (Contains-get_or log.clauses (conflict - 1) [] (omega (arith, c.requires.number.0, c.requires.number.1)))))
    c.resolve.ensures.met

pub returns-clause-point : goal.returns-clause-point
returns-clause-point c =
    let cleared = c.clear.new.self in
    let conflict = c.args.conflict in
    on_ok_weaker c.resolve.result
    (λ m. point_first c.args.trail.now.literals (clause_at c.args.log.now.clauses conflict) c.args.bounds.current
    (record cleared { hints = cleared.hints ++ conflict ∷ [] }) c.resolve.new.self (ap (λ (w : WalkState). w.clause) c.clear.ensures) m
    c.requires.is_false)
    c.resolve.ensures.met
