use Rattle.std.proofs.Common.{◌≡◌, ℕ, ◌↔◌, ◌+◌, [], ◌∷◌, ◌++◌, length, ap, sym, subst, ◌∙◌, arith}
use Rattle.std.specs.List.{Contains}
use Rattle.std.proofs.lemmas.List.{length_push}
use Rattle.dist_derive.specs.ClauseLog.{ClauseLog, inputs_of}
use Rattle.dist_derive.specs.Follows.{EachLineFollows}
use Rattle.dist_derive.specs.Cone.{InCone}
use Rattle.dist_derive.specs.Safe.{AreSafe}
use Rattle.dist_search.specs.Search.{IsEnd}
use Rattle.dist_solver.specs.Ask.{IsRefutation}
use Rattle.dist_solver.specs.LearningPrivate.{IsRefused}
use Rattle.dist_solver.proofs.EvidenceLemmas.{inputs_same, inputs_within, model_of_old, adds_more, at_most, refused}
use Rattle.dist_solver.proofs.RefutationLemmas.{refutation}
use Rattle.dist_solver.proofs.search.find_answer.Goals as goal

pub next-requires-clause-cone : goal.next-requires-clause-cone
next-requires-clause-cone c =
    let same = inputs_same c.args.log.now c.loop.log c.loop.derived c.args.assumptions.now c.loop.counter c.loop.invariant.adds
    c.keeps_invariant.ensures.inputs in
    subst (λ cs. (v : ℕ) → Contains c.args.cone.now.members v ↔ InCone cs c.args.assumptions.now v) (sym same) c.requires.cone

pub returns-in-Model-clause-answer : goal.returns-in-Model-clause-answer
returns-in-Model-clause-answer c =
    let model = subst (λ e. IsEnd c.loop.log c.args.assumptions.now c.args.cone.now.members c.next.new.self e) c.in-Model.is c.in_ok-values.ensures.ends in
    model_of_old c.args.log.now c.loop.log c.loop.derived c.args.assumptions.now c.loop.counter c.loop.invariant.adds c.in-Model.values
    c.keeps_invariant.ensures.inputs model

pub returns-in-Refutation-clause-answer : goal.returns-in-Refutation-clause-answer
returns-in-Refutation-clause-answer c =
    let log = c.loop.log in
    let learned = c.next.new.self.learned in
    let ends = subst (λ e. IsEnd log c.args.assumptions.now c.args.cone.now.members c.next.new.self e) c.in-Refutation.is c.in_ok-values.ensures.ends in
    subst (IsRefutation log c.args.assumptions.now) (sym (c.of.ensures ∙ (c.in_ok-hints-in-Refutation.ensures.items ∙ c.hints.ensures)))
    (refutation log c.args.assumptions.now (λ clause hints value follows model.
    c.lines_keep_models.ensures.what_follows log.inputs log.clauses clause hints value c.loop.invariant.lines_follow follows model) learned ends)

pub returns-in_err-learn-in-Lesson-clause-answer : goal.returns-in_err-learn-in-Lesson-clause-answer
returns-in_err-learn-in-Lesson-clause-answer c =
    let log = c.loop.log in
    let line = (subst (λ e. IsEnd log c.args.assumptions.now c.args.cone.now.members c.next.new.self e) c.in-Lesson.is c.in_ok-values.ensures.ends).0 in
    refused c.args.log.now log c.loop.derived c.args.assumptions.now c.loop.counter c.loop.invariant.adds c.learn.new.log c.next.new.self.learned c.args.limit
    c.in_err-learn-in-Lesson.field-0.0 c.from_residual-in_err-learn-in-Lesson.result line c.loop.invariant.exact c.loop-test.true
    c.in_err-learn-in-Lesson.ensures.0 (subst (λ cl. IsRefused log cl c.in_err-learn-in-Lesson.field-0.0) c.clause.ensures c.in_err-learn-in-Lesson.ensures.2)
    c.from_residual-in_err-learn-in-Lesson.ensures.1

pub returns-in_err-learn-in-Lesson-clause-lines_follow : goal.returns-in_err-learn-in-Lesson-clause-lines_follow
returns-in_err-learn-in-Lesson-clause-lines_follow c =
    subst (λ (l : ClauseLog). EachLineFollows l.inputs l.clauses) (sym c.in_err-learn-in-Lesson.ensures.0) c.loop.invariant.lines_follow

pub returns-in_err-learn-in-Lesson-clause-safe : goal.returns-in_err-learn-in-Lesson-clause-safe
returns-in_err-learn-in-Lesson-clause-safe c =
    subst (λ (l : ClauseLog). AreSafe (inputs_of l) l.clauses) (sym c.in_err-learn-in-Lesson.ensures.0) c.loop.invariant.safe

pub returns-in_err-learned-in-Lesson-clause-adds : goal.returns-in_err-learned-in-Lesson-clause-adds
returns-in_err-learned-in-Lesson-clause-adds c =
    let log = c.loop.log in
    let learned = c.next.new.self.learned in
    let line = (subst (λ e. IsEnd log c.args.assumptions.now c.args.cone.now.members c.next.new.self e) c.in-Lesson.is c.in_ok-values.ensures.ends).0 in
    let log_is = subst (λ cl. c.learn.new.log ≡ record log { clauses = log.clauses ++ cl ∷ [] }) c.clause.ensures c.in_ok-learn-in-Lesson.ensures.0 in
    let derived_is = subst (λ hs. c.learn.new.derived ≡ c.loop.derived ++ record { line = length log.clauses + 1; hints = hs } ∷ [])
    c.hints-in-Lesson.ensures c.in_ok-learn-in-Lesson.ensures.1 in
    let more = adds_more c.args.log.now log c.loop.derived c.args.assumptions.now c.loop.counter c.loop.invariant.adds c.learn.new.log
    c.learn.new.derived learned
    line log_is derived_is in
    at_most c.args.log.now c.learn.new.log c.learn.new.derived c.args.assumptions.now (c.loop.counter + 1) more c.args.limit (omega (arith, c.loop-test.true))

pub returns-in_err-learned-in-Lesson-clause-lines_follow : goal.returns-in_err-learned-in-Lesson-clause-lines_follow
returns-in_err-learned-in-Lesson-clause-lines_follow c =
    let log = c.loop.log in
    let learned = c.next.new.self.learned in
    let line = (subst (λ e. IsEnd log c.args.assumptions.now c.args.cone.now.members c.next.new.self e) c.in-Lesson.is c.in_ok-values.ensures.ends).0 in
    let log_is = subst (λ cl. c.learn.new.log ≡ record log { clauses = log.clauses ++ cl ∷ [] }) c.clause.ensures c.in_ok-learn-in-Lesson.ensures.0 in
    subst (λ (l : ClauseLog). EachLineFollows l.inputs l.clauses) (sym log_is)
    (c.more_clauses_keep_what_follows.ensures.lines log.inputs log.clauses learned.clause learned.hints c.loop.invariant.lines_follow line.follows)

pub returns-in_err-learned-in-Lesson-clause-safe : goal.returns-in_err-learned-in-Lesson-clause-safe
returns-in_err-learned-in-Lesson-clause-safe c =
    let log = c.loop.log in
    let learned = c.next.new.self.learned in
    let line = (subst (λ e. IsEnd log c.args.assumptions.now c.args.cone.now.members c.next.new.self e) c.in-Lesson.is c.in_ok-values.ensures.ends).0 in
    let log_is = subst (λ cl. c.learn.new.log ≡ record log { clauses = log.clauses ++ cl ∷ [] }) c.clause.ensures c.in_ok-learn-in-Lesson.ensures.0 in
    let within = inputs_within c.args.log.now log c.loop.derived c.args.assumptions.now c.loop.counter c.loop.invariant.adds c.keeps_invariant.ensures.inputs in
    subst (λ (l : ClauseLog). AreSafe (inputs_of l) l.clauses) (sym log_is)
    (c.what_is_safe.ensures.line log.clauses log.inputs learned.clause within c.loop.invariant.safe line.safe)

pub loop-preserved : goal.loop-preserved
loop-preserved c =
    let log = c.loop.log in
    let learned = c.next.new.self.learned in
    let line = (subst (λ e. IsEnd log c.args.assumptions.now c.args.cone.now.members c.next.new.self e) c.in-Lesson.is c.in_ok-values.ensures.ends).0 in
    let log_is = subst (λ cl. c.learn.new.log ≡ record log { clauses = log.clauses ++ cl ∷ [] }) c.clause.ensures c.in_ok-learn-in-Lesson.ensures.0 in
    let derived_is = subst (λ hs. c.learn.new.derived ≡ c.loop.derived ++ record { line = length log.clauses + 1; hints = hs } ∷ [])
    c.hints-in-Lesson.ensures c.in_ok-learn-in-Lesson.ensures.1 in
    let within = inputs_within c.args.log.now log c.loop.derived c.args.assumptions.now c.loop.counter c.loop.invariant.adds c.keeps_invariant.ensures.inputs in
    record {
      adds = adds_more c.args.log.now log c.loop.derived c.args.assumptions.now c.loop.counter c.loop.invariant.adds c.learn.new.log
          c.learn.new.derived learned line
          log_is derived_is;
      exact = omega (arith, ap (λ (l : ClauseLog). length l.clauses) log_is, length_push log.clauses learned.clause, c.loop.invariant.exact);
      lines_follow = subst (λ (l : ClauseLog). EachLineFollows l.inputs l.clauses) (sym log_is)
          (c.more_clauses_keep_what_follows.ensures.lines log.inputs log.clauses learned.clause learned.hints c.loop.invariant.lines_follow line.follows);
      safe = subst (λ (l : ClauseLog). AreSafe (inputs_of l) l.clauses) (sym log_is)
          (c.what_is_safe.ensures.line log.clauses log.inputs learned.clause within c.loop.invariant.safe line.safe);
      variables = c.learned.ensures.same_variables ∙ (c.in_ok-values.ensures.same_variables ∙ c.loop.invariant.variables);
      searching = c.in_ok-learned-in-Lesson.ensures.searching;
    }
