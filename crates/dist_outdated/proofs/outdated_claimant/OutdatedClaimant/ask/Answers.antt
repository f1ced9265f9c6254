use Rattle.std.proofs.Common.{◌≡◌, ◌∙◌, ◌-◌, ℕ, [], ◌∷◌, List, Result, IfErr, arith, refl, subst, ap}
use Rattle.dist_outside.specs.DeskView.{DeskView}
use Rattle.dist_outside.specs.declared.trouble.WorkError.{WorkError}
use Rattle.dist_outside.specs.declared.trouble.WorkError.TheVariants.{NoMemory}
use Rattle.dist_cert.specs.declared.records.CertRecord.TheVariants.{Alive, Outdated, Unknown}
use Rattle.dist_cert.specs.declared.records.Claim.{Claim}
use Rattle.dist_cert.specs.declared.records.Claim.TheVariants as claims
use Rattle.dist_cert.specs.ClaimRules.{yes}
use Rattle.dist_cert.specs.Form.{Word}
use Rattle.dist_space.specs.Space.{variable_of}
use Rattle.dist_space.specs.declared.meaning.Meaning.TheVariants.{Present}
use Rattle.dist_line_write.specs.Asking.{AskerView}
use Rattle.dist_line_write.specs.ScriptLaws.{by-exit, two-grow}
use Rattle.dist_sweep.specs.Asking.{Holds}
use Rattle.dist_sweep.specs.Claiming.{ClaimStops}
use Rattle.dist_sweep.specs.ClaimLinesLaws.{unknown-kind}
use Rattle.dist_sweep.specs.Window.{WindowView}
use Rattle.dist_sweep.specs.declared.asking.Reply.{Reply}
use Rattle.dist_sweep.specs.declared.asking.Reply.TheVariants as replies
use Rattle.dist_outdated.specs.OutdatedPrivate.{KeepsOutdated, OutdatedView}
use Rattle.dist_sweep.specs.AskedLaws.{ask-stops, ask-told, asked-memory, claim-behind, memory-stops, stops-behind, StopsFrom}
use Rattle.dist_outdated.proofs.ClaimLines.{alive-kind, outdated-kind}
use Rattle.dist_outdated.proofs.OutdatedSteps.{found-puts, KeptBy, may-stand, MayClaimOn, outdated-puts, outdated-ready, question_of, unknown-puts}
use Rattle.dist_outdated.proofs.outdated_claimant.OutdatedClaimant.ask.Goals as goal

-- a stop that is known of the lines is one of the claim
stopped : (p : ℕ) (old new : DeskView) (a : AskerView) (w : WindowView) (c : OutdatedView) (error : WorkError) → StopsFrom (MayClaimOn a w c p) old new error
    → ClaimStops KeepsOutdated p old new a w c error
stopped p old new a w c error stops g before may keeps = stops g before (record { may = may; keeps = keeps })

pub returns-in_err-question-clause-err : goal.returns-in_err-question-clause-err
returns-in_err-question-clause-err g c =
    let old : DeskView = g.D.Desk.view c.args.desk.now in
    by-exit (λ (r : Result Claim WorkError). IfErr r (ClaimStops KeepsOutdated c.args.package old old c.args.asker.now c.args.window.now c.args.self.now))
    c.from_residual.result NoMemory c.from_residual.ensures.1
    (stopped c.args.package old old c.args.asker.now c.args.window.now c.args.self.now NoMemory
    (memory-stops (MayClaimOn c.args.asker.now c.args.window.now c.args.self.now c.args.package) old c.args.asker.now c.file_grows.ensures.begin
    (may-stand c.args.asker.now c.args.window.now c.args.self.now c.args.package)))

-- the words of the question
words-are : (words question : List Word) (variable other : ℕ) → words ≡ question → question ≡ yes variable ∷ [] → variable ≡ other → words ≡ yes other ∷ []
words-are words question variable other same is value = same ∙ is ∙ ap (λ (v : ℕ). yes v ∷ []) value

pub returns-in_err-values-clause-err : goal.returns-in_err-values-clause-err
returns-in_err-values-clause-err g c =
    let old : DeskView = g.D.Desk.view c.args.desk.now in
    let new : DeskView = g.D.Desk.view c.ask.new.desk in
    let a : AskerView = c.args.asker.now in
    let w : WindowView = c.args.window.now in
    let self : OutdatedView = c.args.self.now in
    let words = words-are c.deref.result.now c.in_ok-question.question.items c.variable-variable.result (variable_of self.space (Present (c.args.package - 1)))
    c.deref.ensures.value c.in_ok-question.ensures c.variable-variable.ensures.value in
    by-exit (λ (r : Result Claim WorkError). IfErr r (ClaimStops KeepsOutdated c.args.package old new a w self))
    c.from_residual-in_err-values.result c.in_err-values.field-0.0 c.from_residual-in_err-values.ensures.1
    (stopped c.args.package old new a w self c.in_err-values.field-0.0
    (ask-stops (MayClaimOn a w self c.args.package) old new a (question_of self.space c.args.package) c.deref.result.now c.in_err-values.field-0.0
    (outdated-ready a w self c.args.package) words c.in_err-values.ensures.err))

pub returns-in_err-number-in-Found-clause-err : goal.returns-in_err-number-in-Found-clause-err
returns-in_err-number-in-Found-clause-err g c =
    let old : DeskView = g.D.Desk.view c.args.desk.now in
    let mid : DeskView = g.D.Desk.view c.ask.new.desk in
    let a : AskerView = c.args.asker.now in
    let w : WindowView = c.args.window.now in
    let self : OutdatedView = c.args.self.now in
    let words = words-are c.deref.result.now c.in_ok-question.question.items c.variable-variable.result (variable_of self.space (Present (c.args.package - 1)))
    c.deref.ensures.value c.in_ok-question.ensures c.variable-variable.ensures.value in
    by-exit (λ (r : Result Claim WorkError). IfErr r (ClaimStops KeepsOutdated c.args.package old mid a w self))
    c.from_residual-in_err-number-in-Found.result NoMemory c.from_residual-in_err-number-in-Found.ensures.1
    (stopped c.args.package old mid a w self NoMemory
    (asked-memory (MayClaimOn a w self c.args.package) old mid c.ask.new.asker (question_of self.space c.args.package) (replies.Found c.in-Found.values)
    c.file_grows.ensures.begin c.file_grows.ensures.twice
    (ask-told (MayClaimOn a w self c.args.package) old mid a c.ask.new.asker (question_of self.space c.args.package) c.deref.result.now c.in_ok-values.field-0
    (replies.Found c.in-Found.values) (outdated-ready a w self c.args.package) words c.in-Found.is c.in_ok-values.ensures.ok)))

-- what is told of an installation
held : (n : ℕ) (question words : List Word) (reply told : Reply) → words ≡ question → reply ≡ told → Holds n words reply → Holds n question told
held n question words reply told are is holds =
    subst (λ (r : Reply). Holds n question r) is (subst (λ (ws : List Word). Holds n ws reply) are holds)

pub returns-in_err-put-in-Found-clause-err : goal.returns-in_err-put-in-Found-clause-err
returns-in_err-put-in-Found-clause-err g c =
    let old : DeskView = g.D.Desk.view c.args.desk.now in
    let mid : DeskView = g.D.Desk.view c.ask.new.desk in
    let new : DeskView = g.D.Desk.view c.put.new.desk in
    let a : AskerView = c.args.asker.now in
    let w : WindowView = c.args.window.now in
    let self : OutdatedView = c.args.self.now in
    let words = words-are c.deref.result.now c.in_ok-question.question.items c.variable-variable.result (variable_of self.space (Present (c.args.package - 1)))
    c.deref.ensures.value c.in_ok-question.ensures c.variable-variable.ensures.value in
    let holds = held a.log.variables (question_of self.space c.args.package) c.deref.result.now c.in_ok-values.field-0 (replies.Found c.in-Found.values) words
    c.in-Found.is c.in_ok-values.ensures.holds in
    by-exit (λ (r : Result Claim WorkError). IfErr r (ClaimStops KeepsOutdated c.args.package old new a w self))
    c.from_residual-in_err-put-in-Found.result c.in_err-put-in-Found.field-0.0 c.from_residual-in_err-put-in-Found.ensures.1
    (stopped c.args.package old new a w self c.in_err-put-in-Found.field-0.0
    (stops-behind (MayClaimOn a w self c.args.package) (KeptBy c.add.new.self) old mid new c.ask.new.asker c.add.new.window
    (question_of self.space c.args.package) (replies.Found c.in-Found.values) (Alive c.args.package c.in_ok-number-in-Found.number)
    c.in_err-put-in-Found.field-0.0
    c.file_grows.ensures.twice
    (ask-told (MayClaimOn a w self c.args.package) old mid a c.ask.new.asker (question_of self.space c.args.package) c.deref.result.now c.in_ok-values.field-0
    (replies.Found c.in-Found.values) (outdated-ready a w self c.args.package) words c.in-Found.is c.in_ok-values.ensures.ok)
    (found-puts old mid a c.ask.new.asker w c.add.new.window self c.add.new.self c.args.package c.in_ok-number-in-Found.number c.in-Found.values
    c.variable-variable.ensures.space (omega arith) (omega arith) c.requires.suits c.requires.fits holds c.in_ok-number-in-Found.ensures.space
    c.in_ok-number-in-Found.ensures.number c.in_ok-number-in-Found.ensures.window c.in_ok-number-in-Found.ensures.noted)
    c.in_err-put-in-Found.ensures.err))

pub returns-in_err-put-in-Found-clause-grows : goal.returns-in_err-put-in-Found-clause-grows
returns-in_err-put-in-Found-clause-grows g c =
    two-grow c.file_grows.ensures.twice c.ask.ensures.grows.0 c.put.ensures.grows.0 (g.D.Desk.view c.args.desk.now) (g.D.Desk.view c.ask.new.desk)
    (g.D.Desk.view c.put.new.desk) c.ask.ensures.grows.1 c.put.ensures.grows.1

pub returns-in-Found-clause-ok : goal.returns-in-Found-clause-ok
returns-in-Found-clause-ok g c =
    let old : DeskView = g.D.Desk.view c.args.desk.now in
    let mid : DeskView = g.D.Desk.view c.ask.new.desk in
    let new : DeskView = g.D.Desk.view c.put.new.desk in
    let a : AskerView = c.args.asker.now in
    let w : WindowView = c.args.window.now in
    let self : OutdatedView = c.args.self.now in
    let words = words-are c.deref.result.now c.in_ok-question.question.items c.variable-variable.result (variable_of self.space (Present (c.args.package - 1)))
    c.deref.ensures.value c.in_ok-question.ensures c.variable-variable.ensures.value in
    let holds = held a.log.variables (question_of self.space c.args.package) c.deref.result.now c.in_ok-values.field-0 (replies.Found c.in-Found.values) words
    c.in-Found.is c.in_ok-values.ensures.holds in
    λ s before may keeps. claim-behind (MayClaimOn a w self c.args.package) (KeptBy c.add.new.self) old mid new c.ask.new.asker c.put.new.self c.add.new.window
    (question_of self.space c.args.package) (replies.Found c.in-Found.values) (Alive c.args.package c.in_ok-number-in-Found.number) claims.Alive
    c.file_grows.ensures.twice
    (ask-told (MayClaimOn a w self c.args.package) old mid a c.ask.new.asker (question_of self.space c.args.package) c.deref.result.now c.in_ok-values.field-0
    (replies.Found c.in-Found.values) (outdated-ready a w self c.args.package) words c.in-Found.is c.in_ok-values.ensures.ok)
    (found-puts old mid a c.ask.new.asker w c.add.new.window self c.add.new.self c.args.package c.in_ok-number-in-Found.number c.in-Found.values
    c.variable-variable.ensures.space (omega arith) (omega arith) c.requires.suits c.requires.fits holds c.in_ok-number-in-Found.ensures.space
    c.in_ok-number-in-Found.ensures.number c.in_ok-number-in-Found.ensures.window c.in_ok-number-in-Found.ensures.noted)
    (alive-kind c.args.package c.in_ok-number-in-Found.number) refl c.put.ensures.rest c.in_ok-put-in-Found.ensures.grew c.in_ok-put-in-Found.ensures.ok
    s before (record { may = may; keeps = keeps })

pub returns-in-Found-clause-grows : goal.returns-in-Found-clause-grows
returns-in-Found-clause-grows g c =
    two-grow c.file_grows.ensures.twice c.ask.ensures.grows.0 c.put.ensures.grows.0 (g.D.Desk.view c.args.desk.now) (g.D.Desk.view c.ask.new.desk)
    (g.D.Desk.view c.put.new.desk) c.ask.ensures.grows.1 c.put.ensures.grows.1

pub returns-in_err-put-in-Refuted-clause-err : goal.returns-in_err-put-in-Refuted-clause-err
returns-in_err-put-in-Refuted-clause-err g c =
    let old : DeskView = g.D.Desk.view c.args.desk.now in
    let mid : DeskView = g.D.Desk.view c.ask.new.desk in
    let new : DeskView = g.D.Desk.view c.put-in-Refuted.new.desk in
    let a : AskerView = c.args.asker.now in
    let w : WindowView = c.args.window.now in
    let self : OutdatedView = c.args.self.now in
    let words = words-are c.deref.result.now c.in_ok-question.question.items c.variable-variable.result (variable_of self.space (Present (c.args.package - 1)))
    c.deref.ensures.value c.in_ok-question.ensures c.variable-variable.ensures.value in
    by-exit (λ (r : Result Claim WorkError). IfErr r (ClaimStops KeepsOutdated c.args.package old new a w self))
    c.from_residual-in_err-put-in-Refuted.result c.in_err-put-in-Refuted.field-0.0 c.from_residual-in_err-put-in-Refuted.ensures.1
    (stopped c.args.package old new a w self c.in_err-put-in-Refuted.field-0.0
    (stops-behind (MayClaimOn a w self c.args.package) (KeptBy self) old mid new c.ask.new.asker w
    (question_of self.space c.args.package) replies.Refuted (Outdated c.args.package) c.in_err-put-in-Refuted.field-0.0
    c.file_grows.ensures.twice
    (ask-told (MayClaimOn a w self c.args.package) old mid a c.ask.new.asker (question_of self.space c.args.package) c.deref.result.now c.in_ok-values.field-0
    replies.Refuted (outdated-ready a w self c.args.package) words c.in-Refuted.is c.in_ok-values.ensures.ok)
    (outdated-puts old mid a c.ask.new.asker w self c.args.package (omega arith))
    c.in_err-put-in-Refuted.ensures.err))

pub returns-in_err-put-in-Refuted-clause-grows : goal.returns-in_err-put-in-Refuted-clause-grows
returns-in_err-put-in-Refuted-clause-grows g c =
    two-grow c.file_grows.ensures.twice c.ask.ensures.grows.0 c.put-in-Refuted.ensures.grows.0 (g.D.Desk.view c.args.desk.now) (g.D.Desk.view c.ask.new.desk)
    (g.D.Desk.view c.put-in-Refuted.new.desk) c.ask.ensures.grows.1 c.put-in-Refuted.ensures.grows.1

pub returns-in-Refuted-clause-ok : goal.returns-in-Refuted-clause-ok
returns-in-Refuted-clause-ok g c =
    let old : DeskView = g.D.Desk.view c.args.desk.now in
    let mid : DeskView = g.D.Desk.view c.ask.new.desk in
    let new : DeskView = g.D.Desk.view c.put-in-Refuted.new.desk in
    let a : AskerView = c.args.asker.now in
    let w : WindowView = c.args.window.now in
    let self : OutdatedView = c.args.self.now in
    let words = words-are c.deref.result.now c.in_ok-question.question.items c.variable-variable.result (variable_of self.space (Present (c.args.package - 1)))
    c.deref.ensures.value c.in_ok-question.ensures c.variable-variable.ensures.value in
    λ s before may keeps. claim-behind (MayClaimOn a w self c.args.package) (KeptBy self) old mid new c.ask.new.asker c.put-in-Refuted.new.self w
    (question_of self.space c.args.package) replies.Refuted (Outdated c.args.package) claims.Outdated c.file_grows.ensures.twice
    (ask-told (MayClaimOn a w self c.args.package) old mid a c.ask.new.asker (question_of self.space c.args.package) c.deref.result.now c.in_ok-values.field-0
    replies.Refuted (outdated-ready a w self c.args.package) words c.in-Refuted.is c.in_ok-values.ensures.ok)
    (outdated-puts old mid a c.ask.new.asker w self c.args.package (omega arith))
    (outdated-kind c.args.package) refl c.put-in-Refuted.ensures.rest c.in_ok-put-in-Refuted.ensures.grew c.in_ok-put-in-Refuted.ensures.ok s before
    (record { may = may; keeps = keeps })

pub returns-in-Refuted-clause-grows : goal.returns-in-Refuted-clause-grows
returns-in-Refuted-clause-grows g c =
    two-grow c.file_grows.ensures.twice c.ask.ensures.grows.0 c.put-in-Refuted.ensures.grows.0 (g.D.Desk.view c.args.desk.now) (g.D.Desk.view c.ask.new.desk)
    (g.D.Desk.view c.put-in-Refuted.new.desk) c.ask.ensures.grows.1 c.put-in-Refuted.ensures.grows.1

pub returns-in_err-put-in-Undecided-clause-err : goal.returns-in_err-put-in-Undecided-clause-err
returns-in_err-put-in-Undecided-clause-err g c =
    let old : DeskView = g.D.Desk.view c.args.desk.now in
    let mid : DeskView = g.D.Desk.view c.ask.new.desk in
    let new : DeskView = g.D.Desk.view c.put-in-Undecided.new.desk in
    let a : AskerView = c.args.asker.now in
    let w : WindowView = c.args.window.now in
    let self : OutdatedView = c.args.self.now in
    let words = words-are c.deref.result.now c.in_ok-question.question.items c.variable-variable.result (variable_of self.space (Present (c.args.package - 1)))
    c.deref.ensures.value c.in_ok-question.ensures c.variable-variable.ensures.value in
    by-exit (λ (r : Result Claim WorkError). IfErr r (ClaimStops KeepsOutdated c.args.package old new a w self))
    c.from_residual-in_err-put-in-Undecided.result c.in_err-put-in-Undecided.field-0.0 c.from_residual-in_err-put-in-Undecided.ensures.1
    (stopped c.args.package old new a w self c.in_err-put-in-Undecided.field-0.0
    (stops-behind (MayClaimOn a w self c.args.package) (KeptBy self) old mid new c.ask.new.asker w
    (question_of self.space c.args.package) replies.Undecided (Unknown c.args.package) c.in_err-put-in-Undecided.field-0.0
    c.file_grows.ensures.twice
    (ask-told (MayClaimOn a w self c.args.package) old mid a c.ask.new.asker (question_of self.space c.args.package) c.deref.result.now c.in_ok-values.field-0
    replies.Undecided (outdated-ready a w self c.args.package) words c.in-Undecided.is c.in_ok-values.ensures.ok)
    (unknown-puts old mid a c.ask.new.asker w self c.args.package c.variable-variable.ensures.few)
    c.in_err-put-in-Undecided.ensures.err))

pub returns-in_err-put-in-Undecided-clause-grows : goal.returns-in_err-put-in-Undecided-clause-grows
returns-in_err-put-in-Undecided-clause-grows g c =
    two-grow c.file_grows.ensures.twice c.ask.ensures.grows.0 c.put-in-Undecided.ensures.grows.0 (g.D.Desk.view c.args.desk.now) (g.D.Desk.view c.ask.new.desk)
    (g.D.Desk.view c.put-in-Undecided.new.desk) c.ask.ensures.grows.1 c.put-in-Undecided.ensures.grows.1

pub returns-clause-ok : goal.returns-clause-ok
returns-clause-ok g c =
    let old : DeskView = g.D.Desk.view c.args.desk.now in
    let mid : DeskView = g.D.Desk.view c.ask.new.desk in
    let new : DeskView = g.D.Desk.view c.put-in-Undecided.new.desk in
    let a : AskerView = c.args.asker.now in
    let w : WindowView = c.args.window.now in
    let self : OutdatedView = c.args.self.now in
    let words = words-are c.deref.result.now c.in_ok-question.question.items c.variable-variable.result (variable_of self.space (Present (c.args.package - 1)))
    c.deref.ensures.value c.in_ok-question.ensures c.variable-variable.ensures.value in
    λ s before may keeps. claim-behind (MayClaimOn a w self c.args.package) (KeptBy self) old mid new c.ask.new.asker c.put-in-Undecided.new.self w
    (question_of self.space c.args.package) replies.Undecided (Unknown c.args.package) claims.Unknown c.file_grows.ensures.twice
    (ask-told (MayClaimOn a w self c.args.package) old mid a c.ask.new.asker (question_of self.space c.args.package) c.deref.result.now c.in_ok-values.field-0
    replies.Undecided (outdated-ready a w self c.args.package) words c.in-Undecided.is c.in_ok-values.ensures.ok)
    (unknown-puts old mid a c.ask.new.asker w self c.args.package c.variable-variable.ensures.few)
    (unknown-kind c.args.package) refl c.put-in-Undecided.ensures.rest c.in_ok-put-in-Undecided.ensures.grew c.in_ok-put-in-Undecided.ensures.ok s before
    (record { may = may; keeps = keeps })

pub returns-clause-grows : goal.returns-clause-grows
returns-clause-grows g c =
    two-grow c.file_grows.ensures.twice c.ask.ensures.grows.0 c.put-in-Undecided.ensures.grows.0 (g.D.Desk.view c.args.desk.now) (g.D.Desk.view c.ask.new.desk)
    (g.D.Desk.view c.put-in-Undecided.new.desk) c.ask.ensures.grows.1 c.put-in-Undecided.ensures.grows.1
