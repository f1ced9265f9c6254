use Rattle.std.proofs.Common.{refl}
use Rattle.std.proofs.lemmas.Bool.{false≢true}
use Rattle.std.proofs.lemmas.Result.{on_ok_weaker}
use Rattle.dist_space_clauses.specs.GatheringPrivate.{IsFresh}
use Rattle.dist_space.specs.declared.meaning.Meaning.{Meaning}
use Rattle.dist_space_clauses.proofs.ConflictLemmas.{IsNamedOther, fresh-other, other-fresh}
use Rattle.dist_space_clauses.proofs.Gathered.{gathers-nothing, gathers-weaker}
use Rattle.dist_space_clauses.proofs.MatchLemmas.{MatchedAnd}
use Rattle.dist_space_clauses.proofs.conflicts.add_new_names.Goals as goal

pub returns-then-eq : goal.returns-then-eq
returns-then-eq c =
    let s = c.args.space.now in
    let p = c.args.package.now in
    let P : Meaning → Type 0 = λ m. MatchedAnd s c.args.atom.now IsFresh m × IsNamedOther s 0 p m in
    gathers-nothing s c.args.variables.now.items P P (λ m is both. other-fresh s 0 p c.args.atom.now m both.0 both.1 (c.if-eq.ensures.same.0 refl))

pub returns : goal.returns
returns c =
    let s = c.args.space.now in
    let p = c.args.package.now in
    let Fresh_ = MatchedAnd s c.args.atom.now IsFresh in
    let P : Meaning → Type 0 = λ m. Fresh_ m × IsNamedOther s 0 p m in
    on_ok_weaker c.add_fresh.result
    (λ adds. gathers-weaker s c.args.variables.now.items c.add_fresh.new.variables.items Fresh_ P Fresh_ P
    (λ m is both. (both, fresh-other s 0 p c.args.atom.now m (λ same. false≢true (c.if-eq.ensures.same.1 same)) both)) (λ m is both. both.0) adds)
    c.add_fresh.ensures
