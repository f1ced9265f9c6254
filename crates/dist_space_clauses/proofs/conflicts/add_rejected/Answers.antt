use Rattle.std.proofs.Common.{refl}
use Rattle.std.proofs.lemmas.Bool.{false≢true}
use Rattle.std.proofs.lemmas.Result.{on_ok_weaker}
use Rattle.dist_space_clauses.specs.GatheringPrivate.{IsLaterOf}
use Rattle.dist_space_clauses.specs.SpaceClauses.{Excludes}
use Rattle.dist_space.specs.declared.meaning.Meaning.{Meaning}
use Rattle.dist_space_clauses.proofs.ConflictLemmas.{apart-later, later-apart}
use Rattle.dist_space_clauses.proofs.Gathered.{gathers-nothing, gathers-weaker}
use Rattle.dist_space_clauses.proofs.MatchLemmas.{MatchedAnd}
use Rattle.dist_space_clauses.proofs.conflicts.add_rejected.Goals as goal

pub returns-then-eq : goal.returns-then-eq
returns-then-eq c =
    let s = c.args.space.now in
    let p = c.args.package.now in
    let Excluded = Excludes s c.args.number p in
    let All : Meaning → Type 0 = λ m. MatchedAnd s c.args.atom.now (IsLaterOf c.args.other) m × Excluded m in
    gathers-nothing s c.args.variables.now.items Excluded All
    (λ m is both. apart-later s c.args.number p c.args.other c.package-rejected.result.now m c.package-rejected.ensures.value both.0.0 both.1
    (c.if-eq.ensures.same.0 refl))

pub returns : goal.returns
returns c =
    let s = c.args.space.now in
    let p = c.args.package.now in
    let atom = c.args.atom.now in
    let q = c.package-rejected.result.now in
    let Excluded = Excludes s c.args.number p in
    let Later = MatchedAnd s atom (IsLaterOf c.args.other) in
    let All : Meaning → Type 0 = λ m. Later m × Excluded m in
    on_ok_weaker c.add_later.result
    (λ adds. gathers-weaker s c.args.variables.now.items c.add_later.new.variables.items Later Excluded Later All
    (λ m is both. later-apart s c.args.number p c.args.other q atom m c.package-rejected.ensures.value (λ same. false≢true (c.if-eq.ensures.same.1 same))
    c.requires.atom c.requires.usable both) (λ m is both. both.0) adds)
    c.add_later.ensures
