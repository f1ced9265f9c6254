use Rattle.std.proofs.Common.{ℕ, List, inl, inr, subst, sym}
use Rattle.std.specs.Prelude.{Any}
use Rattle.std.proofs.lemmas.Result.{on_ok_weaker}
use Rattle.dist_base.specs.ListLaws.{any-more}
use Rattle.dist_space_clauses.specs.GatheringPrivate.{Gathers, IsFresh, IsLater, IsLaterOf}
use Rattle.dist_space_clauses.specs.Moving.{AreCandidates}
use Rattle.dist_space.specs.Space.{IsMatched}
use Rattle.dist_space_clauses.specs.SpaceClauses.{Excludes}
use Rattle.dist_space.specs.declared.meaning.Meaning.{Meaning}
use Rattle.dist_space_clauses.proofs.ConflictLemmas.{IsNamedOther, apart-fresh, fresh-apart}
use Rattle.dist_space_clauses.proofs.Gathered.{gathers-both, gathers-weaker}
use Rattle.dist_space_clauses.proofs.MatchLemmas.{MatchedAnd}
use Rattle.dist_space_clauses.proofs.PresentLemmas.{later-cases}
use Rattle.dist_space_clauses.proofs.conflicts.add_usable.Goals as goal

pub add_packages-requires-clause-candidates : goal.add_packages-requires-clause-candidates
add_packages-requires-clause-candidates c =
    subst (λ (xs : List ℕ). AreCandidates c.args.space.now c.args.atom.now xs) (sym c.deref.ensures.value) c.in_ok-gather_candidates.ensures

pub returns : goal.returns
returns c =
    let s = c.args.space.now in
    let p = c.args.package.now in
    let atom = c.args.atom.now in
    let numbers = c.gather_candidates.new.numbers.items in
    let Excluded = Excludes s c.args.number p in
    let usable = c.requires.usable in
    let In : List ℕ → Meaning → Type 0 = λ xs m. Any (λ other. MatchedAnd s atom (IsLaterOf other) m × Excluded m) xs in
    let Packages = In numbers in
    let Names : Meaning → Type 0 = λ m. MatchedAnd s atom IsFresh m × IsNamedOther s c.args.number p m in
    let All : Meaning → Type 0 = λ m. IsLater m × IsMatched s atom m × Excluded m in
    let first = c.args.variables.now.items in
    let second = c.add_packages.new.variables.items in
    let packages : Gathers s first second Excluded Packages =
    subst (λ (xs : List ℕ). Gathers s first second Excluded (In xs)) c.deref.ensures.value c.in_ok-add_packages.ensures in
    on_ok_weaker c.add_new_names.result
    (λ adds. gathers-both s first second c.add_new_names.new.variables.items Excluded Packages Names All packages
    (gathers-weaker s second c.add_new_names.new.variables.items Names Excluded Names Names
    (λ m is both. fresh-apart s c.args.number p atom m c.requires.atom usable both.0 both.1) (λ m is both. both) adds)
    (λ m is both. elim (later-cases s atom numbers m c.in_ok-gather_candidates.ensures both.0 both.1.1) [
      | inl within ↦ inl (any-more (λ (other : ℕ). MatchedAnd s atom (IsLaterOf other) m) (λ (other : ℕ). MatchedAnd s atom (IsLaterOf other) m × Excluded m)
          (λ other here. (here, both.2)) numbers within)
      | inr fresh ↦ inr (fresh, apart-fresh s c.args.number p atom m fresh both.2)
    ]))
    c.add_new_names.ensures
