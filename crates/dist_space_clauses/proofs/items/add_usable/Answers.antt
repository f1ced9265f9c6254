use Rattle.std.proofs.Common.{◌⊎◌, ℕ, List, subst, sym}
use Rattle.std.specs.Prelude.{Any}
use Rattle.std.proofs.lemmas.Result.{on_ok_weaker}
use Rattle.dist_space_clauses.specs.GatheringPrivate.{Gathers, IsFresh, IsLaterOf, IsPresentMatched}
use Rattle.dist_space_clauses.specs.Moving.{AreCandidates}
use Rattle.dist_space.specs.Space.{IsMatched, IsMatchedBy}
use Rattle.dist_space.specs.declared.meaning.Meaning.{Meaning}
use Rattle.dist_space_clauses.proofs.Gathered.{gathers-both, gathers-weaker}
use Rattle.dist_space_clauses.proofs.MatchLemmas.{MatchedAnd}
use Rattle.dist_space_clauses.proofs.PresentLemmas.{matched-parts, present-matched}
use Rattle.dist_space_clauses.proofs.items.add_usable.Goals as goal

pub add_packages-requires : goal.add_packages-requires
add_packages-requires c =
    subst (λ (xs : List ℕ). AreCandidates c.args.space.now c.args.atom.now xs) (sym c.deref.ensures.value) c.in_ok-gather_candidates.ensures

pub returns : goal.returns
returns c =
    let s = c.args.space.now in
    let atom = c.args.atom.now in
    let numbers = c.gather_candidates.new.numbers.items in
    let usable = c.requires.usable in
    let Today = IsPresentMatched s atom in
    let In : List ℕ → Meaning → Type 0 = λ xs m. Any (λ number. MatchedAnd s atom (IsLaterOf number) m) xs in
    let Packages = In numbers in
    let Names = MatchedAnd s atom IsFresh in
    let Later : Meaning → Type 0 = λ m. Packages m ⊎ Names m in
    let Matched = IsMatched s atom in
    let first = c.args.variables.now.items in
    let second = c.add_present.new.variables.items in
    let third = c.add_packages.new.variables.items in
    let packages : Gathers s second third (IsMatchedBy s atom) Packages =
    subst (λ (xs : List ℕ). Gathers s second third (IsMatchedBy s atom) (In xs)) c.deref.ensures.value c.in_ok-add_packages.ensures in
    on_ok_weaker c.add_fresh.result
    (λ adds. gathers-both s first second c.add_fresh.new.variables.items Matched Today Later Matched
    (gathers-weaker s first second Today Matched Today Today (λ m is today. (usable, present-matched s atom m today)) (λ m is today. today)
    c.in_ok-add_present.ensures)
    (gathers-both s second third c.add_fresh.new.variables.items Matched Packages Names Later
    (gathers-weaker s second third (IsMatchedBy s atom) Matched Packages Packages (λ m is matched. (usable, matched)) (λ m is within. within) packages)
    (gathers-weaker s third c.add_fresh.new.variables.items Names Matched Names Names (λ m is both. (usable, both.1)) (λ m is both. both) adds)
    (λ m is either. either))
    (λ m is matched. matched-parts s atom numbers m c.in_ok-gather_candidates.ensures matched.1))
    c.add_fresh.ensures
