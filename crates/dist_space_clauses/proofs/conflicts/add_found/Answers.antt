use Rattle.std.proofs.Common.{◌≡◌, ℕ, List, [], ◌<◌, length, subst, sym}
use Rattle.std.specs.Prelude.{Any, All}
use Rattle.std.proofs.lemmas.Result.{on_ok_weaker}
use Rattle.dist_repo.specs.PackageList.{PackageList}
use Rattle.dist_asked.specs.Asked.{Adds}
use Rattle.dist_now.specs.Partners.{IsPartner}
use Rattle.dist_space_clauses.specs.GatheringPrivate.{Gathers, IsPartnerOf}
use Rattle.dist_space.specs.declared.meaning.Meaning.{Meaning}
use Rattle.dist_space.specs.declared.meaning.Meaning.TheVariants.{Present}
use Rattle.dist_space_clauses.proofs.ConflictLemmas.{ArePartners, listed-partner, partner-listed, partners-within}
use Rattle.dist_space_clauses.proofs.Gathered.{gathers-weaker}
use Rattle.dist_space_clauses.proofs.conflicts.add_found.Goals as goal

pub add_behind-requires : goal.add_behind-requires
add_behind-requires c = subst (λ (r : PackageList). c.args.number < length r.packages) (sym c.requires.partners) c.requires.number

pub add_present-requires : goal.add_present-requires
add_present-requires c =
    let s = c.args.space.now in
    let others = c.add_behind.new.numbers.items in
    let are : ArePartners s c.args.number others = subst (λ (r : PackageList). Adds [] others (IsPartner r c.args.number)) c.requires.partners
    (subst (λ (xs : List ℕ). Adds xs others (IsPartner c.args.partners.now c.args.number)) c.requires.none c.in_ok-add_behind.ensures.adds) in
    subst (λ (xs : List ℕ). All (λ other. other < length s.repository.packages) xs) (sym c.deref.ensures.value)
    (partners-within s c.args.number others are)

pub returns-clause-adds : goal.returns-clause-adds
returns-clause-adds c =
    let s = c.args.space.now in
    let number = c.args.number in
    let others = c.add_behind.new.numbers.items in
    let are : ArePartners s number others = subst (λ (r : PackageList). Adds [] others (IsPartner r number)) c.requires.partners
    (subst (λ (xs : List ℕ). Adds xs others (IsPartner c.args.partners.now number)) c.requires.none c.in_ok-add_behind.ensures.adds) in
    let old = c.args.variables.now.items in
    let new = c.add_present.new.variables.items in
    let Listed : List ℕ → Meaning → Type 0 = λ xs m. Any (λ other. m ≡ Present other) xs in
    let P = IsPartnerOf s number in
    on_ok_weaker c.add_present.result
    (λ adds. gathers-weaker s old new (Listed others) P (Listed others) P (λ m is listed. listed-partner s number others m are listed)
    (λ m is partner. partner-listed s number others m are partner)
    (subst (λ (xs : List ℕ). Gathers s old new (Listed xs) (Listed xs)) c.deref.ensures.value adds))
    c.add_present.ensures
