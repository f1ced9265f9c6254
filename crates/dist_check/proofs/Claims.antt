-- What a claim without a fault says is true.
use Rattle.std.proofs.Common.{◌≡◌, ◌≢◌, inl, inr, ⊎_elim, ℕ, ◌+◌, ◌-◌, ◌<◌, ◌≤◌, Bool, true, false, List, [], ◌∷◌, ◌++◌, length, get_or, map, Some, refl}
use Rattle.std.proofs.Common.{sym, ap, subst, ◌∙◌, arith, slice_get}
use Rattle.std.specs.List.{All, Any, Contains}
use Rattle.std.proofs.lemmas.Bool.{false≢true}
use Rattle.std.proofs.lemmas.List.Elements.{All-contains, Contains-append_left, Contains-append_right, Contains-append_cases}
use Rattle.std.proofs.lemmas.Option.{slice_get_within}
use Rattle.dist_base.specs.ListLaws.{all-contained, any-cases}
use Rattle.dist_clause.specs.Formula.{Literal, literal, negation, IsTrueLiteral, MakesTrue, IsModel, value_of}
use Rattle.dist_repo.specs.Order.{IsInOrder}
use Rattle.dist_repo.specs.PackageList.{PackageList}
use Rattle.dist_repo.specs.Strong.{IsInstallation, IsInstallable, StronglyDepends}
use Rattle.dist_repo.specs.declared.package.Package.{Package}
use Rattle.dist_now.specs.PresentLaws.{AreModelsInstallations}
use Rattle.dist_cert.specs.declared.TheConstants.{REACH}
use Rattle.dist_cert.specs.declared.faults.CertCause.TheVariants as causes
use Rattle.dist_cert.specs.declared.records.CertKind.TheVariants as kinds
use Rattle.dist_cert.specs.declared.records.CertRecord.{CertRecord}
use Rattle.dist_cert.specs.declared.records.CertRecord.TheVariants as lines
use Rattle.dist_cert.specs.declared.records.Claim.{Claim}
use Rattle.dist_cert.specs.declared.records.Claim.TheVariants as claims
use Rattle.dist_cert.specs.declared.records.Header.{Header}
use Rattle.dist_cert.specs.Form.{Word, KeepsRules, record_text, HasForm, AreFromOne}
use Rattle.dist_cert.specs.Groups.{clause_of, installations, installation_at, is_claim, claim_count, group, IsRefutedIn}
use Rattle.dist_cert.specs.GroupLaws.{all-at}
use Rattle.dist_cert.specs.ClaimRules.{yes, no, IsNamed, IsInEach, HoldsStrong, HoldsClaim}
use Rattle.dist_cert.specs.Accepted.{from_zero, claim_in}
use Rattle.dist_subject.specs.Present.{present_matter, packages_of}
use Rattle.dist_subject.specs.Claims.{NamesOthers}
use Rattle.dist_check.specs.Means.{SaysStrong}
use Rattle.dist_line_check.specs.ToldLaws.{IsTold, stable, most-told, less-told, bool-told, number-told}
use Rattle.dist_check.proofs.Places.{contains-map, image-of}
use Rattle.dist_judge.specs.LineLaws.{HaveForms}
use Rattle.dist_line_check.specs.LinesAt.{AreRight}
use Rattle.dist_line_check.specs.ModelLaws.{IsSoundRule, refuted-true}
use Rattle.dist_check.proofs.GroupLemmas.{group-behind, installation-healthy, recent-there}
use Rattle.dist_subject.specs.MemberLaws.{member-from, member-at, package-there, variable-there}
use Rattle.dist_check.proofs.Counts.{next-number}
use Rattle.dist_check.proofs.MemberLemmas.{packages-told}

-- Records without faults over a repository, and the laws that tell what they mean.
pub record AreProven (r : PackageList) (inputs : List (List Literal)) (h : Header) (steps : List CertRecord) : Type 0 where
  pub sound : IsSoundRule
  pub ordered : IsInOrder r.packages
  pub models : AreModelsInstallations r h.essential inputs
  pub right : AreRight (present_matter r h.essential inputs) h steps
  pub forms : HaveForms steps
  pub strong : h.kind ≡ kinds.Strong
  pub ended : Contains steps lines.End

-- ---- installations as truth values

record HasValues (r : PackageList) (inputs : List (List Literal)) (members : List Package) : Type 0 where
  values : List Bool
  model : IsModel (value_of values) inputs
  to : (k : ℕ) (p : Package) → slice_get r.packages k ≡ Some p → Contains members p → value_of values (k + 1) ≡ true
  back : (k : ℕ) (p : Package) → slice_get r.packages k ≡ Some p → value_of values (k + 1) ≡ true → Contains members p

value-at : (values : List Bool) (k : ℕ) → value_of values (k + 1) ≡ get_or values k false
value-at values k = let e : k + 1 - 1 ≡ k = omega arith in ap (λ (n : ℕ). get_or values n false) e

values-of : (r : PackageList) (inputs : List (List Literal)) (h : Header) (steps : List CertRecord) → AreProven r inputs h steps → (members : List Package)
    → IsInstallation h.essential r members → HasValues r inputs members
values-of r inputs h steps x members healthy =
    let w = x.models.all members healthy in record {
      values = w.0;
      model = w.1.model;
      to = λ k p is there. value-at w.0 k ∙ member-at r.packages w.0 k p x.ordered is ((w.2 p).0 there);
      back = λ k p is holds. (w.2 p).1 (member-from r.packages w.0 k p is (sym (value-at w.0 k) ∙ holds));
    }

healthy-there : (r : PackageList) (inputs : List (List Literal)) (h : Header) (steps : List CertRecord) → AreProven r inputs h steps
    → (front some after : List CertRecord) (members : List ℕ)
    → steps ≡ (front ++ some) ++ after → Contains (installations some) members → IsInstallation h.essential r (packages_of r.packages members)
healthy-there r inputs h steps x front some after members is there =
    stable (packages-told r h.essential inputs members x.ordered x.models)
    (installation-healthy (present_matter r h.essential inputs) h steps x.right front some after members is there)

-- ---- refuted questions

question-refuted : (r : PackageList) (inputs : List (List Literal)) (h : Header) (steps : List CertRecord) → AreProven r inputs h steps
    → (before : List CertRecord) (step : CertRecord) (after : List CertRecord) (question : List Word)
    → steps ≡ before ++ step ∷ after → IsRefutedIn (group before) question → (value : ℕ → Bool) → IsModel value inputs
    → MakesTrue value (map negation (clause_of question))
question-refuted r inputs h steps x before step after question is refuted value model =
    let behind = group-behind before in
    refuted-true x.sound (present_matter r h.essential inputs) h steps x.right behind.front (group before) (step ∷ after) question
    (is ∙ ap (λ (ls : List CertRecord). ls ++ step ∷ after) behind.is) refuted value model

never-any : {X : Type 0} (P : X → Type 0) → ¬ Any P []
never-any P any = omega (arith, any.2)

-- a refuted package is in no healthy installation
not-installable : (r : PackageList) (inputs : List (List Literal)) (h : Header) (steps : List CertRecord) → AreProven r inputs h steps
    → (before : List CertRecord) (step : CertRecord) (after : List CertRecord) (k : ℕ) (p : Package)
    → steps ≡ before ++ step ∷ after → ¬ (¬ IsRefutedIn (group before) (yes (k + 1) ∷ [])) → slice_get r.packages k ≡ Some p → ¬ IsInstallable h.essential r p
not-installable r inputs h steps x before step after k p is twice at installable =
    let v = values-of r inputs h steps x installable.members installable.healthy in
    twice (λ refuted. ⊎_elim
    (λ none. false≢true (sym none ∙ v.to k p at installable.holds))
    (never-any (IsTrueLiteral (value_of v.values)))
    (any-cases (IsTrueLiteral (value_of v.values)) (literal (k + 1) false) []
    (question-refuted r inputs h steps x before step after (yes (k + 1) ∷ []) is refuted (value_of v.values) v.model)))

-- where a package without another one is refuted, each healthy installation with the one has the other
always-there : (r : PackageList) (inputs : List (List Literal)) (h : Header) (steps : List CertRecord) → AreProven r inputs h steps
    → (before : List CertRecord) (step : CertRecord) (after : List CertRecord) (k j : ℕ) (p q : Package)
    → steps ≡ before ++ step ∷ after → ¬ (¬ IsRefutedIn (group before) (yes (k + 1) ∷ no (j + 1) ∷ [])) → slice_get r.packages k ≡ Some p
    → slice_get r.packages j ≡ Some q
    → (members : List Package) → IsInstallation h.essential r members → Contains members p → Contains members q
always-there r inputs h steps x before step after k j p q is twice at_k at_j members healthy there =
    let v = values-of r inputs h steps x members healthy in
    v.back j q at_j (stable (bool-told (value_of v.values (j + 1)) true) (λ not_true. twice (λ refuted. ⊎_elim
    (λ none. false≢true (sym none ∙ v.to k p at_k there))
    (λ later. ⊎_elim not_true (never-any (IsTrueLiteral (value_of v.values))) (any-cases (IsTrueLiteral (value_of v.values)) (literal (j + 1) true) [] later))
    (any-cases (IsTrueLiteral (value_of v.values)) (literal (k + 1) false) (literal (j + 1) true ∷ [])
    (question-refuted r inputs h steps x before step after (yes (k + 1) ∷ no (j + 1) ∷ []) is refuted (value_of v.values) v.model)))))

-- ---- the rules of a strong claim, one by one

pub named-told : (before : List CertRecord) (p number : ℕ) → IsTold (IsNamed before p number)
named-told before p number = elim (most-told 1 number) [
  | inr low ↦ inr (λ h. low h.0.0)
  | inl first ↦ elim (most-told number (length (installations before))) [
    | inr high ↦ inr (λ h. high h.0.1)
    | inl last ↦ elim (less-told (length (installations before)) (number + REACH)) [
      | inr old ↦ inr (λ h. old h.0.2)
      | inl late ↦ elim (number-told (installation_at before number) p) [
        | inr absent ↦ inr (λ h. absent h.1)
        | inl there ↦ inl ((first, last, late), there)
      ]
    ]
  ]
]

named-each : (before : List CertRecord) (p : ℕ) (h : Header) (r : PackageList) (inputs : List (List Literal)) (named on undecided : List ℕ)
    → ¬ (¬ HoldsStrong (present_matter r h.essential inputs) before p named on undecided) → (number : ℕ) → Contains named number → IsNamed before p number
named-each before p h r inputs named on undecided twice number there =
    stable (named-told before p number) (λ none. twice (λ holds. none (All-contains (IsNamed before p) named number holds.names there)))

other-each : (before : List CertRecord) (p : ℕ) (h : Header) (r : PackageList) (inputs : List (List Literal)) (named on undecided : List ℕ)
    → ¬ (¬ HoldsStrong (present_matter r h.essential inputs) before p named on undecided) → (q : ℕ) → Contains (on ++ undecided) q → (q ≢ p)
    × (q ≤ length r.packages)
other-each before p h r inputs named on undecided twice q there =
    let Other : ℕ → Type 0 = λ n. (n ≢ p) × (n ≤ length r.packages) in (
      λ same. twice (λ holds. (All-contains Other (on ++ undecided) q holds.others there).0 same),
      stable (most-told q (length r.packages)) (λ none. twice (λ holds. none (All-contains Other (on ++ undecided) q holds.others there).1)),
    )

-- ---- a strong claim

installable : (r : PackageList) (inputs : List (List Literal)) (h : Header) (steps : List CertRecord) → AreProven r inputs h steps
    → (before : List CertRecord) (step : CertRecord) (after : List CertRecord) (k number : ℕ) (p : Package)
    → steps ≡ before ++ step ∷ after → slice_get r.packages k ≡ Some p → IsNamed before (k + 1) number → IsInstallable h.essential r p
installable r inputs h steps x before step after k number p is at named = record {
  members = packages_of r.packages (installation_at before number);
  healthy = healthy-there r inputs h steps x [] before (step ∷ after) (installation_at before number) is (recent-there before number named.0);
  holds = package-there r.packages (installation_at before number) k p at named.1;
}

-- a package on which p strongly depends is in each of the claim's installations
in-each : (r : PackageList) (inputs : List (List Literal)) (h : Header) (steps : List CertRecord) → AreProven r inputs h steps
    → (before : List CertRecord) (step : CertRecord) (after : List CertRecord) (k j : ℕ) (p q : Package) (named : List ℕ)
    → steps ≡ before ++ step ∷ after → slice_get r.packages k ≡ Some p → slice_get r.packages j ≡ Some q
    → ((number : ℕ) → Contains named number → IsNamed before (k + 1) number)
    → StronglyDepends h.essential r p q → IsInEach before named (k + 1) (j + 1)
in-each r inputs h steps x before step after k j p q named is at_k at_j each depends =
    let behind = group-behind before in (
      all-contained (λ number. Contains (installation_at before number) (j + 1)) named (λ number there.
          let members = installation_at before number in
          has members (healthy-there r inputs h steps x [] before (step ∷ after) members is (recent-there before number (each number there).0))
          (each number there).1),
      all-contained (λ members. Contains members (k + 1) → Contains members (j + 1)) (installations (group before)) (λ members there.
          has members (healthy-there r inputs h steps x behind.front (group before) (step ∷ after) members
          (is ∙ ap (λ (ls : List CertRecord). ls ++ step ∷ after) behind.is) there)),
    )
  where
    has : (members : List ℕ) → IsInstallation h.essential r (packages_of r.packages members) → Contains members (k + 1) → Contains members (j + 1)
    has members healthy there =
        variable-there r.packages members j q x.ordered at_j (depends.always (packages_of r.packages members) healthy
        (package-there r.packages members k p at_k there))

-- numbers from 0 and from 1
down : (numbers : List ℕ) (k : ℕ) → Contains numbers (k + 1) → Contains (from_zero numbers) k
down numbers k there = let e : k + 1 - 1 ≡ k = omega arith in subst (Contains (from_zero numbers)) e (contains-map (λ n. n - 1) numbers (k + 1) there)

pub up : (numbers : List ℕ) (k : ℕ) → AreFromOne numbers → Contains (from_zero numbers) k → Contains numbers (k + 1)
up numbers k from_one there =
    let image = image-of (λ n. n - 1) numbers k there in
    let low : 1 ≤ image.of = All-contains (λ n. 1 ≤ n) numbers image.of from_one image.there in
    let e : image.of ≡ k + 1 = omega (arith, low, image.is) in
    subst (Contains numbers) e image.there

first-of : (numbers : List ℕ) → 0 < length numbers → Contains numbers (get_or numbers 0 0)
first-of numbers some = (0, some, at numbers some)
  where
    at : (ns : List ℕ) → 0 < length ns → get_or ns 0 (get_or ns 0 0) ≡ get_or ns 0 0
    at [] within = refl
    at (n ∷ ns) within = refl

strong-says : (r : PackageList) (inputs : List (List Literal)) (h : Header) (steps : List CertRecord) → AreProven r inputs h steps
    → (before after : List CertRecord) (k : ℕ) (p : Package) (named on undecided : List ℕ)
    → steps ≡ before ++ lines.Strong (k + 1) named on undecided ∷ after → slice_get r.packages k ≡ Some p → KeepsRules (lines.Strong (k + 1) named on undecided)
    → ¬ (¬ HoldsStrong (present_matter r h.essential inputs) before (k + 1) named on undecided)
    → SaysStrong h.essential r k p (claims.Strong (from_zero on) (from_zero undecided))
strong-says r inputs h steps x before after k p named on undecided is at rules twice = (there, record { listed = listed; unlisted = unlisted })
  where
    step : CertRecord
    step = lines.Strong (k + 1) named on undecided

    each : (number : ℕ) → Contains named number → IsNamed before (k + 1) number
    each = named-each before (k + 1) h r inputs named on undecided twice

    there : IsInstallable h.essential r p
    there = installable r inputs h steps x before step after k (get_or named 0 0) p is at (each (get_or named 0 0) (first-of named rules.1))

    listed : (other : ℕ) (q : Package) → slice_get r.packages other ≡ Some q → Contains (from_zero on) other → StronglyDepends h.essential r p q
    listed other q at_other among = record {
      installable = there;
      always = always-there r inputs h steps x before step after k other p q is
          (λ none. twice (λ holds. none (All-contains (λ n. IsRefutedIn (group before) (yes (k + 1) ∷ no n ∷ [])) on (other + 1) holds.refuted
          (up on other rules.3 among)))) at at_other;
    }

    unlisted : (other : ℕ) (q : Package) → slice_get r.packages other ≡ Some q → other ≢ k → (¬ Contains (from_zero on) other)
        → (¬ Contains (from_zero undecided) other) → ¬ StronglyDepends h.essential r p q
    unlisted other q at_other apart not_on not_undecided depends = x.right before step after is causes.Incomplete (
      other + 1,
      omega arith,
      omega (arith, slice_get_within r.packages other q at_other),
      (λ same. apart (omega (arith, same))),
      in-each r inputs h steps x before step after k other p q named is at at_other each depends,
      λ among. ⊎_elim (λ here. not_on (down on other here)) (λ here. not_undecided (down undecided other here))
          (Contains-append_cases on undecided (other + 1) among),
    )

strong-names : (before : List CertRecord) (k : ℕ) (h : Header) (r : PackageList) (inputs : List (List Literal)) (named on undecided : List ℕ)
    → KeepsRules (lines.Strong (k + 1) named on undecided)
    → ¬ (¬ HoldsStrong (present_matter r h.essential inputs) before (k + 1) named on undecided)
    → NamesOthers (length r.packages) k (claims.Strong (from_zero on) (from_zero undecided))
strong-names before k h r inputs named on undecided rules twice =
    (names on rules.3 (λ q there. Contains-append_left on undecided q there), names undecided rules.4 (λ q there. Contains-append_right on undecided q there))
  where
    names : (numbers : List ℕ) → AreFromOne numbers → ((q : ℕ) → Contains numbers q → Contains (on ++ undecided) q)
        → All (λ q. (q < length r.packages) × (q ≢ k)) (from_zero numbers)
    names numbers from_one among = all-contained (λ q. (q < length r.packages) × (q ≢ k)) (from_zero numbers) (λ q there.
        let of = other-each before (k + 1) h r inputs named on undecided twice (q + 1) (among (q + 1) (up numbers q from_one there)) in
        (omega (arith, of.1), λ same. of.0 (ap (λ (n : ℕ). n + 1) same)))

-- ---- any claim

holds-twice : (r : PackageList) (inputs : List (List Literal)) (h : Header) (steps : List CertRecord) → AreProven r inputs h steps
    → (before : List CertRecord) (step : CertRecord) (after : List CertRecord)
    → steps ≡ before ++ step ∷ after → is_claim step ≡ true → ¬ (¬ HoldsClaim (present_matter r h.essential inputs) kinds.Strong before step)
holds-twice r inputs h steps x before step after is claim none =
    x.right before step after is causes.WrongClaim (
      claim,
      subst (λ kind. ¬ HoldsClaim (present_matter r h.essential inputs) kind before step)
          (sym x.strong) none,
    )

-- the claim of a line with its number
pub record IsClaimAt (r : PackageList) (h : Header) (number : ℕ) (claim : Claim) : Type 0 where
  pub within : number < length r.packages
  pub names : NamesOthers (length r.packages) number claim
  pub says : (p : Package) → slice_get r.packages number ≡ Some p → SaysStrong h.essential r number p claim

pub claim-says : (r : PackageList) (inputs : List (List Literal)) (h : Header) (steps : List CertRecord) → AreProven r inputs h steps
    → (before : List CertRecord) (step : CertRecord) (after : List CertRecord) (claim : Claim)
    → steps ≡ before ++ step ∷ after → claim_in step ≡ claim ∷ [] → IsClaimAt r h (claim_count before) claim
claim-says r inputs h steps x before (lines.Question literals) after claim is e = cc
claim-says r inputs h steps x before (lines.Derived literals hints) after claim is e = cc
claim-says r inputs h steps x before (lines.Refuted hints) after claim is e = cc
claim-says r inputs h steps x before (lines.Installation variables) after claim is e = cc
claim-says r inputs h steps x before lines.Undecided after claim is e = cc
claim-says r inputs h steps x before lines.End after claim is e = cc
claim-says r inputs h steps x before (lines.Outdated n) after claim is e =
    absurd (holds-twice r inputs h steps x before (lines.Outdated n) after is refl (λ holds. holds))
claim-says r inputs h steps x before (lines.Alive n i) after claim is e =
    absurd (holds-twice r inputs h steps x before (lines.Alive n i) after is refl (λ holds. holds))
claim-says r inputs h steps x before (lines.Challenged n i by undecided) after claim is e =
    absurd (holds-twice r inputs h steps x before (lines.Challenged n i by undecided) after is refl (λ holds. holds))
claim-says r inputs h steps x before (lines.Unknown n) after claim is e =
    let next = next-number (claim_count before) (length r.packages) n (x.right before (lines.Unknown n) after is causes.OutOfOrder) in
    let same : claims.Unknown ≡ claim = cc in
    subst (IsClaimAt r h (claim_count before)) same (record { within = omega (arith, next.0, next.1); names = tt; says = λ p at. tt })
claim-says r inputs h steps x before (lines.NotInstallable n) after claim is e =
    let next = next-number (claim_count before) (length r.packages) n (x.right before (lines.NotInstallable n) after is causes.OutOfOrder) in
    let same : claims.Uninstallable ≡ claim = cc in
    subst (IsClaimAt r h (claim_count before)) same (record {
      within = omega (arith, next.0, next.1);
      names = tt;
      says = λ p at. not-installable r inputs h steps x before (lines.NotInstallable n) after (claim_count before) p is
          (subst (λ k. ¬ (¬ IsRefutedIn (group before) (yes k ∷ []))) next.0 (holds-twice r inputs h steps x before (lines.NotInstallable n) after is refl)) at;
    })
claim-says r inputs h steps x before (lines.Strong n named on undecided) after claim is e =
    let next = next-number (claim_count before) (length r.packages) n (x.right before (lines.Strong n named on undecided) after is causes.OutOfOrder) in
    let same : claims.Strong (from_zero on) (from_zero undecided) ≡ claim = cc in
    let k = claim_count before in
    let form = all-at (λ s. HasForm (record_text s) s) steps before (lines.Strong n named on undecided) after is x.forms in
    let twice : ¬ (¬ HoldsStrong (present_matter r h.essential inputs) before (k + 1) named on undecided)
    = subst (λ i. ¬ (¬ HoldsStrong (present_matter r h.essential inputs) before i named on undecided)) next.0
    (holds-twice r inputs h steps x before (lines.Strong n named on undecided) after is refl) in
    let rules : KeepsRules (lines.Strong (k + 1) named on undecided) = subst (λ i. KeepsRules (lines.Strong i named on undecided)) next.0 form.rules in
    let is_k : steps ≡ before ++ lines.Strong (k + 1) named on undecided ∷ after =
    subst (λ i. steps ≡ before ++ lines.Strong i named on undecided ∷ after) next.0 is in
    subst (IsClaimAt r h k) same (record {
      within = omega (arith, next.0, next.1);
      names = strong-names before k h r inputs named on undecided rules twice;
      says = λ p at. strong-says r inputs h steps x before after k p named on undecided is_k at rules twice;
    })
