-- What the findings of an explanation's file prove of the package.
use Rattle.std.proofs.Common.{◌≡◌, ◌≢◌, ◌⊎◌, inl, inr, ℕ, ◌+◌, ◌-◌, ◌≤◌, Bool, true, false, List, [], ◌∷◌, length}
use Rattle.std.proofs.Common.{get_or, map}
use Rattle.std.proofs.Common.{Some, sym, ap, subst, ◌∙◌, arith, slice_get}
use Rattle.std.specs.Prelude.{All, Contains, IsSomeAnd}
use Rattle.std.proofs.lemmas.Bool.{cases_order, false≢true}
use Rattle.std.proofs.lemmas.List.Elements.{All-cons, All-contains, All-map, All-nil}
use Rattle.std.proofs.lemmas.Option.{slice_get-get_or, slice_get_within}
use Rattle.dist_base.specs.ListLaws.{all-contained, any-there, contains-at, here-at, within-from}
use Rattle.dist_clause.specs.Formula.{Literal, IsModel, IsTrueLiteral, MakesTrue, literal, value_of}
use Rattle.dist_repo.specs.Conflict.{AreInConflict}
use Rattle.dist_repo.specs.PackageList.{PackageList, IsPackageAnd}
use Rattle.dist_repo.specs.Strong.{IsInstallable}
use Rattle.dist_repo.specs.declared.package.Package.{Package}
use Rattle.dist_cert.specs.ClaimRules.{yes}
use Rattle.dist_cert.specs.Form.{Word}
use Rattle.dist_cert.specs.ListLaws.{any-from}
use Rattle.dist_cert.specs.Rising.{is_among}
use Rattle.dist_now.specs.Members.{members_of}
use Rattle.dist_now.specs.PresentClauses.{Apart, AreNumbersOf, Demand, IsClauseFor, IsDemand, IsMetBy, Item, Required}
use Rattle.dist_now.specs.PresentClauses.{installed, not_installed}
use Rattle.dist_now.specs.PresentLaws.{AreModelsInstallations}
use Rattle.dist_now.specs.Relations.{AreMembersByValues, AreOf, AreRelations, AreValuesOf, HaveClauses}
use Rattle.dist_subject.specs.MemberLaws.{value-among}
use Rattle.dist_subject.specs.Present.{truth_of}
use Rattle.dist_subject.specs.TruthLaws.{truth-length}
use Rattle.dist_explain.specs.Answered.{HasAll, IsOfRelation, IsOnlyMissing, Selects}
use Rattle.dist_explain.specs.Explanation.{Explain, FailsNumber, IsNeeded}
use Rattle.dist_explain.specs.Selectors.{AreExplainedByNoModel, AreModelsBySelectors, HasNoModel, selected_clauses}
use Rattle.dist_explain.specs.Selectors.{selector}
use Rattle.dist_explain.specs.declared.asked.Asked.{Asked}
use Rattle.dist_explain.proofs.ExplainLaws.{selected-at, selected-model}
use Rattle.dist_findings.specs.SoundLaws.{IsSound}
use Rattle.dist_findings.specs.declared.finding.Finding.TheVariants as finding

-- ---- the variables of the clauses

-- a literal of a package
abbrev IsOfPackage : ℕ → Literal → Type 0
IsOfPackage n l = (1 ≤ l.variable) × (l.variable ≤ n)

package-literal : (r : PackageList) (k : ℕ) (b : Bool) (P : Package → Type 0) → IsPackageAnd r.packages k P
    → IsOfPackage (length r.packages) (literal (k + 1) b)
package-literal r k b P there = let short = within-from P r.packages k there in (omega arith, omega (arith, short))

numbers-in-range : (r : PackageList) (P : Package → Type 0) (numbers : List ℕ) → AreNumbersOf r P numbers
    → All (IsOfPackage (length r.packages)) (map installed numbers)
numbers-in-range r P numbers are = All-map (IsOfPackage (length r.packages)) installed numbers
    (all-contained (λ k. IsOfPackage (length r.packages) (installed k)) numbers (λ k there. package-literal r k true P ((are.exact k).0 there)))

clause-in-range : (r : PackageList) (d : Demand) (clause : List Literal) → IsDemand r false d → IsClauseFor r d clause
    → All (IsOfPackage (length r.packages)) clause
clause-in-range r (Item number place) clause is (numbers, at, same) =
    let holder = here-at (λ p. IsSomeAnd (slice_get p.depends place) (λ item. AreNumbersOf r (IsMetBy r.architecture item) numbers)) r.packages number at in
    let item = here-at (λ item. AreNumbersOf r (IsMetBy r.architecture item) numbers) holder.element.depends place holder.holds in
    subst (All (IsOfPackage (length r.packages))) (sym same)
    (All-cons (IsOfPackage (length r.packages)) (not_installed number) (map installed numbers)
    (package-literal r number false (λ p. IsSomeAnd (slice_get p.depends place) (λ item. AreNumbersOf r (IsMetBy r.architecture item) numbers)) at)
    (numbers-in-range r (IsMetBy r.architecture item.element) numbers item.holds))
clause-in-range r (Apart first second) clause is same =
    let Both : Package → Type 0 = λ p. IsPackageAnd r.packages second (λ q. (p.name ≡ q.name) ⊎ AreInConflict r.architecture p q) in
    let one = here-at Both r.packages first is.1 in
    subst (All (IsOfPackage (length r.packages))) (sym same)
    (All-cons (IsOfPackage (length r.packages)) (not_installed first) (not_installed second ∷ []) (package-literal r first false Both is.1)
    (All-cons (IsOfPackage (length r.packages)) (not_installed second) []
    (package-literal r second false (λ q. (one.element.name ≡ q.name) ⊎ AreInConflict r.architecture one.element q) one.holds)
    (All-nil (IsOfPackage (length r.packages)))))
clause-in-range r (Required name) clause is (numbers, are, same) =
    subst (All (IsOfPackage (length r.packages))) (sym same) (numbers-in-range r (λ p. p.name ≡ name) numbers are)

-- values that are the same of the variables of a clause
made-alike : (value other : ℕ → Bool) (n : ℕ) (clause : List Literal) → ((v : ℕ) → 1 ≤ v → v ≤ n → value v ≡ other v)
    → All (IsOfPackage n) clause → MakesTrue value clause → MakesTrue other clause
made-alike value other n clause same range made =
    let within = All-contains (IsOfPackage n) clause made.1 range (made.0, made.2, made.3) in
    (made.0, made.1, made.2, made.3, sym (same made.1.variable within.0 within.1) ∙ made.4)

-- ---- what is known of the relations and their clauses

pub record Known (r : PackageList) (relations : List Demand) (clauses : List (List Literal)) : Type 0 where
  pub are : AreRelations r relations
  pub have : HaveClauses r relations clauses
  pub members : (values : List Bool) → AreMembersByValues r values
  pub values : (members : List Package) → AreOf r members → (values : List Bool) × AreValuesOf r members values
  pub models : (values : List Bool) → AreModelsBySelectors r relations clauses values
  pub explained : AreExplainedByNoModel r relations clauses
  pub healthy : AreModelsInstallations r false clauses

-- what is asked is a package of the repository, and its relations
pub record IsAsked (r : PackageList) (relations : List Demand) (asked : Asked) (p : Package) : Type 0 where
  pub packages : asked.packages ≡ length r.packages
  pub relation_count : asked.relations ≡ length relations
  pub from_one : 1 ≤ asked.number
  pub is : slice_get r.packages (asked.number - 1) ≡ Some p

module _ (r : PackageList) (relations : List Demand) (clauses : List (List Literal)) (known : Known r relations clauses) where
  n : ℕ
  n = length r.packages

  pub clauses-in-range : (place : ℕ) (clause : List Literal) → slice_get clauses place ≡ Some clause → All (IsOfPackage (length r.packages)) clause
  clauses-in-range place clause is =
      let here = here-at (λ d. IsClauseFor r d clause) relations place (known.have.each place clause is) in
      clause-in-range r here.element clause ((known.are.exact here.element).0 (contains-at relations place here.element here.is)) here.holds

  -- a model by listed variables is one by their truth values
  values-model : (members : List ℕ) (count : ℕ) → length r.packages + length clauses ≤ count
      → IsModel (is_among members) (selected_clauses r clauses) → IsModel (value_of (truth_of count members)) (selected_clauses r clauses)
  values-model members count enough model =
      selected-model (value_of (truth_of count members)) (length r.packages) clauses (λ place clause is.
      let short = slice_get_within clauses place clause is in
      elim (selected-at (is_among members) (length r.packages) clauses model place clause is) [
        | inl made ↦ inl (made-alike (is_among members) (value_of (truth_of count members)) (length r.packages) clause
            (λ v from upto. sym (value-among count members v from (omega (arith, upto, enough)))) (clauses-in-range place clause is) made)
        | inr off ↦ inr (value-among count members (length r.packages + place + 1) (omega arith) (omega (arith, short, enough)) ∙ off)
      ])

  -- where all selectors are listed, it is a model of the clauses themselves, of the values of the packages
  plain-model : (members : List ℕ) → ((number : ℕ) → 1 ≤ number → number ≤ length relations → Contains members (length r.packages + number))
      → IsModel (is_among members) (selected_clauses r clauses) → IsModel (value_of (truth_of (length r.packages) members)) clauses
  plain-model members all model = λ place d short.
      let clause = get_or clauses place d in
      let is : slice_get clauses place ≡ Some clause = slice_get-get_or clauses place d short in
      let count = known.have.one_each in
      elim (selected-at (is_among members) (length r.packages) clauses model place clause is) [
        | inl made ↦ made-alike (is_among members) (value_of (truth_of (length r.packages) members)) (length r.packages) clause
            (λ v from upto. sym (value-among (length r.packages) members v from upto)) (clauses-in-range place clause is) made
        | inr off ↦
            let on = any-from (length r.packages + (place + 1)) members (all (place + 1) (omega arith) (omega (arith, short, count))) in
            let same : length r.packages + (place + 1) ≡ length r.packages + place + 1 = omega arith in
            absurd (false≢true (sym off ∙ ap (is_among members) (sym same) ∙ on))
      ]

  module _ (asked : Asked) (p : Package) (is : IsAsked r relations asked p) (limit : ℕ) where
    back : asked.number - 1 + 1 ≡ asked.number
    back = let from = is.from_one in omega (arith, from)

    -- a refuted question of relations says that they explain the package
    pub refuted-explains : (question : List Word) (numbers : List ℕ) → Selects asked question numbers
        → IsSound (selected_clauses r clauses) limit (finding.Refuted question) → Explain r relations p numbers
    refuted-explains question numbers selects sound =
        (known.explained (asked.number - 1) p numbers is.is
        (all-contained (λ m. (1 ≤ m) × (m ≤ length relations)) numbers (λ m there.
        let range = All-contains (IsOfRelation asked) numbers m selects.in_range there in
        let count = is.relation_count in (range.0, omega (arith, range.1, count))))).1 none
      where
        word-true : (values : List Bool) → IsTrueLiteral (value_of values) (installed (asked.number - 1))
            → All (λ k. value_of values (selector r k) ≡ true) numbers → (word : Word) → Contains question word → value_of values word.0 ≡ word.1
        word-true values holds all word there = elim ((selects.exact word).0 there) [
          | inl here ↦ subst (λ (w : Word). value_of values w.0 ≡ w.1) (sym here) (ap (value_of values) (sym back) ∙ holds)
          | inr any ↦
              let m = any.1 in
              let inside = any-there (λ number. word ≡ yes (asked.packages + number)) numbers any in
              let on = All-contains (λ k. value_of values (selector r k) ≡ true) numbers m all inside in
              subst (λ (w : Word). value_of values w.0 ≡ w.1) (sym any.4) (ap (λ (k : ℕ). value_of values (k + m)) is.packages ∙ on)
        ]

        none : HasNoModel r clauses (asked.number - 1) numbers
        none values model holds all =
            sound (value_of values) model (all-contained (λ (word : Word). value_of values word.0 ≡ word.1) question (word-true values holds all))

    -- an installation with the package and all of them but one says that this one is needed
    pub shown-needed : (members numbers : List ℕ) (one : ℕ) → All (IsOfRelation asked) numbers → Explain r relations p numbers
        → IsSound (selected_clauses r clauses) limit (finding.Installed members) → Contains members asked.number
        → IsOnlyMissing numbers asked.packages members one → IsNeeded r relations p numbers one
    shown-needed members numbers one within explain model has only = record {
      members = there;
      of = of.of;
      has = has_p;
      fails = fails;
      no_other = all-contained (λ other. other ≢ one → ¬ FailsNumber r relations there other) numbers stands;
    }
      where
        count : ℕ
        count = length r.packages + length clauses

        values : List Bool
        values = truth_of count members

        there : List Package
        there = members_of r.packages values

        of : AreMembersByValues r values
        of = known.members values

        upto : asked.number ≤ length r.packages
        upto = let short = slice_get_within r.packages (asked.number - 1) p is.is in let from = is.from_one in omega (arith, short, from)

        has_p : Contains there p
        has_p = (of.exact (asked.number - 1) p is.is).1 (ap (value_of values) back
            ∙ value-among count members asked.number is.from_one (omega (arith, upto)) ∙ any-from asked.number members has)

        stands : (other : ℕ) → Contains numbers other → other ≢ one → ¬ FailsNumber r relations there other
        stands other inside apart failed =
            let range = All-contains (IsOfRelation asked) numbers other within inside in
            let also = is.relation_count in
            let same = known.have.one_each in
            let listed = All-contains (λ m. m ≢ one → Contains members (asked.packages + m)) numbers other only.others inside apart in
            let on = value-among count members (length r.packages + other) (omega (arith, range.0)) (omega (arith, range.1, also, same))
            ∙ ap (λ (k : ℕ). is_among members (k + other)) (sym is.packages) ∙ any-from (asked.packages + other) members listed in
            (known.models values).0 (values-model members count (omega arith) model) other failed.0 failed.1 on failed.2

        fails : FailsNumber r relations there one
        fails =
            let any = explain there of.of has_p in
            let inside = any-there (FailsNumber r relations there) numbers any in
            elim (cases_order any.1 one) [
              | inl same ↦ subst (FailsNumber r relations there) same any.4
              | inr apart ↦ absurd (stands any.1 inside (λ same. elim apart [
                | inl less ↦ omega (arith, less, same)
                | inr more ↦ omega (arith, more, same)
              ]) any.4)
            ]

    -- an installation with all relations is healthy
    pub installed-healthy : (members : List ℕ) → HasAll asked members → IsSound (selected_clauses r clauses) limit (finding.Installed members)
        → IsInstallable false r p
    installed-healthy members all model =
        let values = truth_of (length r.packages) members in
        let upto : asked.number ≤ length r.packages
        = let short = slice_get_within r.packages (asked.number - 1) p is.is in let from = is.from_one in omega (arith, short, from) in
        let count = is.relation_count in record {
          members = members_of r.packages values;
          healthy = known.healthy.healthy values (record {
            one_each = truth-length (length r.packages) members;
            model = plain-model members (λ number from within. subst (λ k. Contains members (k + number)) is.packages
                (all.has_selectors number (from, omega (arith, within, count)))) model;
          });
          holds = ((known.members values).exact (asked.number - 1) p is.is).1 (ap (value_of values) back
              ∙ value-among (length r.packages) members asked.number is.from_one upto ∙ any-from asked.number members all.has_package);
        }
