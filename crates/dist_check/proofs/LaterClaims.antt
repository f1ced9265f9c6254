-- What a claim of kind outdated or challenged without a fault says is true.
use Rattle.std.proofs.Common.{◌≡◌, ◌≢◌, ◌↔◌, ◌⊎◌, inl, inr, ⊎_elim, ℕ, ◌+◌, ◌-◌, ◌<◌, Bool, true, false, List, [], ◌∷◌, ◌++◌, length, map, not, Some, refl}
use Rattle.std.proofs.Common.{sym, ap, subst, ◌∙◌, append_assoc, arith, slice_get}
use Rattle.std.specs.List.{All, Contains}
use Rattle.std.proofs.lemmas.Bool.{cases_eq, false≢true}
use Rattle.std.proofs.lemmas.List.Elements.{All-append, All-nil, All-cons, All-head, All-tail, All-contains}
use Rattle.std.proofs.lemmas.List.Elements.{Contains-append_left, Contains-append_right, Contains-append_cases}
use Rattle.std.proofs.lemmas.List.{length-map}
use Rattle.std.proofs.lemmas.Option.{slice_get_within}
use Rattle.dist_base.specs.ListLaws.{all-contained, any-cases, any-contained, any-there, at-has, found-at, here-at, place-of}
use Rattle.dist_clause.specs.Formula.{Literal, negation, IsTrueLiteral, MakesTrue, IsModel, value_of}
use Rattle.dist_cluster.specs.Partition.{IsIn}
use Rattle.dist_cluster.specs.Relation.{AreClustered}
use Rattle.dist_classes.specs.Answers.{member_of}
use Rattle.dist_classes.specs.ClassList.{IsInOneClass, IsOfClass}
use Rattle.dist_classes.specs.declared.class_value.Class.{Class}
use Rattle.dist_repo.specs.Strong.{IsInstallable}
use Rattle.dist_repo.specs.declared.package.Package.{Package}
use Rattle.dist_space.specs.Space.{IsMeaning, IsSpace, SpaceView, cluster_classes, variable_of}
use Rattle.dist_space.specs.VariableLaws.{variable-range}
use Rattle.dist_space.specs.declared.meaning.Meaning.{Meaning}
use Rattle.dist_space.specs.declared.meaning.Meaning.TheVariants.{Now, Present, At}
use Rattle.dist_space_clauses.specs.SpaceClauses.{AreSpaceClauses}
use Rattle.dist_future.specs.Future.{IsAboveCluster}
use Rattle.dist_future.specs.Outdated.{Challenges, IsInstallableLater, IsOutdated}
use Rattle.dist_future.specs.Pairs as pairs
use Rattle.dist_future.specs.Pairs.{IsOfPair, TellOfPackage}
use Rattle.dist_future.specs.SpaceLaws.{HasModelWith, StandForFutures}
use Rattle.dist_cert.specs.declared.faults.CertCause.TheVariants as causes
use Rattle.dist_cert.specs.declared.records.CertKind.{CertKind}
use Rattle.dist_cert.specs.declared.records.CertKind.TheVariants as kinds
use Rattle.dist_cert.specs.declared.records.CertRecord.{CertRecord}
use Rattle.dist_cert.specs.declared.records.CertRecord.TheVariants as lines
use Rattle.dist_cert.specs.declared.records.Claim.{Claim}
use Rattle.dist_cert.specs.declared.records.Claim.TheVariants as claims
use Rattle.dist_cert.specs.declared.records.Header.{Header}
use Rattle.dist_cert.specs.Form.{Word, ArePairs, KeepsRules, record_text, HasForm}
use Rattle.dist_cert.specs.Groups.{clause_of, installations, installation_at, is_claim, claim_count, group, IsRefutedIn}
use Rattle.dist_cert.specs.GroupLaws.{all-at}
use Rattle.dist_cert.specs.ClaimRules as rules
use Rattle.dist_cert.specs.ClaimRules.{yes, claim_question, challenge_question, IsNamed, IsPairFor, SomeInstallation, HoldsChallenged, HoldsClaim}
use Rattle.dist_cert.specs.ListLaws.{any-from}
use Rattle.dist_cert.specs.LineRules.{IsNoFuture}
use Rattle.dist_cert.specs.Accepted.{pairs_from_zero, claim_in}
use Rattle.dist_cert.specs.Subject.{Matter}
use Rattle.dist_subject.specs.Installed.{AreModelsHealthy}
use Rattle.dist_subject.specs.Later.{later_matter}
use Rattle.dist_subject.specs.MemberLaws.{value-among}
use Rattle.dist_subject.specs.Present.{truth_of}
use Rattle.dist_subject.specs.TruthLaws.{truth-length}
use Rattle.dist_check.specs.Means.{IsOfListed, IsPairBeside, SaysChallenged, SaysOutdated, TellsPairs}
use Rattle.dist_judge.specs.LineLaws.{HaveForms}
use Rattle.dist_line_check.specs.LinesAt.{AreRight}
use Rattle.dist_line_check.specs.ToldLaws.{IsTold, stable, less-told, any-told, number-told, model-told}
use Rattle.dist_check.proofs.Places.{contains-map}
use Rattle.dist_line_check.specs.ModelLaws.{IsSoundRule, refuted-true}
use Rattle.dist_check.proofs.GroupLemmas.{group-behind, installation-healthy, line-of, recent-there}
use Rattle.dist_check.proofs.Counts.{next-claim}
use Rattle.dist_check.proofs.Claims.{named-told}
use Rattle.dist_check.proofs.TriedMarks.{up-pair}

-- the laws of dist_space, dist_future and dist_subject
pub record LaterLaws : Type 0 where
  pub now : (s : SpaceView) → IsSpace s → variable_of s Now ≡ 1
  pub stand : (s : SpaceView) (clauses : List (List Literal)) → IsSpace s → AreSpaceClauses s clauses → StandForFutures s clauses
  pub tell : (s : SpaceView) (clauses : List (List Literal)) (n : ℕ) (p : Package) → IsSpace s → AreSpaceClauses s clauses
      → slice_get s.repository.packages n ≡ Some p → TellOfPackage s clauses n p
  pub pairs_are : (s : SpaceView) (inputs : List (List Literal)) (number cluster class : ℕ) → IsSpace s
      → IsPairFor (later_matter s inputs) (number + 1) (cluster + 1, class + 1)
      ↔ (IsMeaning s (At cluster class) × (¬ IsIn s.clusters.members cluster number))
  pub covered : (s : SpaceView) (inputs : List (List Literal)) (members : List ℕ) (cluster class : ℕ) → IsSpace s → IsMeaning s (At cluster class)
      → rules.Covers (later_matter s inputs) (cluster + 1, class + 1) members
      ↔ pairs.Covers s (truth_of (length s.meanings) members) cluster class
  pub clusters : (s : SpaceView) (cluster m n : ℕ) (p q : Package) → IsSpace s → IsIn s.clusters.members cluster m
      → slice_get s.repository.packages m ≡ Some p → slice_get s.repository.packages n ≡ Some q
      → IsIn s.clusters.members cluster n ↔ AreClustered (member_of p) (member_of q)
  pub one_class : (s : SpaceView) (cluster m : ℕ) (q : Package) (version : List ℕ) → IsSpace s → IsIn s.clusters.members cluster m
      → slice_get s.repository.packages m ≡ Some q → IsAboveCluster s.repository q version → IsInOneClass (cluster_classes s cluster) version

-- Records without faults over the futures of a space, and the laws that tell what they mean.
pub record AreProvenLater (s : SpaceView) (inputs : List (List Literal)) (h : Header) (steps : List CertRecord) : Type 0 where
  pub laws : LaterLaws
  pub sound : IsSoundRule
  pub space : IsSpace s
  pub are_clauses : AreSpaceClauses s inputs
  pub healthy : AreModelsHealthy (later_matter s inputs)
  pub right : AreRight (later_matter s inputs) h steps
  pub forms : HaveForms steps
  pub later : h.kind ≢ kinds.Strong

-- ---- questions and literals

-- a question and the negations of its literals are not both true
never-both : (value : ℕ → Bool) (question : List Word) → All (λ (word : Word). value word.0 ≡ word.1) question
    → ¬ MakesTrue value (map negation (clause_of question))
never-both value [] all holds = omega (arith, holds.2)
never-both value (word ∷ question) all holds = ⊎_elim
    (λ here. opposite word.1 (sym (All-head (λ (w : Word). value w.0 ≡ w.1) word question all) ∙ here))
    (λ later. never-both value question (All-tail (λ (w : Word). value w.0 ≡ w.1) word question all) later)
    (any-cases (IsTrueLiteral value) (negation (record { variable = word.0; positive = word.1 })) (map negation (clause_of question)) holds)
  where
    opposite : (b : Bool) → b ≡ not b → ⊥
    opposite true e = false≢true (sym e)
    opposite false e = false≢true e

no-future : (matter : Matter) (kind : CertKind) (members : List ℕ) → kind ≢ kinds.Strong → ¬ matter.IsFuture members
    → IsNoFuture matter kind (lines.Installation members)
no-future matter kinds.Strong members other none = absurd (other refl)
no-future matter kinds.Outdated members other none = none
no-future matter kinds.Challenged members other none = none

-- the question that some meanings hold together
asks : SpaceView → List Meaning → List Word
asks s meanings = map (λ m. yes (variable_of s m)) meanings

true-words : (s : SpaceView) (value : ℕ → Bool) (meanings : List Meaning) → All (λ m. value (variable_of s m) ≡ true) meanings
    → All (λ (word : Word). value word.0 ≡ word.1) (asks s meanings)
unfolding asks
true-words s value [] all = All-nil (λ (word : Word). value word.0 ≡ word.1)
true-words s value (m ∷ meanings) all =
    All-cons (λ (word : Word). value word.0 ≡ word.1) (yes (variable_of s m)) (map (λ n. yes (variable_of s n)) meanings)
    (All-head (λ n. value (variable_of s n) ≡ true) m meanings all)
    (true-words s value meanings (All-tail (λ n. value (variable_of s n) ≡ true) m meanings all))

both-told : {A B : Type 0} → IsTold A → IsTold B → IsTold (A × B)
both-told (inl a) (inl b) = inl (a, b)
both-told (inr none) b = inr (λ both. none both.0)
both-told (inl a) (inr none) = inr (λ both. none both.1)

either-told : {A B : Type 0} → IsTold A → IsTold B → IsTold (A ⊎ B)
either-told (inl a) b = inl (inl a)
either-told (inr none) (inl b) = inl (inr b)
either-told (inr none) (inr never) = inr (λ e. ⊎_elim none never e)

-- whether one of a claim's installations has a variable
some-told : (before : List CertRecord) (named : List ℕ) (variable v : ℕ) → IsTold (SomeInstallation before named variable (λ members. Contains members v))
some-told before named variable v = either-told
    (any-told (λ number. Contains (installation_at before number) v) (λ number. number-told (installation_at before number) v) named)
    (any-told (λ (members : List ℕ). Contains members variable × Contains members v)
    (λ members. both-told (number-told members variable) (number-told members v)) (installations (group before)))

module _ (s : SpaceView) (inputs : List (List Literal)) (h : Header) (steps : List CertRecord) (x : AreProvenLater s inputs h steps) where
  abbrev matter : Matter
  matter = later_matter s inputs

  abbrev V : ℕ
  V = length s.meanings

  -- ---- installations

  -- an installation among the lines
  record IsThere (members : List ℕ) : Type 0 where
    front : List CertRecord
    some : List CertRecord
    after : List CertRecord
    is : steps ≡ (front ++ some) ++ after
    there : Contains (installations some) members

  future-there : (members : List ℕ) → IsThere members → ¬ (¬ matter.IsFuture members)
  future-there members i none =
      let line = line-of i.some members i.there in
      let whole : steps ≡ (i.front ++ line.before) ++ lines.Installation members ∷ (line.after ++ i.after)
      = i.is ∙ ap (λ (ls : List CertRecord). (i.front ++ ls) ++ i.after) line.is
      ∙ ap (λ (ls : List CertRecord). ls ++ i.after) (sym (append_assoc i.front line.before (lines.Installation members ∷ line.after)))
      ∙ append_assoc (i.front ++ line.before) (lines.Installation members ∷ line.after) i.after in
      x.right (i.front ++ line.before) (lines.Installation members) (line.after ++ i.after) whole causes.NotAFuture
      (no-future matter h.kind members x.later none)

  model-of : (members : List ℕ) → IsThere members → IsModel (value_of (truth_of V members)) inputs
  model-of members i = stable (model-told (value_of (truth_of V members)) inputs) (λ none.
      future-there members i (λ future.
      installation-healthy matter h steps x.right i.front i.some i.after members i.is i.there (λ healthy.
      none ((x.healthy.exactly members).0 (future, healthy)))))

  true-there : (members : List ℕ) (m : Meaning) → IsMeaning s m → Contains members (variable_of s m)
      → value_of (truth_of V members) (variable_of s m) ≡ true
  true-there members m is there =
      let range = variable-range s m x.space is in
      value-among V members (variable_of s m) range.0 range.1 ∙ any-from (variable_of s m) members there

  -- an installation with some meanings is a model with them
  has-model : (members : List ℕ) → IsThere members → (meanings : List Meaning)
      → All (λ m. value_of (truth_of V members) (variable_of s m) ≡ true) meanings → HasModelWith s inputs meanings
  has-model members i meanings all = record {
    values = truth_of V members;
    one_each = truth-length V members;
    model = model-of members i;
    true_meanings = all;
  }

  -- ---- refuted questions

  -- where its question is refuted, no model has the meanings
  no-model : (before : List CertRecord) (step : CertRecord) (after : List CertRecord) (question : List Word) (meanings : List Meaning)
      → steps ≡ before ++ step ∷ after → question ≡ asks s meanings → ¬ (¬ IsRefutedIn (group before) question) → ¬ HasModelWith s inputs meanings
  no-model before step after question meanings is same twice has =
      let behind = group-behind before in
      twice (λ refuted.
      never-both (value_of has.values) question
      (subst (λ q. All (λ (word : Word). value_of has.values word.0 ≡ word.1) q) (sym same)
      (true-words s (value_of has.values) meanings has.true_meanings))
      (refuted-true x.sound matter h steps x.right behind.front (group before) (step ∷ after) question
      (is ∙ ap (λ (ls : List CertRecord). ls ++ step ∷ after) behind.is) refuted (value_of has.values) has.model))

  one-less : (n : ℕ) → n + 1 - 1 ≡ n
  one-less n = omega arith

  present-is : (k : ℕ) → matter.present (k + 1) ≡ variable_of s (Present k)
  present-is k = ap (λ (n : ℕ). variable_of s (Present n)) (one-less k)

  at-is : (c j : ℕ) → matter.at (c + 1) (j + 1) ≡ variable_of s (At c j)
  at-is c j = ap (λ (n : ℕ). variable_of s (At n (j + 1 - 1))) (one-less c) ∙ ap (λ (n : ℕ). variable_of s (At c n)) (one-less j)

  alone-asks : (k : ℕ) → claim_question matter kinds.Outdated (k + 1) ≡ asks s (Present k ∷ [])
  unfolding asks
  alone-asks k = ap (λ (v : ℕ). yes v ∷ []) (present-is k)

  today-asks : (k : ℕ) → claim_question matter kinds.Challenged (k + 1) ≡ asks s (Now ∷ Present k ∷ [])
  unfolding asks
  today-asks k = ap (λ (v : ℕ). yes 1 ∷ yes v ∷ []) (present-is k)
      ∙ ap (λ (v : ℕ). yes v ∷ yes (variable_of s (Present k)) ∷ []) (sym (x.laws.now s x.space))

  pair-asks : (k c j : ℕ) → challenge_question matter (k + 1) (c + 1, j + 1) ≡ asks s (Present k ∷ At c j ∷ [])
  unfolding asks
  pair-asks k c j = ap (λ (v : ℕ). yes v ∷ yes (matter.at (c + 1) (j + 1)) ∷ []) (present-is k)
      ∙ ap (λ (v : ℕ). yes (variable_of s (Present k)) ∷ yes v ∷ []) (at-is c j)

  -- ---- kind outdated

  pub outdated-says : (before : List CertRecord) (step : CertRecord) (after : List CertRecord) (k : ℕ) (p : Package) → steps ≡ before ++ step ∷ after
      → slice_get s.repository.packages k ≡ Some p
      → ¬ (¬ IsRefutedIn (group before) (claim_question matter kinds.Outdated (k + 1))) → IsOutdated s.essential s.repository p
  outdated-says before step after k p is at twice =
      (x.laws.tell s inputs k p x.space x.are_clauses at).outdated.1
      (no-model before step after (claim_question matter kinds.Outdated (k + 1)) (Present k ∷ []) is (alone-asks k) twice)

  -- an installation that a claim names
  named-there : (before : List CertRecord) (step : CertRecord) (after : List CertRecord) (variable number : ℕ) → steps ≡ before ++ step ∷ after
      → IsNamed before variable number → IsThere (installation_at before number)
  named-there before step after variable number is named =
      record { front = []; some = before; after = step ∷ after; is = is; there = recent-there before number named.0 }

  present-true : (before : List CertRecord) (k number : ℕ) (p : Package) → slice_get s.repository.packages k ≡ Some p
      → IsNamed before (matter.present (k + 1)) number
      → value_of (truth_of V (installation_at before number)) (variable_of s (Present k)) ≡ true
  present-true before k number p at named =
      true-there (installation_at before number) (Present k) (slice_get_within s.repository.packages k p at)
      (subst (Contains (installation_at before number)) (present-is k) named.1)

  pub alive-says : (before : List CertRecord) (step : CertRecord) (after : List CertRecord) (k number : ℕ) (p : Package) → steps ≡ before ++ step ∷ after
      → slice_get s.repository.packages k ≡ Some p → IsNamed before (matter.present (k + 1)) number → IsInstallableLater s.essential s.repository p
  alive-says before step after k number p is at named =
      ((x.laws.stand s inputs x.space x.are_clauses).later k p at).0
      (has-model (installation_at before number) (named-there before step after (matter.present (k + 1)) number is named) (Present k ∷ [])
      (All-cons (λ m. value_of (truth_of V (installation_at before number)) (variable_of s m) ≡ true) (Present k) []
      (present-true before k number p at named) (All-nil (λ m. value_of (truth_of V (installation_at before number)) (variable_of s m) ≡ true))))

  -- ---- kind challenged

  pub not-installable-today : (before : List CertRecord) (step : CertRecord) (after : List CertRecord) (k : ℕ) (p : Package)
      → steps ≡ before ++ step ∷ after → slice_get s.repository.packages k ≡ Some p
      → ¬ (¬ IsRefutedIn (group before) (claim_question matter kinds.Challenged (k + 1))) → ¬ IsInstallable s.essential s.repository p
  not-installable-today before step after k p is at twice installable =
      no-model before step after (claim_question matter kinds.Challenged (k + 1)) (Now ∷ Present k ∷ []) is (today-asks k) twice
      (((x.laws.stand s inputs x.space x.are_clauses).today k p at).1 installable)

  class-there : (c j : ℕ) (q : Package) (version : List ℕ) → IsOfPair s c j q version → IsMeaning s (At c j)
  class-there c j q version of =
      let at = here-at (λ (class : Class). IsOfClass class version) (cluster_classes s c) j of.of_class in
      slice_get_within (cluster_classes s c) j at.element at.is

  module _ (before after : List CertRecord) (k : ℕ) (p : Package) (named : List ℕ) (by undecided : List (ℕ × ℕ))
      (is : steps ≡ before ++ lines.Challenged (k + 1) named by undecided ∷ after) (at : slice_get s.repository.packages k ≡ Some p)
      (keeps : KeepsRules (lines.Challenged (k + 1) named by undecided))
      (twice : ¬ (¬ HoldsChallenged matter before (k + 1) named by undecided)) where
    abbrev step : CertRecord
    step = lines.Challenged (k + 1) named by undecided

    each-named : (number : ℕ) → Contains named number → IsNamed before (matter.present (k + 1)) number
    each-named number there = stable (named-told before (matter.present (k + 1)) number)
        (λ none. twice (λ holds. none (All-contains (IsNamed before (matter.present (k + 1))) named number holds.names there)))

    in-group : (members : List ℕ) → Contains (installations (group before)) members → IsThere members
    in-group members there =
        let behind = group-behind before in record {
          front = behind.front;
          some = group before;
          after = step ∷ after;
          is = is ∙ ap (λ (ls : List CertRecord). ls ++ step ∷ after) behind.is;
          there = there;
        }

    package-there : IsMeaning s (Present k)
    package-there = slice_get_within s.repository.packages k p at

    -- two meanings of one installation
    both-true : (members : List ℕ) → IsThere members → Contains members 1 → Contains members (matter.present (k + 1))
        → HasModelWith s inputs (Now ∷ Present k ∷ [])
    both-true members i today present =
        let Holds : Meaning → Type 0 = λ m. value_of (truth_of V members) (variable_of s m) ≡ true in
        has-model members i (Now ∷ Present k ∷ [])
        (All-cons Holds Now (Present k ∷ []) (true-there members Now tt (subst (Contains members) (sym (x.laws.now s x.space)) today))
        (All-cons Holds (Present k) [] (true-there members (Present k) package-there (subst (Contains members) (present-is k) present)) (All-nil Holds)))

    -- an installation of today has the package
    today-model : HasModelWith s inputs (Now ∷ Present k ∷ [])
    today-model = ⊎_elim
        (λ one.
        let number : ℕ = one.1 in
        let among : Contains named number = (one.0, one.2, one.3) in
        let name = each-named number among in
        both-true (installation_at before number) (named-there before step after (matter.present (k + 1)) number is name) one.4 name.1)
        (λ one.
        let members : List ℕ = one.1 in
        both-true members (in-group members (one.0, one.2, one.3)) one.4.1 one.4.0)
        (stable (some-told before named (matter.present (k + 1)) 1) (λ none. twice (λ holds. none holds.today)))

    pub installable-today : IsInstallable s.essential s.repository p
    installable-today = ((x.laws.stand s inputs x.space x.are_clauses).today k p at).0 today-model

    -- the pairs that are listed are of the space
    beside : (c j : ℕ) → Contains (by ++ undecided) (c + 1, j + 1) → IsPairBeside s k (c, j)
    beside c j there = (
      stable (less-told j (length (cluster_classes s c))) (λ none. twice (λ holds. none (pair holds).0)),
      λ is_in. twice (λ holds. (pair holds).1 is_in),
    )
      where
        pair : HoldsChallenged matter before (k + 1) named by undecided → IsMeaning s (At c j) × (¬ IsIn s.clusters.members c k)
        pair holds = (x.laws.pairs_are s inputs k c j x.space).0
            (All-contains (IsPairFor matter (k + 1)) (by ++ undecided) (c + 1, j + 1) holds.pairs there)

    all-beside : (claimed_pairs : List (ℕ × ℕ)) → ArePairs claimed_pairs
        → ((pair : ℕ × ℕ) → Contains claimed_pairs pair → Contains (by ++ undecided) pair) → All (IsPairBeside s k) (pairs_from_zero claimed_pairs)
    all-beside claimed_pairs from_one among = all-contained (IsPairBeside s k) (pairs_from_zero claimed_pairs) (λ pair there.
        beside pair.0 pair.1 (among (pair.0 + 1, pair.1 + 1) (up-pair claimed_pairs pair from_one there)))

    down-pair : (claimed_pairs : List (ℕ × ℕ)) (c j : ℕ) → Contains claimed_pairs (c + 1, j + 1) → Contains (pairs_from_zero claimed_pairs) (c, j)
    down-pair claimed_pairs c j there =
        let e : (c + 1 - 1, j + 1 - 1) ≡ (c, j) = λ i. (one-less c i, one-less j i) in
        subst (Contains (pairs_from_zero claimed_pairs)) e (contains-map (λ (pair : ℕ × ℕ). (pair.0 - 1, pair.1 - 1)) claimed_pairs (c + 1, j + 1) there)

    listed : (c j : ℕ) (q : Package) (version : List ℕ) → IsOfPair s c j q version → Contains (pairs_from_zero by) (c, j)
        → Challenges s.essential s.repository q version p
    listed c j q version of there =
        let line = up-pair by (c, j) keeps.3 there in
        let outside = (beside c j (Contains-append_left by undecided (c + 1, j + 1) line)).1 in
        ((x.laws.tell s inputs k p x.space x.are_clauses at).challenged c j q version of outside).1 (
          today-model,
          no-model before step after (challenge_question matter (k + 1) (c + 1, j + 1)) (Present k ∷ At c j ∷ []) is (pair-asks k c j)
              (λ none. twice (λ holds. none (All-contains (λ pair. IsRefutedIn (group before) (challenge_question matter (k + 1) pair)) by (c + 1, j + 1)
              holds.refuted line))),
        )

    -- what a challenged version is not covered by
    never-covered : (c j : ℕ) (q : Package) (version : List ℕ) → IsOfPair s c j q version → Challenges s.essential s.repository q version p
        → (members : List ℕ) → IsThere members → Contains members (matter.present (k + 1)) → ¬ rules.Covers matter (c + 1, j + 1) members
    never-covered c j q version of challenges members i present covers =
        challenges.never ((x.laws.tell s inputs k p x.space x.are_clauses at).covered c j q version of (truth_of V members) (model-of members i)
        (true-there members (Present k) package-there (subst (Contains members) (present-is k) present))
        ((x.laws.covered s inputs members c j x.space (class-there c j q version of)).0 covers))

    unlisted : (c j : ℕ) (q : Package) (version : List ℕ) → IsOfPair s c j q version → (¬ IsIn s.clusters.members c k)
        → (¬ Contains (pairs_from_zero by) (c, j)) → (¬ Contains (pairs_from_zero undecided) (c, j)) → ¬ Challenges s.essential s.repository q version p
    unlisted c j q version of outside not_by not_undecided challenges = x.right before step after is causes.Incomplete (
      (c + 1, j + 1),
      (x.laws.pairs_are s inputs k c j x.space).1 (class-there c j q version of, outside),
      (λ among. ⊎_elim (λ here. not_by (down-pair by c j here)) (λ here. not_undecided (down-pair undecided c j here))
          (Contains-append_cases by undecided (c + 1, j + 1) among)),
      λ covered. ⊎_elim
          (λ one.
          let number : ℕ = one.1 in
          let name = each-named number (one.0, one.2, one.3) in
          never-covered c j q version of challenges (installation_at before number)
          (named-there before step after (matter.present (k + 1)) number is name) name.1 one.4)
          (λ one.
          let members : List ℕ = one.1 in
          never-covered c j q version of challenges members (in-group members (one.0, one.2, one.3)) one.4.0 one.4.1)
          covered,
    )

    -- the pair of a version that challenges
    record HasPair (q : Package) (version : List ℕ) : Type 0 where
      cluster : ℕ
      class : ℕ
      of : IsOfPair s cluster class q version
      outside : ¬ IsIn s.clusters.members cluster k

    its-pair : (q : Package) (version : List ℕ) → Challenges s.essential s.repository q version p → HasPair q version
    its-pair q version challenges =
        let own = place-of s.repository.packages q challenges.cluster in
        let short : own.place < length s.repository.packages = slice_get_within s.repository.packages own.place q own.is in
        let home = home-of own.place short in
        let class = x.laws.one_class s home.0 own.place q version x.space home.1 own.is challenges.above in
        record {
          cluster = home.0;
          class = class.number;
          of = record { member = own.place; in_cluster = home.1; is = own.is; is_version = challenges.above.is_version; of_class = class.holds };
          outside = λ here. challenges.outside ((x.laws.clusters s home.0 own.place k q p x.space home.1 own.is at).0 here);
        }
      where
        home-of : (m : ℕ) → m < length s.repository.packages → (c : ℕ) × IsIn s.clusters.members c m
        home-of m short =
            let every = x.space.frame.clusters.partition.every m (omega (arith, short, length-map s.repository.packages member_of)) in
            let found = found-at (λ (cluster : List ℕ). Contains cluster m) s.clusters.members every in
            (found.place, at-has (λ (cluster : List ℕ). Contains cluster m) s.clusters.members found.place found.element found.is found.holds)

    others : (q : Package) (version : List ℕ) → Challenges s.essential s.repository q version p
        → IsOfListed s (pairs_from_zero by ++ pairs_from_zero undecided) q version
    others q version challenges =
        let pair = its-pair q version challenges in
        let listed_pairs = pairs_from_zero by ++ pairs_from_zero undecided in
        let IsIt : ℕ × ℕ → Type 0 = λ one. (pair.cluster ≡ one.0) × (pair.class ≡ one.1) in
        let IsOf : ℕ × ℕ → Type 0 = λ one. IsOfPair s one.0 one.1 q version in
        elim (any-told IsIt (λ one. both-told (cases_eq pair.cluster one.0) (cases_eq pair.class one.1)) listed_pairs) [
          | inl any ↦ any-contained IsOf listed_pairs any.1 (any-there IsIt listed_pairs any)
              (subst (λ (c : ℕ). IsOfPair s c any.1.1 q version) any.4.0 (subst (λ (j : ℕ). IsOfPair s pair.cluster j q version) any.4.1 pair.of))
          | inr none ↦
              let never : Contains listed_pairs (pair.cluster, pair.class) → ⊥ =
              λ there. none (any-contained IsIt listed_pairs (pair.cluster, pair.class) there (refl, refl)) in
              absurd (unlisted pair.cluster pair.class q version pair.of pair.outside
              (λ there. never (Contains-append_left (pairs_from_zero by) (pairs_from_zero undecided) (pair.cluster, pair.class) there))
              (λ there. never (Contains-append_right (pairs_from_zero by) (pairs_from_zero undecided) (pair.cluster, pair.class) there)) challenges)
        ]

    pub tells-pairs : TellsPairs s k p (pairs_from_zero by) (pairs_from_zero undecided)
    tells-pairs = record {
      pairs = all-append (all-beside by keeps.3 (λ pair there. Contains-append_left by undecided pair there))
          (all-beside undecided keeps.4 (λ pair there. Contains-append_right by undecided pair there));
      listed = listed;
      unlisted = unlisted;
      others = others;
    }
      where
        all-append : All (IsPairBeside s k) (pairs_from_zero by) → All (IsPairBeside s k) (pairs_from_zero undecided)
            → All (IsPairBeside s k) (pairs_from_zero by ++ pairs_from_zero undecided)
        all-append first second = All-append (IsPairBeside s k) (pairs_from_zero by) (pairs_from_zero undecided) first second

  -- ---- any claim

  holds-twice : (kind : CertKind) → h.kind ≡ kind → (before : List CertRecord) (step : CertRecord) (after : List CertRecord)
      → steps ≡ before ++ step ∷ after → is_claim step ≡ true → ¬ (¬ HoldsClaim matter kind before step)
  holds-twice kind is_kind before step after is claim none =
      x.right before step after is causes.WrongClaim (claim, subst (λ k. ¬ HoldsClaim matter k before step) (sym is_kind) none)

  pub outdated-claim : h.kind ≡ kinds.Outdated → (before : List CertRecord) (step : CertRecord) (after : List CertRecord) (claim : Claim) (p : Package)
      → steps ≡ before ++ step ∷ after → claim_in step ≡ claim ∷ [] → slice_get s.repository.packages (claim_count before) ≡ Some p
      → SaysOutdated s.essential s.repository p claim
  outdated-claim kind before (lines.Question literals) after claim p is e at = cc
  outdated-claim kind before (lines.Derived literals hints) after claim p is e at = cc
  outdated-claim kind before (lines.Refuted hints) after claim p is e at = cc
  outdated-claim kind before (lines.Installation variables) after claim p is e at = cc
  outdated-claim kind before lines.Undecided after claim p is e at = cc
  outdated-claim kind before lines.End after claim p is e at = cc
  outdated-claim kind before (lines.NotInstallable n) after claim p is e at =
      absurd (holds-twice kinds.Outdated kind before (lines.NotInstallable n) after is refl (λ holds. holds))
  outdated-claim kind before (lines.Strong n named on undecided) after claim p is e at =
      absurd (holds-twice kinds.Outdated kind before (lines.Strong n named on undecided) after is refl (λ holds. holds))
  outdated-claim kind before (lines.Challenged n named by undecided) after claim p is e at =
      absurd (holds-twice kinds.Outdated kind before (lines.Challenged n named by undecided) after is refl (λ holds. holds))
  outdated-claim kind before (lines.Unknown n) after claim p is e at =
      let same : claims.Unknown ≡ claim = cc in
      subst (SaysOutdated s.essential s.repository p) same tt
  outdated-claim kind before (lines.Outdated n) after claim p is e at =
      let next = next-claim matter h steps x.right before (lines.Outdated n) after n is refl in
      let same : claims.Outdated ≡ claim = cc in
      let twice = holds-twice kinds.Outdated kind before (lines.Outdated n) after is refl in
      subst (SaysOutdated s.essential s.repository p) same (outdated-says before (lines.Outdated n) after (claim_count before) p is at
      (subst (λ k. ¬ (¬ IsRefutedIn (group before) (claim_question matter kinds.Outdated k))) next.0 twice))
  outdated-claim kind before (lines.Alive n number) after claim p is e at =
      let next = next-claim matter h steps x.right before (lines.Alive n number) after n is refl in
      let same : claims.Alive ≡ claim = cc in
      let named : IsNamed before (matter.present (claim_count before + 1)) number
      = stable (named-told before (matter.present (claim_count before + 1)) number)
      (subst (λ k. ¬ (¬ IsNamed before (matter.present k) number)) next.0
      (holds-twice kinds.Outdated kind before (lines.Alive n number) after is refl)) in
      subst (SaysOutdated s.essential s.repository p) same (alive-says before (lines.Alive n number) after (claim_count before) number p is at named)

  pub challenged-claim : h.kind ≡ kinds.Challenged → (before : List CertRecord) (step : CertRecord) (after : List CertRecord) (claim : Claim) (p : Package)
      → steps ≡ before ++ step ∷ after → claim_in step ≡ claim ∷ [] → slice_get s.repository.packages (claim_count before) ≡ Some p
      → SaysChallenged s (claim_count before) p claim
  challenged-claim kind before (lines.Question literals) after claim p is e at = cc
  challenged-claim kind before (lines.Derived literals hints) after claim p is e at = cc
  challenged-claim kind before (lines.Refuted hints) after claim p is e at = cc
  challenged-claim kind before (lines.Installation variables) after claim p is e at = cc
  challenged-claim kind before lines.Undecided after claim p is e at = cc
  challenged-claim kind before lines.End after claim p is e at = cc
  challenged-claim kind before (lines.Outdated n) after claim p is e at =
      absurd (holds-twice kinds.Challenged kind before (lines.Outdated n) after is refl (λ holds. holds))
  challenged-claim kind before (lines.Alive n i) after claim p is e at =
      absurd (holds-twice kinds.Challenged kind before (lines.Alive n i) after is refl (λ holds. holds))
  challenged-claim kind before (lines.Strong n named on undecided) after claim p is e at =
      absurd (holds-twice kinds.Challenged kind before (lines.Strong n named on undecided) after is refl (λ holds. holds))
  challenged-claim kind before (lines.Unknown n) after claim p is e at =
      let same : claims.Unknown ≡ claim = cc in
      subst (SaysChallenged s (claim_count before) p) same tt
  challenged-claim kind before (lines.NotInstallable n) after claim p is e at =
      let next = next-claim matter h steps x.right before (lines.NotInstallable n) after n is refl in
      let same : claims.Uninstallable ≡ claim = cc in
      let twice = holds-twice kinds.Challenged kind before (lines.NotInstallable n) after is refl in
      subst (SaysChallenged s (claim_count before) p) same (not-installable-today before (lines.NotInstallable n) after (claim_count before) p is at
      (subst (λ k. ¬ (¬ IsRefutedIn (group before) (claim_question matter kinds.Challenged k))) next.0 twice))
  challenged-claim kind before (lines.Challenged n named by undecided) after claim p is e at =
      let k = claim_count before in
      let next = next-claim matter h steps x.right before (lines.Challenged n named by undecided) after n is refl in
      let same : claims.Challenged (pairs_from_zero by) (pairs_from_zero undecided) ≡ claim = cc in
      let form = all-at (λ l. HasForm (record_text l) l) steps before (lines.Challenged n named by undecided) after is x.forms in
      let twice : ¬ (¬ HoldsChallenged matter before (k + 1) named by undecided)
      = subst (λ i. ¬ (¬ HoldsChallenged matter before i named by undecided)) next.0
      (holds-twice kinds.Challenged kind before (lines.Challenged n named by undecided) after is refl) in
      let keeps : KeepsRules (lines.Challenged (k + 1) named by undecided) =
      subst (λ i. KeepsRules (lines.Challenged i named by undecided)) next.0 form.rules in
      let is_k : steps ≡ before ++ lines.Challenged (k + 1) named by undecided ∷ after
      = subst (λ i. steps ≡ before ++ lines.Challenged i named by undecided ∷ after) next.0 is in
      subst (SaysChallenged s k p) same (
        installable-today before after k p named by undecided is_k at keeps twice,
        tells-pairs before after k p named by undecided is_k at keeps twice,
      )
