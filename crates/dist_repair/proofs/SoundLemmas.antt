-- What the findings of an accepted file prove.
use Rattle.std.proofs.Common.{◌≡◌, ◌↔◌, inl, inr, ℕ, ◌+◌, ◌-◌, ◌<◌, ◌≤◌, ◌^◌, Bool, true, false, List, [], ◌∷◌, Some, None}
use Rattle.std.proofs.Common.{length, get_or, refl, sym, ap, subst, ◌∙◌, arith, slice_get}
use Rattle.std.specs.Prelude.{All, Contains}
use Rattle.std.specs.List.{range_with_len}
use Rattle.std.proofs.lemmas.Bool.{cases_Bool, cases_lt, cond-false, cond-true, false≢true, true≢false}
use Rattle.std.proofs.lemmas.List.Elements.{All-cons, All-contains, All-nil, Contains-append_cases, Contains-append_right, filter_agree}
use Rattle.std.proofs.lemmas.Option.{slice_get_within}
use Rattle.dist_base.specs.ListLaws.{all-contained}
use Rattle.dist_clause.specs.Formula.{Literal, IsModel, MakesTrue, literal, value_of}
use Rattle.dist_cert.specs.ClaimRules.{no, yes}
use Rattle.dist_cert.specs.Form.{Word}
use Rattle.dist_cert.specs.Groups.{clause_of}
use Rattle.dist_cert.specs.ListLaws.{contains-cases, contains-later}
use Rattle.dist_cert.specs.Rising.{is_among}
use Rattle.dist_future.specs.Moved.{IsAtClass, TellOfMoves}
use Rattle.dist_future.specs.SpaceLaws.{holds_under}
use Rattle.dist_repo.specs.declared.package.Package.{Package}
use Rattle.dist_space.specs.ClusterLaws.{has-cluster}
use Rattle.dist_space.specs.Space.{IsSpace, SpaceView, cluster_classes, variable_of}
use Rattle.dist_space.specs.VariableLaws.{variable-range}
use Rattle.dist_space.specs.declared.meaning.Meaning.TheVariants.{Present, At}
use Rattle.dist_subject.specs.MemberLaws.{value-among}
use Rattle.dist_subject.specs.Present.{truth_of}
use Rattle.dist_subject.specs.TruthLaws.{truth-length}
use Rattle.dist_findings.specs.SoundLaws.{IsSound}
use Rattle.dist_findings.specs.declared.finding.Finding.{Finding}
use Rattle.dist_findings.specs.declared.finding.Finding.TheVariants.{Refuted, LeftUndecided, Installed}
use Rattle.dist_repair.specs.Answered.{Answers, Asked, AsksAlone, AsksAt, IsLeft, IsLeftAt, IsLower, IsRefuted, IsUpper, beyond, clusters_under, installed}
use Rattle.dist_repair.specs.Answered.{installed_in, is_at_class, moved_in, own, values_in}
use Rattle.dist_repair.specs.Counters.{AreAtClass, CountedModelsTell, ModelsTellMoves, counted_clauses, counted_variables, counter_clauses, counter_of, more}
use Rattle.dist_repair.specs.Means.{IsBound, IsPlan, Says}
use Rattle.dist_repair.specs.Repair.{IsPossible}
use Rattle.dist_repair.specs.Verdicts.{IsOver, is_undecided}
use Rattle.dist_repair.specs.declared.repair.Repair.{Repair}
use Rattle.dist_repair.specs.declared.repair.Repair.TheVariants as repair
use Rattle.dist_repair.proofs.BelowLemmas.{all-left}
use Rattle.dist_repair.proofs.HardLemmas.{cone-bound, counted-over, more-range}
use Rattle.dist_repair.proofs.ModelLemmas.{any-model, at-most}
use Rattle.dist_repair.proofs.OverLemmas as range
use Rattle.dist_repair.proofs.RangeLemmas.{passing-exact, passing-rise, same-any, some-below}

-- ---- installations with the package

in-installed : (s : SpaceView) (asked : Asked) (f : Finding) (members : List ℕ) → Contains (installed_in s asked f) members
    → (f ≡ Installed members) × (is_among members (own s asked) ≡ true)
in-installed s asked (Installed others) members there = elim (cases_Bool (is_among others (own s asked))) [
  | inl has ↦ elim (contains-cases others [] members (subst (λ xs. Contains xs members)
      (cond-true (is_among others (own s asked)) (others ∷ []) [] has) there)) [
        | inl here ↦ (ap (λ (ms : List ℕ). Installed ms) here, subst (λ (ms : List ℕ). is_among ms (own s asked) ≡ true) here has)
        | inr later ↦ absurd (omega (arith, later.1))
      ]
  | inr none ↦ absurd (nowhere (subst (λ xs. Contains xs members) (cond-false (is_among others (own s asked)) (others ∷ []) [] none) there))
]
  where
    nowhere : ¬ Contains [] members
    nowhere at = omega (arith, at.1)
in-installed s asked (Refuted question) members there = absurd (omega (arith, there.1))
in-installed s asked (LeftUndecided question) members there = absurd (omega (arith, there.1))

found-installed : (s : SpaceView) (asked : Asked) (found : List Finding) (members : List ℕ) → Contains (installed s asked found) members
    → Contains found (Installed members) × (is_among members (own s asked) ≡ true)
found-installed s asked [] members there = absurd (omega (arith, there.1))
found-installed s asked (f ∷ found) members there = elim (Contains-append_cases (installed_in s asked f) (installed s asked found) members there) [
  | inl here ↦ let at = in-installed s asked f members here in ((0, omega arith, at.0), at.1)
  | inr later ↦ let at = found-installed s asked found members later in (contains-later f found (Installed members) at.0, at.1)
]

-- ---- values

-- two assignments that agree on the variables from 1 to n have the same models of clauses over them
alike : (value other : ℕ → Bool) (n : ℕ) → ((v : ℕ) → 1 ≤ v → v ≤ n → value v ≡ other v) → (clauses : List (List Literal))
    → All (range.IsOver n) clauses → IsModel value clauses → IsModel other clauses
alike value other n same clauses over model = all-contained (MakesTrue other) clauses (λ clause there.
    clause-alike clause (All-contains (range.IsOver n) clauses clause over there) (All-contains (MakesTrue value) clauses clause model there))
  where
    clause-alike : (clause : List Literal) → range.IsOver n clause → MakesTrue value clause → MakesTrue other clause
    clause-alike clause inside made =
        let l : Literal = made.1 in
        let here : get_or clause made.0 l ≡ l = made.3 in
        let from = subst (λ (x : Literal). (1 ≤ x.variable) × (x.variable ≤ n)) here (inside made.0 l made.2) in
        (made.0, l, made.2, made.3, sym (same l.variable from.0 from.1) ∙ made.4)

module _ (s : SpaceView) (space : IsSpace s) where
  at-class : (values : List Bool) (c : ℕ) → (is_at_class s (value_of values) c ≡ true) ↔ IsAtClass s values c
  at-class values c = some-below (λ k. value_of values (variable_of s (At c k))) (length (cluster_classes s c))

  clusters-at : (values : List Bool) → AreAtClass s values (clusters_under s (value_of values))
  clusters-at values = record {
    rising = passing-rise (is_at_class s (value_of values)) (length s.clusters.members);
    exact = λ c. (
      (λ there. let both = (passing-exact (is_at_class s (value_of values)) (length s.clusters.members) c).0 there in
          (both.0, (at-class values c).0 both.1)),
      λ both. (passing-exact (is_at_class s (value_of values)) (length s.clusters.members) c).1 (both.0, (at-class values c).1 both.1),
    );
  }

  -- the values of an installation
  same-clusters : (n : ℕ) (members : List ℕ) → length s.meanings ≤ n
      → clusters_under s (is_among members) ≡ clusters_under s (value_of (truth_of n members))
  same-clusters n members wide = filter_agree (is_at_class s (is_among members)) (is_at_class s (value_of (truth_of n members)))
      (λ c. same-any (λ k. is_among members (variable_of s (At c k))) (λ k. value_of (truth_of n members) (variable_of s (At c k)))
      (length (cluster_classes s c)) (λ k short.
      let in_space = variable-range s (At c k) space short in
      sym (value-among n members (variable_of s (At c k)) in_space.0 (omega (arith, in_space.1, wide)))))
      (range_with_len 0 (length s.clusters.members))

  module _ (clauses : List (List Literal)) (over : All (range.IsOver (length s.meanings)) clauses) (asked : Asked) (p : Package)
      (is : slice_get s.repository.packages asked.number ≡ Some p) (tell : TellOfMoves s clauses) (tells : ModelsTellMoves s clauses)
      (counted : CountedModelsTell s clauses asked.most) (limit : ℕ) (found : List Finding)
      (sound : All (IsSound (counted_clauses s clauses asked.most) limit) found) where
    refuted-false : (question : List Word) → Contains found (Refuted question) → (values : List Bool)
        → IsModel (value_of values) (counted_clauses s clauses asked.most) → ¬ All (λ word. value_of values word.0 ≡ word.1) question
    refuted-false question there values =
        All-contains (IsSound (counted_clauses s clauses asked.most) limit) found (Refuted question) sound there (value_of values)

    outdated-none : IsRefuted (AsksAlone s asked) found → (number : ℕ) → ¬ IsPossible s p number
    outdated-none (question, asks, there) number (numbers, by, count) =
        let model = any-model s space clauses asked.most tell tells asked.number p numbers over is by in
        let True : Word → Type 0 = λ word. value_of model.values word.0 ≡ word.1 in
        refuted-false question there model.values model.model
        (subst (All True) (sym asks) (All-cons True (yes (own s asked)) [] model.holds (All-nil True)))

    lower-bound : (lower : ℕ) → IsLower s asked found lower → IsBound s p lower
    lower-bound lower low number less (numbers, by, count) = elim low.shown [
      | inl none ↦ omega (arith, none, less)
      | inr at ↦ below at.0 at.1 at.2 at.3
    ]
      where
        below : (j : ℕ) → lower ≡ j + 1 → j ≤ asked.most → IsRefuted (AsksAt s asked j) found → ⊥
        below j up upto (question, asks, there) =
            let model = (counted asked.number p j is upto).1 (numbers, by, omega (arith, less, up, count)) in
            let True : Word → Type 0 = λ word. value_of model.values word.0 ≡ word.1 in
            let last : model.last ≡ length s.clusters.members - 1 = omega (arith, model.is_last) in
            let kept : value_of model.values (beyond s asked j) ≡ false =
            subst (λ (c : ℕ). value_of model.values (more (counter_of s asked.most) c j) ≡ false) last model.kept in
            refuted-false question there model.values model.model (elim asks [
              | inl first ↦ subst (All True) (sym first)
                  (All-cons True (yes (own s asked)) (no (beyond s asked j) ∷ []) model.holds (All-cons True (no (beyond s asked j)) [] kept (All-nil True)))
              | inr second ↦ subst (All True) (sym second)
                  (All-cons True (no (beyond s asked j)) (yes (own s asked) ∷ []) kept (All-cons True (yes (own s asked)) [] model.holds (All-nil True)))
            ])

    upper-plan : (number : ℕ) (values : List Bool) → IsUpper s asked (installed s asked found) (Some (number, values)) → IsPlan s p number values
    upper-plan number values (members, first, count, values_are) =
        let there : Contains (installed s asked found) members = subst (λ all. Contains all members) (sym first.stands)
        (Contains-append_right first.earlier (members ∷ first.later) members (0, omega arith, refl)) in
        let at = found-installed s asked found members there in
        let model : IsModel (is_among members) (counted_clauses s clauses asked.most) =
        All-contains (IsSound (counted_clauses s clauses asked.most) limit) found (Installed members) sound at.0 in
        let front = all-left (MakesTrue (is_among members)) clauses (counter_clauses s (counter_of s asked.most)) model in
        let wide : length s.meanings ≤ counted_variables (counter_of s asked.most) = omega arith in
        let same : (v : ℕ) → 1 ≤ v → v ≤ length s.meanings → is_among members v ≡ value_of (values_in s asked members) v =
        λ v from upto. sym (value-among (counted_variables (counter_of s asked.most)) members v from (omega (arith, upto, wide))) in
        let space_model = alike (is_among members) (value_of (values_in s asked members)) (length s.meanings) same clauses over front in
        let in_space = variable-range s (Present asked.number) space (slice_get_within s.repository.packages asked.number p is) in
        let holds : holds_under s (values_in s asked members) (Present asked.number) ≡ true =
        sym (same (own s asked) in_space.0 in_space.1) ∙ at.1 in
        let by = tells (values_in s asked members) asked.number p (clusters_under s (value_of (values_in s asked members))) space_model is holds
        (clusters-at (values_in s asked members)) in
        let size : number ≡ length (clusters_under s (value_of (values_in s asked members))) =
        count ∙ ap (λ (cs : List ℕ). length cs) (same-clusters (counted_variables (counter_of s asked.most)) members wide) in
        subst (IsPlan s p number) (sym values_are) (record {
          possible = (clusters_under s (value_of (values_in s asked members)), by.by, sym size);
          count = size;
          installable = by;
        })

    pub answers-say : (repair : Repair) → Answers s asked found repair → Says s p repair
    answers-say repair.Outdated is_refuted = outdated-none is_refuted
    answers-say (repair.Least number values) (alive, low, up) = (upper-plan number values up, lower-bound number low)
    answers-say (repair.AtLeast lower true None) (alive, low, up, ends) = (lower-bound lower low, tt, λ sure. absurd (true≢false sure))
    answers-say (repair.AtLeast lower true (Some upper)) (alive, low, up, ends) =
        (lower-bound lower low, upper-plan upper.0 upper.1 up, λ sure. absurd (true≢false sure))
    answers-say (repair.AtLeast lower false None) (alive, low, up, ends) = absurd ends
    answers-say (repair.AtLeast lower false (Some upper)) (alive, low, up, ends) = (lower-bound lower low, upper-plan upper.0 upper.1 up, λ sure. refl)

    -- ---- the bounds

    pub bounds-order : (lower : ℕ) (upper : ℕ × List Bool) → IsLower s asked found lower → IsUpper s asked (installed s asked found) (Some upper)
        → lower ≤ upper.0
    bounds-order lower upper low up = elim (cases_lt upper.0 lower) [
      | inl less ↦ absurd (lower-bound lower low upper.0 less (upper-plan upper.0 upper.1 up).possible)
      | inr more_of ↦ more_of
    ]

    -- an installation in which no more than j of all clusters have moved
    pub moved-most : (members : List ℕ) (j : ℕ) → Contains found (Installed members) → j ≤ asked.most
        → is_among members (beyond s asked j) ≡ false → moved_in s members ≤ j
    moved-most members j there upto kept =
        let total = counted_variables (counter_of s asked.most) in
        let values : List Bool = truth_of total members in
        let has = has-cluster s space.frame asked.number (slice_get_within s.repository.packages asked.number p is) in
        let short = has.within in
        let last : length s.clusters.members ≡ length s.clusters.members - 1 + 1 = omega (arith, short) in
        let model : IsModel (is_among members) (counted_clauses s clauses asked.most) =
        All-contains (IsSound (counted_clauses s clauses asked.most) limit) found (Installed members) sound there in
        let same : (v : ℕ) → 1 ≤ v → v ≤ total → is_among members v ≡ value_of values v = λ v from to. sym (value-among total members v from to) in
        let whole = alike (is_among members) (value_of values) total same (counted_clauses s clauses asked.most)
        (counted-over s space clauses asked.most over) model in
        let place = more-range (counter_of s asked.most) (length s.clusters.members - 1) j (omega (arith, short)) upto in
        let off : value_of values (beyond s asked j) ≡ false = sym (same (beyond s asked j) place.0 place.1) ∙ kept in
        let few = at-most s space clauses asked.most tell tells values (clusters_under s (value_of values)) (length s.clusters.members - 1) j last upto
        whole off (clusters-at values) in
        let size = ap (λ (cs : List ℕ). length cs) (same-clusters total members (omega arith)) in
        omega (arith, few, size)

    -- ---- what is left undecided

    last-cluster : length s.clusters.members - 1 < length s.clusters.members
    last-cluster =
        let has = has-cluster s space.frame asked.number (slice_get_within s.repository.packages asked.number p is) in
        let short = has.within in omega (arith, short)

    hard-question : (question : List Word) → range.IsOver (counted_variables (counter_of s asked.most)) (clause_of question)
        → Contains found (LeftUndecided question) → limit ≤ 3 ^ counted_variables (counter_of s asked.most)
    hard-question question within there = cone-bound (counted_variables (counter_of s asked.most)) (counted_clauses s clauses asked.most)
        (clause_of question) limit (counted-over s space clauses asked.most over) within
        (All-contains (IsSound (counted_clauses s clauses asked.most) limit) found (LeftUndecided question) sound there)

    abbrev InAll : Literal → Type 0
    InAll l = (1 ≤ l.variable) × (l.variable ≤ counted_variables (counter_of s asked.most))

    own-range : InAll (literal (own s asked) true)
    own-range =
        let in_space = variable-range s (Present asked.number) space (slice_get_within s.repository.packages asked.number p is) in
        (in_space.0, omega (arith, in_space.1))

    hard-alone : IsLeft (AsksAlone s asked) found → limit ≤ 3 ^ counted_variables (counter_of s asked.most)
    hard-alone (question, asks, there) = hard-question question
        (subst (λ (q : List Word). range.IsOver (counted_variables (counter_of s asked.most)) (clause_of q)) (sym asks)
        (All-cons InAll (literal (own s asked) true) [] own-range (All-nil InAll))) there

    hard-at : (j : ℕ) → IsLeftAt s asked found j → limit ≤ 3 ^ counted_variables (counter_of s asked.most)
    hard-at j (upto, (question, asks, there)) = hard-question question (elim asks [
      | inl first ↦ subst (λ (q : List Word). range.IsOver (counted_variables (counter_of s asked.most)) (clause_of q)) (sym first)
          (All-cons InAll (literal (own s asked) true) (literal (beyond s asked j) false ∷ []) own-range
          (All-cons InAll (literal (beyond s asked j) false) [] beyond_range (All-nil InAll)))
      | inr second ↦ subst (λ (q : List Word). range.IsOver (counted_variables (counter_of s asked.most)) (clause_of q)) (sym second)
          (All-cons InAll (literal (beyond s asked j) false) (literal (own s asked) true ∷ []) beyond_range
          (All-cons InAll (literal (own s asked) true) [] own-range (All-nil InAll)))
    ]) there
      where
        beyond_range : InAll (literal (beyond s asked j) false)
        beyond_range = more-range (counter_of s asked.most) (length s.clusters.members - 1) j last-cluster upto

    pub answers-hard : (repair : Repair) → Answers s asked found repair → is_undecided repair ≡ true
        → limit ≤ 3 ^ counted_variables (counter_of s asked.most)
    answers-hard repair.Outdated is_refuted open_one = absurd (false≢true open_one)
    answers-hard (repair.Least number values) answers open_one = absurd (false≢true open_one)
    answers-hard (repair.AtLeast lower true None) (alive, low, up, (ends, left)) open_one = hard-alone left
    answers-hard (repair.AtLeast lower true (Some upper)) (alive, low, up, (differ, left)) open_one = hard-at lower left
    answers-hard (repair.AtLeast lower false upper) answers open_one = absurd (false≢true open_one)

-- the assignments of an answer are over all variables
over-all : (s : SpaceView) (asked : Asked) (all : List (List ℕ)) (number : ℕ) (values : List Bool) → IsUpper s asked all (Some (number, values))
    → length values ≡ counted_variables (counter_of s asked.most)
over-all s asked all number values (members, first, count, values_are) =
    ap (λ (vs : List Bool). length vs) values_are ∙ truth-length (counted_variables (counter_of s asked.most)) members

pub answers-over : (s : SpaceView) (asked : Asked) (found : List Finding) (repair : Repair) → Answers s asked found repair
    → IsOver (counted_variables (counter_of s asked.most)) repair
answers-over s asked found repair.Outdated is = tt
answers-over s asked found (repair.Least number values) is = over-all s asked (installed s asked found) number values is.2
answers-over s asked found (repair.AtLeast lower undecided None) is = tt
answers-over s asked found (repair.AtLeast lower undecided (Some upper)) is = over-all s asked (installed s asked found) upper.0 upper.1 is.2
