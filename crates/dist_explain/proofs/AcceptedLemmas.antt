-- What an accepted file proves of its package.
use Rattle.std.proofs.Common.{◌≡◌, ◌≢◌, ◌⊎◌, ◌↔◌, inl, inr, ℕ, ◌+◌, ◌-◌, ◌<◌, ◌≤◌, ◌^◌, false, List, [], ◌∷◌, ◌++◌}
use Rattle.std.proofs.Common.{length, refl, sym, subst, arith}
use Rattle.std.specs.Prelude.{All, Any, Contains}
use Rattle.std.proofs.lemmas.Option.{get_or_from_slice_get, slice_get_within}
use Rattle.std.proofs.lemmas.List.Elements.{All-cons, All-contains, All-head, All-push, All-tail, All-weaker}
use Rattle.std.proofs.lemmas.List.Elements.{Contains-append_cases, Contains-append_left}
use Rattle.std.proofs.lemmas.List.Elements.{Contains-append_right}
use Rattle.dist_base.specs.ListLaws.{all-contained, any-contained, any-there, element-at}
use Rattle.dist_clause.specs.Formula.{Literal, literal}
use Rattle.dist_cert.specs.ClaimRules.{yes}
use Rattle.dist_cert.specs.Form.{Word}
use Rattle.dist_cert.specs.ListLaws.{contains-later}
use Rattle.dist_repo.specs.PackageList.{PackageList}
use Rattle.dist_repo.specs.declared.package.Package.{Package}
use Rattle.dist_now.specs.PresentClauses.{Demand}
use Rattle.dist_explain.specs.Answered.{Answers, AreDecided, AreLast, IsOfRelation, LeavesAllOpen, LeavesOpen, Selects}
use Rattle.dist_explain.specs.Answered.{ShowsAll, ShowsNeeded}
use Rattle.dist_explain.specs.Explanation.{Explain, FailsNumber, IsNeeded}
use Rattle.dist_explain.specs.Selectors.{selected, selected_clauses}
use Rattle.dist_explain.specs.Verdicts.{HasNoMark, IsBroken, IsTrueOf}
use Rattle.dist_explain.specs.declared.asked.Asked.{Asked}
use Rattle.dist_explain.specs.declared.explained.Explained.{Explained}
use Rattle.dist_explain.specs.declared.explained.Explained.TheVariants.{Installable, Undecided, Broken}
use Rattle.dist_explain.proofs.ConeLemmas.{IsUpto, hard-bound}
use Rattle.dist_explain.proofs.ConnectedLemmas.{connected}
use Rattle.dist_explain.proofs.MeaningLemmas.{IsAsked, Known, clauses-in-range, installed-healthy, refuted-explains}
use Rattle.dist_explain.proofs.MeaningLemmas.{shown-needed}
use Rattle.dist_findings.specs.SoundLaws.{IsSound}
use Rattle.dist_findings.specs.declared.finding.Finding.{Finding}
use Rattle.dist_findings.specs.declared.finding.Finding.TheVariants as finding

-- ---- the relations that are decided

-- they are those of both lists
decided-ones : (asked : Asked) (numbers : List ℕ) (later : List Finding) (needed undecided : List ℕ) → AreDecided asked numbers later needed undecided
    → (one : ℕ) → Contains numbers one ↔ Contains (needed ++ undecided) one
decided-ones asked numbers later needed undecided decided one = (
  (λ there. elim (All-contains (λ n. Contains needed n ⊎ Contains undecided n) numbers one decided.each there) [
    | inl here ↦ Contains-append_left needed undecided one here
    | inr here ↦ Contains-append_right needed undecided one here
  ]),
  (λ some. elim (Contains-append_cases needed undecided one some) [
    | inl here ↦ shown ((decided.needed_are one).0 here)
    | inr here ↦ left ((decided.undecided_are one).0 here).0
  ]),
)
  where
    shows : (f : Finding) → ShowsNeeded asked numbers one f → Contains numbers one
    shows (finding.Installed members) is = is.1.there
    shows (finding.Refuted question) is = absurd is
    shows (finding.LeftUndecided question) is = absurd is

    leaves : (f : Finding) → LeavesOpen asked numbers one f → Contains numbers one
    leaves (finding.LeftUndecided question) is = is.2.there
    leaves (finding.Installed members) is = absurd is
    leaves (finding.Refuted question) is = absurd is

    shown : Any (ShowsNeeded asked numbers one) later → Contains numbers one
    shown any = shows any.1 any.4

    left : Any (LeavesOpen asked numbers one) later → Contains numbers one
    left any = leaves any.1 any.4

-- relations that are the same explain the same
explain-same : (r : PackageList) (relations : List Demand) (p : Package) (numbers others : List ℕ) → ((one : ℕ) → Contains numbers one → Contains others one)
    → Explain r relations p numbers → Explain r relations p others
explain-same r relations p numbers others to explain members of has =
    let any = explain members of has in
    any-contained (FailsNumber r relations members) others any.1 (to any.1 (any-there (FailsNumber r relations members) numbers any)) any.4

needed-same : (r : PackageList) (relations : List Demand) (p : Package) (numbers others : List ℕ) (one : ℕ)
    → ((n : ℕ) → Contains others n → Contains numbers n) → IsNeeded r relations p numbers one → IsNeeded r relations p others one
needed-same r relations p numbers others one back needed = record {
  members = needed.members;
  of = needed.of;
  has = needed.has;
  fails = needed.fails;
  no_other = all-contained (λ other. other ≢ one → ¬ FailsNumber r relations needed.members other) others
      (λ n there. All-contains (λ other. other ≢ one → ¬ FailsNumber r relations needed.members other) numbers n needed.no_other (back n there));
}

-- ---- the bound

-- the clauses with selectors are over the packages and the relations
selected-upto : (n last : ℕ) (clauses : List (List Literal)) → last + length clauses ≤ n → All (λ clause. All (λ l. IsUpto n l.variable) clause) clauses
    → All (λ clause. All (λ l. IsUpto n l.variable) clause) (selected last clauses)
unfolding selected
selected-upto n last [] enough within = λ k d short. absurd (omega (arith, short))
selected-upto n last (c ∷ clauses) enough within =
    All-cons (λ clause. All (λ l. IsUpto n l.variable) clause) (c ++ literal (last + 1) false ∷ []) (selected (last + 1) clauses)
    (All-push (λ l. IsUpto n l.variable) c (literal (last + 1) false) (All-head (λ clause. All (λ l. IsUpto n l.variable) clause) c clauses within)
    (omega arith, omega (arith, enough)))
    (selected-upto n (last + 1) clauses (omega (arith, enough)) (All-tail (λ clause. All (λ l. IsUpto n l.variable) clause) c clauses within))

module _ (r : PackageList) (relations : List Demand) (clauses : List (List Literal)) (known : Known r relations clauses) (asked : Asked) (p : Package)
    (is : IsAsked r relations asked p) (limit : ℕ) (found : List Finding) (sound : All (IsSound (selected_clauses r clauses) limit) found) where
  sound-at : (f : Finding) → Contains found f → IsSound (selected_clauses r clauses) limit f
  sound-at f there = All-contains (IsSound (selected_clauses r clauses) limit) found f sound there

  -- ---- what is true

  broken : (needed undecided numbers : List ℕ) (later : List Finding) → AreLast asked found numbers later
      → AreDecided asked numbers later needed undecided → IsBroken r p needed undecided relations
  broken needed undecided numbers later last decided = record {
    explain = together;
    needed_are = each;
    connected = connected r relations (record { are = known.are; members = known.members; values = known.values }) p needed (needed ++ undecided)
        together each;
    in_range = all-contained (λ n. (1 ≤ n) × (n ≤ length relations)) (needed ++ undecided) (λ n there.
        let range = All-contains (IsOfRelation asked) numbers n last.selects.in_range ((same n).1 there) in
        let count = is.relation_count in (range.0, omega (arith, range.1, count)));
    needed_rise = decided.needed_rise;
    undecided_rise = decided.undecided_rise;
  }
    where
      same : (one : ℕ) → Contains numbers one ↔ Contains (needed ++ undecided) one
      same = decided-ones asked numbers later needed undecided decided

      refuted-there : Contains found (finding.Refuted last.question)
      refuted-there = subst (λ fs. Contains fs (finding.Refuted last.question)) (sym last.stands)
          (Contains-append_right last.earlier (finding.Refuted last.question ∷ later) (finding.Refuted last.question) (0, omega arith, refl))

      later-there : (f : Finding) → Contains later f → Contains found f
      later-there f there = subst (λ fs. Contains fs f) (sym last.stands)
          (Contains-append_right last.earlier (finding.Refuted last.question ∷ later) f (contains-later (finding.Refuted last.question) later f there))

      explain : Explain r relations p numbers
      explain = refuted-explains r relations clauses known asked p is limit last.question numbers last.selects
          (sound-at (finding.Refuted last.question) refuted-there)

      by-finding : (one : ℕ) (f : Finding) → Contains later f → ShowsNeeded asked numbers one f → IsNeeded r relations p numbers one
      by-finding one (finding.Installed members) there shows =
          shown-needed r relations clauses known asked p is limit members numbers one last.selects.in_range explain
          (sound-at (finding.Installed members) (later-there (finding.Installed members) there)) shows.0 shows.1
      by-finding one (finding.Refuted question) there shows = absurd shows
      by-finding one (finding.LeftUndecided question) there shows = absurd shows

      by : (one : ℕ) → Any (ShowsNeeded asked numbers one) later → IsNeeded r relations p numbers one
      by one any = by-finding one any.1 (any-there (ShowsNeeded asked numbers one) later any) any.4

      together : Explain r relations p (needed ++ undecided)
      together = explain-same r relations p numbers (needed ++ undecided) (λ one. (same one).0) explain

      each : All (IsNeeded r relations p (needed ++ undecided)) needed
      each = all-contained (IsNeeded r relations p (needed ++ undecided)) needed (λ one there.
          needed-same r relations p numbers (needed ++ undecided) one (λ n. (same n).1) (by one ((decided.needed_are one).0 there)))

  installable : (f : Finding) → Contains found f → ShowsAll asked f → IsTrueOf r relations p Installable
  installable (finding.Installed members) there all =
      installed-healthy r relations clauses known asked p is limit members all (sound-at (finding.Installed members) there)
  installable (finding.Refuted question) there never = absurd never
  installable (finding.LeftUndecided question) there never = absurd never

  pub answer-true : (explained : Explained) → Answers asked found explained → IsTrueOf r relations p explained
  answer-true Installable answers = installable answers.1.1 (any-there (ShowsAll asked) found answers.1) answers.1.4
  answer-true Undecided answers = tt
  answer-true (Broken needed undecided) answers = broken needed undecided answers.0 answers.1 answers.2 answers.3

  -- ---- what the limit says

  count : ℕ
  count = length r.packages + length relations

  hard : (question : List Word) (numbers : List ℕ) → Selects asked question numbers → Contains found (finding.LeftUndecided question)
      → limit ≤ 3 ^ (length r.packages + length relations)
  hard question numbers selects there =
      let same = known.have.one_each in
      let upto : asked.number ≤ length r.packages = let short = slice_get_within r.packages (asked.number - 1) p is.is in omega (arith, short) in
      hard-bound (length r.packages + length relations) (selected_clauses r clauses) question limit
      (selected-upto (length r.packages + length relations) (length r.packages) clauses (omega (arith, same)) inside)
      (all-contained (λ (word : Word). IsUpto (length r.packages + length relations) word.0) question (λ word named.
      elim ((selects.exact word).0 named) [
        | inl here ↦ let from = is.from_one in
            subst (λ (w : Word). IsUpto (length r.packages + length relations) w.0) (sym here) (from, omega (arith, upto))
        | inr any ↦
            let range = All-contains (IsOfRelation asked) numbers any.1 selects.in_range
            (any-there (λ number. word ≡ yes (asked.packages + number)) numbers any) in
            let packages = is.packages in
            let relation_count = is.relation_count in
            subst (λ (w : Word). IsUpto (length r.packages + length relations) w.0) (sym any.4)
            (omega (arith, range.0), omega (arith, range.1, packages, relation_count))
      ]))
      (sound-at (finding.LeftUndecided question) there)
    where
      inside : All (λ clause. All (λ l. IsUpto (length r.packages + length relations) l.variable) clause) clauses
      inside k d short =
          let at = element-at clauses k short in
          let range = clauses-in-range r relations clauses known k at.element at.is in
          subst (All (λ l. IsUpto (length r.packages + length relations) l.variable)) (sym (get_or_from_slice_get clauses k at.element d at.is))
          (All-weaker (λ l. (1 ≤ l.variable) × (l.variable ≤ length r.packages)) (λ l. IsUpto (length r.packages + length relations) l.variable)
          (λ l h. (h.0, omega (arith, h.1))) at.element range)

  pub answer-decided : 3 ^ (length r.packages + length relations) < limit → (explained : Explained) → Answers asked found explained → HasNoMark explained
  answer-decided beyond Installable answers = tt
  answer-decided beyond Undecided answers =
      all-open answers.2.1 (any-there (LeavesAllOpen asked) found answers.2) answers.2.4
    where
      all-open : (f : Finding) → Contains found f → LeavesAllOpen asked f → ⊥
      all-open (finding.LeftUndecided question) there leaves = let bound = hard question leaves.0 leaves.1 there in omega (arith, beyond, bound)
      all-open (finding.Installed members) there never = never
      all-open (finding.Refuted question) there never = never
  answer-decided beyond (Broken needed []) answers = refl
  answer-decided beyond (Broken needed (u ∷ us)) answers =
      let last = answers.2 in
      let any = ((answers.3.undecided_are u).0 (0, omega arith, refl)).0 in
      absurd (one-open answers.0 any.1 (subst (λ fs. Contains fs any.1) (sym last.stands)
      (Contains-append_right last.earlier (finding.Refuted last.question ∷ answers.1) any.1
      (contains-later (finding.Refuted last.question) answers.1 any.1 (any-there (LeavesOpen asked answers.0 u) answers.1 any)))) any.4)
    where
      one-open : (numbers : List ℕ) (f : Finding) → Contains found f → LeavesOpen asked numbers u f → ⊥
      one-open numbers (finding.LeftUndecided question) there leaves = let bound = hard question leaves.0 leaves.1 there in omega (arith, beyond, bound)
      one-open numbers (finding.Installed members) there never = never
      one-open numbers (finding.Refuted question) there never = never
