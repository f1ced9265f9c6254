-- What clauses with selectors mean, by what the clauses of the present mean.
use Rattle.std.proofs.Common.{◌≡◌, ◌⊎◌, ℕ, zero, suc, ◌+◌, ◌-◌, ◌<◌, ◌≤◌, Bool, true, false, List, [], ◌∷◌, ◌++◌}
use Rattle.std.proofs.Common.{length, length-append, get_or}
use Rattle.std.proofs.Common.{Option, None, Some, refl, sym, ap, subst, ◌∙◌, arith, inl, inr, slice_get}
use Rattle.std.specs.Prelude.{All, Any, Contains, ◌↔◌}
use Rattle.std.proofs.lemmas.Bool.{cases_lt, false≢true}
use Rattle.std.proofs.lemmas.List.{get_or-append-add, get_or_append_left, get_or_push}
use Rattle.std.proofs.lemmas.List.Elements.{All-cons, All-contains, All-nil, All-tail}
use Rattle.std.proofs.lemmas.Option.{slice_get-get_or, slice_get_within}
use Rattle.dist_base.specs.ListLaws.{all-contained, any-cases, any-contained, any-head, any-later, any-there}
use Rattle.dist_base.specs.ListLaws.{element-at, element-is, has-at, some-element}
use Rattle.dist_clause.specs.Formula.{Literal, IsModel, IsTrueLiteral, MakesTrue, literal, value_of}
use Rattle.dist_repo.specs.DecidedLaws.{IsDecided, any-decided, same-as}
use Rattle.dist_repo.specs.PackageList.{PackageList}
use Rattle.dist_repo.specs.declared.package.Package.{Package}
use Rattle.dist_now.specs.Members.{members_of}
use Rattle.dist_now.specs.PresentClauses.{Demand, IsClauseFor}
use Rattle.dist_now.specs.PresentLaws.{AreSamePackages}
use Rattle.dist_now.specs.Relations.{AreMembersByValues, AreOf, AreValuesOf, Fails, HaveClauses, IsTrueByDemand}
use Rattle.dist_explain.specs.Explanation.{Explain, FailsNumber, IsRelation}
use Rattle.dist_explain.specs.Selectors.{AreExplainedByNoModel, AreModelsBySelectors, HasNoModel, selected, selector}

-- ---- clauses with selectors

-- a clause is true, or its selector is false
abbrev pub TrueOrOff : (ℕ → Bool) → ℕ → List Literal → ℕ → Type 0
TrueOrOff value last clause place = MakesTrue value clause ⊎ (value (last + place + 1) ≡ false)

off-cases : (value : ℕ → Bool) (clause : List Literal) (l : Literal) → MakesTrue value (clause ++ l ∷ []) → MakesTrue value clause ⊎ IsTrueLiteral value l
off-cases value [] l any = elim (any-cases (IsTrueLiteral value) l [] any) [
  | inl here ↦ inr here
  | inr none ↦ inl none
]
off-cases value (m ∷ clause) l any = elim (any-cases (IsTrueLiteral value) m (clause ++ l ∷ []) any) [
  | inl here ↦ inl (any-head (IsTrueLiteral value) m clause here)
  | inr later ↦ elim (off-cases value clause l later) [
    | inl there ↦ inl (any-later (IsTrueLiteral value) m clause there)
    | inr last ↦ inr last
  ]
]

cases-off : (value : ℕ → Bool) (clause : List Literal) (l : Literal) → MakesTrue value clause ⊎ IsTrueLiteral value l → MakesTrue value (clause ++ l ∷ [])
cases-off value [] l (inl none) = absurd (omega (arith, none.2))
cases-off value [] l (inr here) = any-head (IsTrueLiteral value) l [] here
cases-off value (m ∷ clause) l (inl any) = elim (any-cases (IsTrueLiteral value) m clause any) [
  | inl here ↦ any-head (IsTrueLiteral value) m (clause ++ l ∷ []) here
  | inr later ↦ any-later (IsTrueLiteral value) m (clause ++ l ∷ []) (cases-off value clause l (inl later))
]
cases-off value (m ∷ clause) l (inr here) = any-later (IsTrueLiteral value) m (clause ++ l ∷ []) (cases-off value clause l (inr here))

pub selected-at : (value : ℕ → Bool) (last : ℕ) (clauses : List (List Literal)) → IsModel value (selected last clauses) → (place : ℕ) (clause : List Literal)
    → slice_get clauses place ≡ Some clause → TrueOrOff value last clause place
unfolding selected
selected-at value last [] model place clause is = cc
selected-at value last (c ∷ clauses) model zero clause is =
    let same : c ≡ clause = cc in
    let next : last + 1 ≡ last + 0 + 1 = omega arith in
    subst (λ (x : List Literal). MakesTrue value x ⊎ (value (last + 0 + 1) ≡ false)) same
    (subst (λ (n : ℕ). MakesTrue value c ⊎ (value n ≡ false)) next (off-cases value c (literal (last + 1) false) (model 0 c (omega arith))))
selected-at value last (c ∷ clauses) model (suc place) clause is =
    let next : last + 1 + place + 1 ≡ last + suc place + 1 = omega arith in
    subst (λ (n : ℕ). MakesTrue value clause ⊎ (value n ≡ false)) next
    (selected-at value (last + 1) clauses (All-tail (MakesTrue value) (c ++ literal (last + 1) false ∷ []) (selected (last + 1) clauses) model) place clause is)

pub selected-model : (value : ℕ → Bool) (last : ℕ) (clauses : List (List Literal))
    → ((place : ℕ) (clause : List Literal) → slice_get clauses place ≡ Some clause → TrueOrOff value last clause place) → IsModel value (selected last clauses)
unfolding selected
selected-model value last [] each = All-nil (MakesTrue value)
selected-model value last (c ∷ clauses) each =
    let next : last + 0 + 1 ≡ last + 1 = omega arith in
    All-cons (MakesTrue value) (c ++ literal (last + 1) false ∷ []) (selected (last + 1) clauses)
    (cases-off value c (literal (last + 1) false) (subst (λ (n : ℕ). MakesTrue value c ⊎ (value n ≡ false)) next (each 0 c refl)))
    (selected-model value (last + 1) clauses (λ place clause is.
    let same : last + suc place + 1 ≡ last + 1 + place + 1 = omega arith in
    subst (λ (n : ℕ). MakesTrue value clause ⊎ (value n ≡ false)) same (each (suc place) clause is)))

-- ---- what the present gives

-- what is told of the clauses of the present
pub record Present (r : PackageList) (relations : List Demand) (clauses : List (List Literal)) : Type 0 where
  pub have : HaveClauses r relations clauses
  pub by_demand : (d : Demand) (clause : List Literal) (values : List Bool) → Contains relations d → IsClauseFor r d clause → IsTrueByDemand r d clause values
  pub members : (values : List Bool) → AreMembersByValues r values
  pub values : (members : List Package) → AreOf r members → (values : List Bool) × AreValuesOf r members values
  pub same : (members others : List Package) (d : Demand) → AreSamePackages members others → Fails r members d → Fails r others d
  pub decided : (members : List Package) (d : Demand) → IsDecided (Fails r members d)

relation-there : (relations : List Demand) (place : ℕ) (d : Demand) → slice_get relations place ≡ Some d → Contains relations d
relation-there relations place d is =
    let short = slice_get_within relations place d is in
    let at : Some (get_or relations place d) ≡ Some d = sym (slice_get-get_or relations place d short) ∙ is in
    (place, short, (let same : get_or relations place d ≡ d = cc in same))

pub models-by-selectors : (r : PackageList) (relations : List Demand) (clauses : List (List Literal)) (values : List Bool) → Present r relations clauses
    → AreModelsBySelectors r relations clauses values
models-by-selectors r relations clauses values present = (to, from)
  where
    n : ℕ
    n = length r.packages

    to : IsModel (value_of values) (selected n clauses) → (number : ℕ) (d : Demand) → IsRelation relations number d → value_of values (n + number) ≡ true
        → ¬ Fails r (members_of r.packages values) d
    to model number d (place, at, is) on fails =
        let count = present.have.one_each in
        let short = slice_get_within relations place d is in
        let clause = element-at clauses place (omega (arith, count, short)) in
        let For : Demand → Type 0 = λ e. IsClauseFor r e clause.element in
        let here = present.have.each place clause.element clause.is in
        let e = some-element For relations place here in
        let is_e = element-is For relations place here in
        let same : e ≡ d = cc in
        let is_clause : For d = subst For same (has-at For relations place e is_e here) in
        elim (selected-at (value_of values) n clauses model place clause.element clause.is) [
          | inl holds ↦ (present.by_demand d clause.element values (relation-there relations place d is) is_clause).0 holds fails
          | inr off ↦
              let number_is : n + place + 1 ≡ n + number = omega (arith, at) in
              false≢true (sym off ∙ ap (value_of values) number_is ∙ on)
        ]

    from : ((number : ℕ) (d : Demand) → IsRelation relations number d → value_of values (n + number) ≡ true → ¬ Fails r (members_of r.packages values) d)
        → IsModel (value_of values) (selected n clauses)
    from each = selected-model (value_of values) n clauses (λ place clause is. by place clause is (value_of values (n + place + 1)) refl)
      where
        by : (place : ℕ) (clause : List Literal) → slice_get clauses place ≡ Some clause → (b : Bool) → value_of values (n + place + 1) ≡ b
            → TrueOrOff (value_of values) n clause place
        by place clause is false off = inr off
        by place clause is true on =
            let For : Demand → Type 0 = λ e. IsClauseFor r e clause in
            let here = present.have.each place clause is in
            let d = some-element For relations place here in
            let is_d = element-is For relations place here in
            let is_clause : For d = has-at For relations place d is_d here in
            let same : n + place + 1 ≡ n + (place + 1) = omega arith in
            inl ((present.by_demand d clause values (relation-there relations place d is_d) is_clause).1
            (each (place + 1) d (place, refl, is_d) (ap (value_of values) (sym same) ∙ on)))

-- ---- truth values for selectors

-- truth values, one for each of so many places, true where something holds of the place
record Flags (P : ℕ → Type 0) (count : ℕ) : Type 0 where
  flags : List Bool
  size : length flags ≡ count
  exact : (i : ℕ) → i < count → (get_or flags i false ≡ true) ↔ P i

flag : (P : ℕ → Type 0) (i : ℕ) → IsDecided (P i) → Bool
flag P i (inl p) = true
flag P i (inr none) = false

flag-exact : (P : ℕ → Type 0) (i : ℕ) (decided : IsDecided (P i)) → (flag P i decided ≡ true) ↔ P i
unfolding flag
flag-exact P i (inl p) = ((λ is. p), λ q. refl)
flag-exact P i (inr none) = ((λ is. absurd (false≢true is)), λ q. absurd (none q))

some-flags : (P : ℕ → Type 0) → ((i : ℕ) → IsDecided (P i)) → (count : ℕ) → Flags P count
some-flags P each zero = record { flags = []; size = refl; exact = λ i short. absurd (omega arith) }
some-flags P each (suc count) =
    let before = some-flags P each count in
    let last = flag P count (each count) in
    let all = before.flags ++ last ∷ [] in
    let size = before.size in
    let total = length-append before.flags (last ∷ []) in
    record {
      flags = all;
      size = omega (arith, size, total);
      exact = λ i short. elim (cases_lt i count) [
        | inl less ↦ subst (λ (b : Bool). (b ≡ true) ↔ P i) (sym (get_or_append_left before.flags (last ∷ []) false i (omega (arith, size))))
            (before.exact i less)
        | inr more ↦
            let same : count ≡ i = omega arith in
            subst (λ (k : ℕ). (get_or all k false ≡ true) ↔ P k) same
            (subst (λ (b : Bool). (b ≡ true) ↔ P count) (sym (get_or_push before.flags last false count size)) (flag-exact P count (each count)))
      ];
    }

number-decided : (m n : ℕ) → IsDecided (m ≡ n)
number-decided m n = elim (cases_lt m n) [
  | inl less ↦ inr (λ same. omega (arith, same))
  | inr more ↦ elim (cases_lt n m) [
    | inl less ↦ inr (λ same. omega (arith, same))
    | inr most ↦ inl (omega arith)
  ]
]

there-decided : (numbers : List ℕ) (n : ℕ) → IsDecided (Contains numbers n)
there-decided numbers n = same-as (λ any. subst (Contains numbers) any.4 (any-there (λ m. m ≡ n) numbers any))
    (λ there. any-contained (λ m. m ≡ n) numbers n there refl)
    (any-decided (λ m. m ≡ n) (λ m. number-decided m n) numbers)

-- values behind those of the packages are of no package
members-longer : (packages : List Package) (values more : List Bool) → length values ≡ length packages
    → members_of packages (values ++ more) ≡ members_of packages values
members-longer [] values more size = refl
members-longer (p ∷ packages) [] more size = absurd (omega (arith, size))
members-longer (p ∷ packages) (true ∷ values) more size =
    ap (λ (ms : List Package). p ∷ ms) (members-longer packages values more (omega (arith, size)))
members-longer (p ∷ packages) (false ∷ values) more size = members-longer packages values more (omega (arith, size))

-- ---- explanations

-- whether the relation of a number is failed is decided
number-fails-decided : (r : PackageList) (relations : List Demand) (clauses : List (List Literal)) (members : List Package) → Present r relations clauses
    → (number : ℕ) → IsDecided (FailsNumber r relations members number)
number-fails-decided r relations clauses members present zero = inr (λ fails. let at = fails.1.1 in omega (arith, at))
number-fails-decided r relations clauses members present (suc place) = by (slice_get relations place) refl
  where
    by : (o : Option Demand) → slice_get relations place ≡ o → IsDecided (FailsNumber r relations members (suc place))
    by None is = inr (λ fails.
        let at = fails.1.1 in
        let same : fails.1.0 ≡ place = omega (arith, at) in
        let there : slice_get relations place ≡ Some fails.0 = subst (λ (k : ℕ). slice_get relations k ≡ Some fails.0) same fails.1.2 in
        cc)
    by (Some d) is = elim (present.decided members d) [
      | inl fails ↦ inl (d, (place, omega arith, is), fails)
      | inr none ↦ inr (λ fails.
          let at = fails.1.1 in
          let same : fails.1.0 ≡ place = omega (arith, at) in
          let there : slice_get relations place ≡ Some fails.0 = subst (λ (k : ℕ). slice_get relations k ≡ Some fails.0) same fails.1.2 in
          let one : fails.0 ≡ d = cc in
          none (subst (Fails r members) one fails.2))
    ]

-- packages that fail none of the relations give a model with their selectors
no-model-fails : (r : PackageList) (relations : List Demand) (clauses : List (List Literal)) (number : ℕ) (p : Package) (numbers : List ℕ)
    (members : List Package) → Present r relations clauses → slice_get r.packages number ≡ Some p
    → All (λ n. (1 ≤ n) × (n ≤ length relations)) numbers → AreOf r members → Contains members p → HasNoModel r clauses number numbers
    → ¬ Any (FailsNumber r relations members) numbers → ⊥
no-model-fails r relations clauses number p numbers members present is within of has none never =
    none all ((models-by-selectors r relations clauses all present).1 stand) (((present.members all).exact number p is).0 there)
    (all-contained (λ n. value_of all (selector r n) ≡ true) numbers selected-on)
  where
    named : (values : List Bool) × AreValuesOf r members values
    named = present.values members of

    on : Flags (λ i. Contains numbers (i + 1)) (length relations)
    on = some-flags (λ i. Contains numbers (i + 1)) (λ i. there-decided numbers (i + 1)) (length relations)

    all : List Bool
    all = named.0 ++ on.flags

    same-ones : members_of r.packages all ≡ members_of r.packages named.0
    same-ones = members-longer r.packages named.0 on.flags named.1.one_each

    there : Contains (members_of r.packages all) p
    there = subst (λ (ms : List Package). Contains ms p) (sym same-ones) ((named.1.same p).0 has)

    flag-of : (place : ℕ) → value_of all (length r.packages + (place + 1)) ≡ get_or on.flags place false
    flag-of place =
        let size = named.1.one_each in
        let at : length r.packages + (place + 1) - 1 ≡ length named.0 + place = omega (arith, size) in
        ap (λ (k : ℕ). get_or all k false) at ∙ get_or-append-add named.0 on.flags place false

    selected-on : (n : ℕ) → Contains numbers n → value_of all (selector r n) ≡ true
    selected-on n inside =
        let range = All-contains (λ k. (1 ≤ k) × (k ≤ length relations)) numbers n within inside in
        let back : n - 1 + 1 ≡ n = omega (arith, range.0) in
        let flagged : get_or on.flags (n - 1) false ≡ true = (on.exact (n - 1) (omega (arith, range.0, range.1))).1
        (subst (Contains numbers) (sym back) inside) in
        ap (λ (k : ℕ). value_of all (length r.packages + k)) (sym back) ∙ flag-of (n - 1) ∙ flagged

    stand : (k : ℕ) (d : Demand) → IsRelation relations k d → value_of all (selector r k) ≡ true → ¬ Fails r (members_of r.packages all) d
    stand k d (place, at, there) flagged fails =
        let short = slice_get_within relations place d there in
        let same : value_of all (length r.packages + (place + 1)) ≡ true = ap (λ (j : ℕ). value_of all (length r.packages + j)) (sym at) ∙ flagged in
        let picked : Contains numbers (place + 1) = (on.exact place short).0 (sym (flag-of place) ∙ same) in
        let also : Fails r members d = present.same (members_of r.packages all) members d
        (λ q. (
          (λ inside. (named.1.same q).1 (subst (λ (ms : List Package). Contains ms q) same-ones inside)),
          (λ inside. subst (λ (ms : List Package). Contains ms q) (sym same-ones) ((named.1.same q).0 inside)),
        )) fails in
        never (any-contained (FailsNumber r relations members) numbers (place + 1) picked (d, (place, refl, there), also))

pub explained-by-no-model : (r : PackageList) (relations : List Demand) (clauses : List (List Literal)) → Present r relations clauses
    → AreExplainedByNoModel r relations clauses
explained-by-no-model r relations clauses present number p numbers is within = (to, from)
  where
    to : Explain r relations p numbers → HasNoModel r clauses number numbers
    to explained values model holds all =
        let of = present.members values in
        let any = explained (members_of r.packages values) of.of ((of.exact number p is).1 holds) in
        let on : value_of values (selector r any.1) ≡ true = subst (λ (n : ℕ). value_of values (selector r n) ≡ true) any.3 (all any.0 any.1 any.2) in
        (models-by-selectors r relations clauses values present).0 model any.1 any.4.0 any.4.1 on any.4.2

    from : HasNoModel r clauses number numbers → Explain r relations p numbers
    from none members of has =
        elim (any-decided (FailsNumber r relations members) (number-fails-decided r relations clauses members present) numbers) [
          | inl any ↦ any
          | inr never ↦ absurd (no-model-fails r relations clauses number p numbers members present is within of has none never)
        ]
