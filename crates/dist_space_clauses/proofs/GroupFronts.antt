-- Whole groups, and the fronts of items and conflicts.
use Rattle.std.proofs.Common.{◌≡◌, ◌≢◌, ℕ, ◌+◌, ◌<◌, ◌≤◌, false, List, [], ◌∷◌, Some, length, get_or, map, refl, sym, ap, subst, ◌∙◌, arith, inl, inr}
use Rattle.std.proofs.Common.{eqb, slice_get}
use Rattle.std.specs.Prelude.{Any, Contains, IsSomeAnd}
use Rattle.std.proofs.lemmas.Bool.{cases_lt}
use Rattle.std.proofs.lemmas.List.{get_or_default}
use Rattle.std.proofs.lemmas.List.Kept.{AllPairs-from_increasing}
use Rattle.std.proofs.lemmas.Option.{slice_get_within}
use Rattle.dist_base.specs.ListLaws.{at-has, has-at, here-at, within-from}
use Rattle.dist_clause.specs.ClauseList.{ClauseList}
use Rattle.dist_clause.specs.DemandLaws as made
use Rattle.dist_clause.specs.Formula.{IsClauseOver, Literal, literal}
use Rattle.dist_relation.specs.declared.atom.Atom.{Atom}
use Rattle.dist_repo.specs.Match.{Matches}
use Rattle.dist_repo.specs.PackageList.{IsPackageAnd}
use Rattle.dist_repo.specs.declared.package.Package.{Package}
use Rattle.dist_space_clauses.specs.GatheringPrivate.{AreVariablesOf, IsFront, IsGroupsFront, IsItemAt, IsVariableWith, positive}
use Rattle.dist_space_clauses.specs.GroupsPrivate.{number_of}
use Rattle.dist_space_clauses.specs.declared.groups.Group.{Group}
use Rattle.dist_space_clauses.specs.declared.groups.Group.TheVariants.{Classes, Versions, Names, Items, Conflicts, Today}
use Rattle.dist_space.specs.Space.{IsMeaning, IsMetBy, IsSpace, SpaceView, variable_of}
use Rattle.dist_space_clauses.specs.SpaceClauses.{Demand, OneClass, Gone, Moved, Carried, OneFresh, Item, Apart, StaysNow, AbsentNow, Required, Excludes}
use Rattle.dist_space_clauses.specs.SpaceClauses.{IsDemand, group_of, leading, rank_of, second_of, space_demands}
use Rattle.dist_space.specs.declared.meaning.Meaning.{Meaning}
use Rattle.dist_space.specs.declared.meaning.Meaning.TheVariants.{Present}
use Rattle.dist_space_clauses.proofs.Fronts.{below-cases, cases-below, first-number, front-skip, front-variable, leading-is, leads, second-one}
use Rattle.dist_space.specs.VariableLaws.{variable-range}
use Rattle.dist_space.specs.KeyLaws.{IsLess}
use Rattle.dist_space_clauses.proofs.FoundIn.{not-found}
use Rattle.dist_space_clauses.proofs.LedFronts.{IsPairAt, Steps, pair-steps, steps, written}
use Rattle.dist_space_clauses.proofs.VariableLists.{item-clause, item-demand, over-implied}

pub few-groups : (group : Group) → number_of group < 7
few-groups Classes = omega arith
few-groups Versions = omega arith
few-groups Names = omega arith
few-groups Items = omega arith
few-groups Conflicts = omega arith
few-groups Today = omega arith

-- ---- what a package must be apart from

abbrev pub ExcludedBy : SpaceView → ℕ → Meaning → Type 0
ExcludedBy s n m = IsPackageAnd s.repository.packages n (λ p. Excludes s n p m)

never-itself : (s : SpaceView) (n : ℕ) (m : Meaning) → ExcludedBy s n m → Present n ≢ m
never-itself s n m excluded same =
    let here = here-at (λ (p : Package). Excludes s n p m) s.repository.packages n excluded in
    let own : Excludes s n here.element (Present n) = subst (Excludes s n here.element) (sym same) here.holds in
    omega (arith, own.0)

pub excluded-by : (s : SpaceView) (n : ℕ) (p : Package) (variables : List ℕ) → slice_get s.repository.packages n ≡ Some p
    → AreVariablesOf s (Excludes s n p) variables → AreVariablesOf s (ExcludedBy s n) variables
excluded-by s n p variables is are = record {
  rising = are.rising;
  exact = λ v. (
    (λ there. let with = (are.exact v).0 there in record {
      meaning = with.meaning;
      is_meaning = with.is_meaning;
      has = at-has (λ (q : Package). Excludes s n q with.meaning) s.repository.packages n p is with.has;
      variable_is = with.variable_is;
    }),
    λ with. (are.exact v).1 (record {
      meaning = with.meaning;
      is_meaning = with.is_meaning;
      has = has-at (λ (q : Package). Excludes s n q with.meaning) s.repository.packages n p is with.has;
      variable_is = with.variable_is;
    }),
  );
}

-- the clauses with the first of some variables were added: those below a bound
pub record IsPairFront (s : SpaceView) (limits : ClauseList) (n : ℕ) (others : List ℕ) (count : ℕ) (set : ClauseList) : Type 0 where
  pub bound : ℕ
  pub low : (k : ℕ) → k < count → k < length others → get_or others k 0 < bound
  pub high : (k : ℕ) → count ≤ k → k < length others → bound ≤ get_or others k 0
  pub front : IsFront s 5 (variable_of s (Present n)) bound limits set

pub pairs-start : (s : SpaceView) (limits : ClauseList) (n : ℕ) (others : List ℕ) (set : ClauseList) → IsFront s 5 (variable_of s (Present n)) 0 limits set
    → IsPairFront s limits n others 0 set
pairs-start s limits n others set front = record {
  bound = 0;
  low = λ k less short. absurd (omega (arith, less));
  high = λ k more short. omega arith;
  front = front;
}

-- an empty set
pub groups-none : (s : SpaceView) (variables clause_limit literal_limit : ℕ) → variables ≡ length s.meanings
    → let set : ClauseList = record { clauses = []; variables = variables; clause_limit = clause_limit; literal_limit = literal_limit } in
    IsGroupsFront s 1 set set
groups-none s variables clause_limit literal_limit is = record {
  clauses = made.clauses-none (space_demands s) (λ d. IsDemand s d × (group_of d < 1)) (λ d h. from-one d h.1);
  variables = is;
  clause_limit_is = refl;
  literal_limit_is = refl;
}
  where
    from-one : (d : Demand) → ¬ (group_of d < 1)
    from-one (OneClass c k l) less = omega (arith, less)
    from-one (Gone r k) less = omega (arith, less)
    from-one (Moved r k) less = omega (arith, less)
    from-one (Carried r k j) less = omega (arith, less)
    from-one (OneFresh x k l) less = omega (arith, less)
    from-one (Item n place) less = omega (arith, less)
    from-one (Apart n other) less = omega (arith, less)
    from-one (StaysNow c k) less = omega (arith, less)
    from-one (AbsentNow x k) less = omega (arith, less)
    from-one (Required name) less = omega (arith, less)

module _ (s : SpaceView) (space : IsSpace s) (limits : ClauseList) where
  -- ---- whole groups

  abbrev Before : ℕ → Demand → Type 0
  Before g d = IsDemand s d × (group_of d < g)

  abbrev Below : (g v b : ℕ) → Demand → Type 0
  Below g v b d = IsDemand s d × (Rattle.std.specs.Cmp.Lexicographic.slice_cmp Rattle.std.specs.Ordering.nat_cmp (rank_of s d) (g ∷ v ∷ b ∷ [])
      ≡ Rattle.std.specs.declared.cmp.Ordering.TheVariants.Less)

  -- from the groups before one to its first variable
  pub groups-open : (g : ℕ) (set : ClauseList) → g < 7 → IsGroupsFront s g limits set → IsFront s g 1 0 limits set
  groups-open g set few of =
      made.set-shift (space_demands s) (Before g) (Below g 1 0) limits.clause_limit limits.literal_limit set
      (λ d h. (h.0, cases-below s d g 1 0 (inl h.1))) (λ d h. (h.0, back d h.0 (below-cases s d g 1 0 h.1))) of
    where
      back : (d : Demand) → IsDemand s d → IsLess (rank_of s d) (g ∷ 1 ∷ 0 ∷ []) → group_of d < g
      back d is (inl less) = less
      back d is (inr (group, inl less)) = absurd (let range = variable-range s (leading d) space (leading-is s d is) in omega (arith, less, range.0))
      back d is (inr (group, inr (variable, second))) =
          let one = second-one s d (omega (arith, group, few)) in
          let Zero : List ℕ → Type 0 = λ ys. IsLess ys (0 ∷ []) in
          absurd (elim (subst Zero one.1 second) [
            | inl below ↦ omega (arith, below)
            | inr more ↦ more.1
          ])

  -- from past its last variable to the groups up to it
  pub groups-close : (g v : ℕ) (set : ClauseList) → length s.meanings < v → IsFront s g v 0 limits set → IsGroupsFront s (g + 1) limits set
  groups-close g v set past of =
      made.set-shift (space_demands s) (Below g v 0) (Before (g + 1)) limits.clause_limit limits.literal_limit set
      (λ d h. (h.0, to d (below-cases s d g v 0 h.1))) (λ d h. (h.0, cases-below s d g v 0 (back d h.0 h.1))) of
    where
      to : (d : Demand) → IsLess (rank_of s d) (g ∷ v ∷ 0 ∷ []) → group_of d < g + 1
      to d (inl less) = omega (arith, less)
      to d (inr (group, rest)) = omega (arith, group)

      back : (d : Demand) → IsDemand s d → group_of d < g + 1 → IsLess (rank_of s d) (g ∷ v ∷ 0 ∷ [])
      back d is less = elim (cases_lt (group_of d) g) [
        | inl below ↦ inl below
        | inr most ↦ let range = variable-range s (leading d) space (leading-is s d is) in inr (omega (arith, less, most), inl (omega (arith, past, range.1)))
      ]

  -- ---- items of one package

  item-of : (d : Demand) (n k : ℕ) → group_of d ≡ 4 → leading d ≡ Present n → second_of s d ≡ k ∷ [] → d ≡ Item n k
  item-of (Item number place) n k group lead second =
      let first : number ≡ n = cc in
      let then : place ≡ k = first-number place k second in
      ap (λ (i : ℕ). Item i place) first ∙ ap (λ (i : ℕ). Item n i) then
  item-of d n k group lead second = absurd (omega (arith, group))

  module _ (n : ℕ) (is_meaning : IsMeaning s (Present n)) where
    pub item-from : (d : Demand) (k : ℕ) → IsDemand s d → group_of d ≡ 4 → variable_of s (leading d) ≡ variable_of s (Present n) → second_of s d ≡ k ∷ []
        → IsDemand s (Item n k)
    item-from d k is group variable second =
        subst (IsDemand s) (item-of d n k group (leads s d (variable_of s (Present n)) (Present n) space is is_meaning refl variable) second) is

    -- an item that is none
    pub item-skipped : (place : ℕ) (set : ClauseList) → ¬ IsDemand s (Item n place) → IsFront s 4 (variable_of s (Present n)) place limits set
        → IsFront s 4 (variable_of s (Present n)) (place + 1) limits set
    item-skipped place set none of =
        front-skip s space limits 4 (variable_of s (Present n)) place (place + 1) set (omega arith)
        (λ d is group variable k second less. elim (cases_lt k place) [
          | inl below ↦ below
          | inr most ↦ absurd (none (let same : k ≡ place = omega (arith, less, most) in
              subst (λ (i : ℕ). IsDemand s (Item n i)) same (item-from d k is group variable second)))
        ])
        (omega arith) of

    pub items-end : (count : ℕ) (p : Package) (set : ClauseList) → slice_get s.repository.packages n ≡ Some p → length p.depends ≤ count
        → IsFront s 4 (variable_of s (Present n)) count limits set → IsFront s 4 (variable_of s (Present n) + 1) 0 limits set
    items-end count p set is_p past of =
        front-variable s space limits 4 (variable_of s (Present n)) count set
        (λ d is group variable k second.
        let demand = item-from d k is group variable second in
        let Other : Package → List Atom → Type 0 = λ q item. ¬ Any (λ atom. Matches s.repository.architecture atom q) item in
        let inner = has-at (λ (q : Package). IsSomeAnd (slice_get q.depends k) (Other q)) s.repository.packages n p is_p demand in
        omega (arith, past, within-from (Other p) p.depends k inner))
        (omega arith) of

  -- the clause of an item, as it is written where its package isn't found in what meets it
  pub item-steps : (n place w : ℕ) (item : List Atom) (variables searched : List ℕ) (clause : List Literal) (set : ClauseList)
      → IsItemAt s.repository.packages n place item → AreVariablesOf s (IsMetBy s item) variables → searched ≡ variables → w ≡ variable_of s (Present n)
      → ((k d : ℕ) → 0 ≤ k → k < length searched → eqb (get_or searched k d) w ≡ false) → clause ≡ literal w false ∷ map positive variables
      → IsFront s 4 (variable_of s (Present n)) place limits set → Steps s limits 4 (variable_of s (Present n)) place set clause
  item-steps n place w item variables searched clause set at are is_searched is_variable none is front =
      let is_meaning = slice_get_within s.repository.packages n at.holder at.is_holder in
      let other = not-found variables searched w (variable_of s (Present n)) is_searched is_variable none in
      let made : clause ≡ literal (variable_of s (Present n)) false ∷ map positive variables =
      is ∙ ap (λ (v : ℕ). literal v false ∷ map positive variables) is_variable in
      steps s limits 4 (variable_of s (Present n)) place set (Item n place) clause space (omega arith)
      (item-demand s space n place item variables at are is_meaning other) refl refl refl (item-clause s space n place item variables clause at are made)
      (subst (IsClauseOver (length s.meanings)) (sym made) (over-implied s space (IsMetBy s item) variables (Present n) is_meaning are other)) front

  pub no-items : (m : Meaning) → ((n : ℕ) → m ≢ Present n) → (d : Demand) → IsDemand s d → group_of d ≡ 4 → leading d ≡ m → ⊥
  no-items m other (Item n k) is group lead = other n (sym lead)
  no-items m other d is group lead = omega (arith, group)

  -- ---- conflicts of one package

  pub record IsApart (d : Demand) (n k : ℕ) : Type 0 where
    pub other : Meaning
    pub is : d ≡ Apart n other
    pub variable_is : variable_of s other ≡ k

  pub apart-of : (d : Demand) (n k : ℕ) → group_of d ≡ 5 → leading d ≡ Present n → second_of s d ≡ k ∷ [] → IsApart d n k
  apart-of (Apart number other) n k group lead second =
      let first : number ≡ n = cc in
      record { other = other; is = ap (λ (i : ℕ). Apart i other) first; variable_is = first-number (variable_of s other) k second }
  apart-of d n k group lead second = absurd (omega (arith, group))

  pub no-conflicts : (m : Meaning) → ((n : ℕ) → m ≢ Present n) → (d : Demand) → IsDemand s d → group_of d ≡ 5 → leading d ≡ m → ⊥
  no-conflicts m other (Apart n y) is group lead = other n (sym lead)
  no-conflicts m other d is group lead = omega (arith, group)

  module _ (n : ℕ) (is_meaning : IsMeaning s (Present n)) (others : List ℕ) (are : AreVariablesOf s (ExcludedBy s n) others) where
    rises : (i j : ℕ) → i < j → j < length others → get_or others i 0 < get_or others j 0
    rises i j less short = AllPairs-from_increasing others are.rising i j 0 less short

    -- a demand's variable is one of them
    there : (d : Demand) (k : ℕ) → IsDemand s d → group_of d ≡ 5 → variable_of s (leading d) ≡ variable_of s (Present n) → second_of s d ≡ k ∷ []
        → Contains others k
    there d k is group variable second =
        let apart = apart-of d n k group (leads s d (variable_of s (Present n)) (Present n) space is is_meaning refl variable) second in
        let demand : IsDemand s (Apart n apart.other) = subst (IsDemand s) apart.is is in
        (are.exact k).1 (record { meaning = apart.other; is_meaning = demand.0; has = demand.1; variable_is = apart.variable_is })

    at-index : (k : ℕ) (here : Contains others k) → get_or others here.0 0 ≡ k
    at-index k here = get_or_default others here.0 0 k here.1 ∙ here.2

    -- the meaning of the next variable
    next-with : (count : ℕ) → count < length others → IsVariableWith s (ExcludedBy s n) (get_or others count 0)
    next-with count short = (are.exact (get_or others count 0)).0 (count, short, get_or_default others count (get_or others count 0) 0 short)

    pub next-range : (count : ℕ) → count < length others → (1 ≤ get_or others count 0) × (get_or others count 0 ≤ length s.meanings)
    next-range count short =
        let with = next-with count short in
        let range = variable-range s with.meaning space with.is_meaning in
        (omega (arith, range.0, with.variable_is), omega (arith, range.1, with.variable_is))

    -- the front up to the next variable
    pair-next : (count : ℕ) (set : ClauseList) → count < length others → IsPairFront s limits n others count set
        → IsFront s 5 (variable_of s (Present n)) (get_or others count 0) limits set
    pair-next count set short of =
        front-skip s space limits 5 (variable_of s (Present n)) of.bound (get_or others count 0) set (of.high count (omega arith) short)
        (λ d is group variable k second less.
        let here = there d k is group variable second in
        let same = at-index k here in
        elim (cases_lt here.0 count) [
          | inl early ↦ let h = of.low here.0 early here.1 in omega (arith, h, same)
          | inr late ↦ elim (cases_lt count here.0) [
            | inl later ↦ let h = rises count here.0 later here.1 in absurd (omega (arith, h, same, less))
            | inr most ↦ let at : here.0 ≡ count = omega (arith, late, most) in let also : get_or others here.0 0 ≡ get_or others count 0 =
                ap (λ (i : ℕ). get_or others i 0) at in absurd (omega (arith, also, same, less))
          ]
        ])
        (omega arith) of.front

    pair-at : (count : ℕ) → count < length others → (with : IsVariableWith s (ExcludedBy s n) (get_or others count 0))
        → IsPairAt s 5 (variable_of s (Present n)) (get_or others count 0) (Apart n with.meaning) (Present n) with.meaning false false
    pair-at count short with = record {
      few = omega arith;
      is = (with.is_meaning, with.has);
      group = refl;
      variable = refl;
      second = ap (λ (k : ℕ). k ∷ []) with.variable_is;
      is_clause = refl;
      is_x = is_meaning;
      is_y = with.is_meaning;
      apart = never-itself s n with.meaning with.has;
    }

    -- the clause with the next variable, as it is written
    pub next-steps : (count v : ℕ) (set : ClauseList) (first second : Literal) → count < length others → first ≡ literal v false → v ≡ variable_of s (Present n)
        → second ≡ literal (get_or others count 0) false → IsPairFront s limits n others count set
        → Steps s limits 5 (variable_of s (Present n)) (get_or others count 0) set (first ∷ second ∷ [])
    next-steps count v set first second short is_first is_variable is_second of =
        let with = next-with count short in
        pair-steps s limits 5 (variable_of s (Present n)) (get_or others count 0) set (Apart n with.meaning) (Present n) with.meaning false false first second
        space (pair-at count short with) (written first v (variable_of s (Present n)) false is_first is_variable)
        (written second (get_or others count 0) (variable_of s with.meaning) false is_second (sym with.variable_is)) (pair-next count set short of)

    pub pair-further : (count : ℕ) (new : ClauseList) → count < length others → IsFront s 5 (variable_of s (Present n)) (get_or others count 0 + 1) limits new
        → IsPairFront s limits n others (count + 1) new
    pair-further count new short front = record {
      bound = get_or others count 0 + 1;
      low = λ k less within. elim (cases_lt k count) [
        | inl early ↦ let h = rises k count early short in omega (arith, h)
        | inr most ↦ let same : k ≡ count = omega (arith, less, most) in let also : get_or others k 0 ≡ get_or others count 0 =
            ap (λ (i : ℕ). get_or others i 0) same in omega (arith, also)
      ];
      high = λ k more within. let h = rises count k (omega (arith, more)) within in omega (arith, h);
      front = front;
    }

    pub pairs-end : (count : ℕ) (set : ClauseList) → length others ≤ count → IsPairFront s limits n others count set
        → IsFront s 5 (variable_of s (Present n) + 1) 0 limits set
    pairs-end count set past of =
        front-variable s space limits 5 (variable_of s (Present n)) of.bound set
        (λ d is group variable k second.
        let here = there d k is group variable second in
        let same = at-index k here in
        let h = of.low here.0 (omega (arith, past, here.1)) here.1 in
        omega (arith, h, same))
        (omega arith) of.front
