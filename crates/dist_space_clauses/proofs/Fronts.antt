-- The clauses of the demands below a group, a variable and a number: how they grow, and why a set stops.
use Rattle.std.proofs.Common.{◌≡◌, ◌⊎◌, ℕ, ◌+◌, ◌<◌, ◌≤◌, List, [], ◌∷◌, ◌++◌, Less, nat_cmp, get_or, refl, sym, ap, subst, ◌∙◌, arith, inl, inr, slice_get}
use Rattle.std.specs.Prelude.{IsSomeAnd}
use Rattle.std.specs.Cmp.Lexicographic.{slice_cmp}
use Rattle.std.proofs.lemmas.Bool.{cases_lt}
use Rattle.dist_base.specs.ListLaws.{within-from}
use Rattle.dist_clause.specs.ClauseList.{ClauseList}
use Rattle.dist_clause.specs.DemandLaws as made
use Rattle.dist_clause.specs.Demands.{IsRefused, IsSetLike}
use Rattle.dist_clause.specs.Formula.{Literal}
use Rattle.dist_clause.specs.declared.clause_set.PushError.{PushError}
use Rattle.dist_repo.specs.declared.package.Package.{Package}
use Rattle.dist_space_clauses.specs.GatheringPrivate.{IsBelow, IsCauseAt, IsFront}
use Rattle.dist_space.specs.Space.{IsMeaning, IsSpace, SpaceView, variable_of}
use Rattle.dist_space_clauses.specs.SpaceClauses.{Demand, OneClass, Gone, Moved, Carried, OneFresh, Item, Apart, StaysNow, AbsentNow, Required, Excludes}
use Rattle.dist_space_clauses.specs.SpaceClauses.{IsBefore, IsClauseFor, IsDemand, group_of, leading, rank_of, second_of, space_demands}
use Rattle.dist_space.specs.declared.meaning.Meaning.{Meaning}
use Rattle.dist_space.specs.KeyLaws.{IsLess, cmp-less, less-cmp}
use Rattle.dist_space.specs.VariableLaws.{one-meaning}

-- the meaning that leads a demand is one
pub leading-is : (s : SpaceView) (d : Demand) → IsDemand s d → IsMeaning s (leading d)
leading-is s (OneClass c k l) d = omega (arith, d.0, d.1)
leading-is s (Gone r k) d = d
leading-is s (Moved r k) d = d
leading-is s (Carried r k j) d = d
leading-is s (OneFresh x k l) d = omega (arith, d.0, d.1)
leading-is s (Item number place) d = within-from (λ (p : Package). IsSomeAnd (slice_get p.depends place) _) s.repository.packages number d
leading-is s (Apart number other) d = within-from (λ (p : Package). Excludes s number p other) s.repository.packages number d.1
leading-is s (StaysNow c k) d = d
leading-is s (AbsentNow x k) d = d
leading-is s (Required name) d = tt

pub leads : (s : SpaceView) (d : Demand) (v : ℕ) (m : Meaning) → IsSpace s → IsDemand s d → IsMeaning s m → variable_of s m ≡ v → variable_of s (leading d) ≡ v
    → leading d ≡ m
leads s d v m space demand is first second = one-meaning s (leading d) m space (leading-is s d demand) is (second ∙ sym first)

-- ---- ranks

-- what is below a rank
pub below-cases : (s : SpaceView) (d : Demand) (g v b : ℕ) → slice_cmp nat_cmp (rank_of s d) (g ∷ v ∷ b ∷ []) ≡ Less → IsLess (rank_of s d) (g ∷ v ∷ b ∷ [])
below-cases s d g v b less = cmp-less (rank_of s d) (g ∷ v ∷ b ∷ []) less

pub cases-below : (s : SpaceView) (d : Demand) (g v b : ℕ) → IsLess (rank_of s d) (g ∷ v ∷ b ∷ []) → slice_cmp nat_cmp (rank_of s d) (g ∷ v ∷ b ∷ []) ≡ Less
cases-below s d g v b less = less-cmp (rank_of s d) (g ∷ v ∷ b ∷ []) less

-- a demand that is no name has one number behind its variable
pub second-one : (s : SpaceView) (d : Demand) → group_of d < 7 → (b : ℕ) × (second_of s d ≡ b ∷ [])
second-one s (OneClass c k l) few = (l, refl)
second-one s (Gone r k) few = (0, refl)
second-one s (Moved r k) few = (1, refl)
second-one s (Carried r k j) few = (0, refl)
second-one s (OneFresh x k l) few = (l, refl)
second-one s (Item number place) few = (place, refl)
second-one s (Apart number other) few = (variable_of s other, refl)
second-one s (StaysNow c k) few = (0, refl)
second-one s (AbsentNow x k) few = (0, refl)
second-one s (Required name) few = absurd (omega (arith, few))

pub first-number : (a b : ℕ) → ◌≡◌ {A = List ℕ} (a ∷ []) (b ∷ []) → a ≡ b
first-number a b same = ap (λ (xs : List ℕ). get_or xs 0 0) same

-- below the next number is what is below this one, and what has it
pub next-number : (s : SpaceView) (d : Demand) (g v b : ℕ) → g < 7 → IsLess (rank_of s d) (g ∷ v ∷ (b + 1) ∷ []) → IsLess (rank_of s d) (g ∷ v ∷ b ∷ [])
    ⊎ ((group_of d ≡ g) × (variable_of s (leading d) ≡ v) × (second_of s d ≡ b ∷ []))
next-number s d g v b few (inl less) = inl (inl less)
next-number s d g v b few (inr (group, inl less)) = inl (inr (group, inl less))
next-number s d g v b few (inr (group, inr (variable, second))) =
    let one = second-one s d (omega (arith, group, few)) in
    let Second : List ℕ → Type 0 = λ xs. IsLess xs ((b + 1) ∷ []) in
    elim (subst Second one.1 second) [
      | inl less ↦ elim (cases_lt one.0 b) [
        | inl below ↦ let Less : List ℕ → Type 0 = λ xs. IsLess xs (b ∷ []) in inl (inr (group, inr (variable, subst Less (sym one.1) (inl below))))
        | inr past ↦ let same : one.0 ≡ b = omega (arith, less, past) in inr (group, variable, one.1 ∙ ap (λ (n : ℕ). n ∷ []) same)
      ]
      | inr more ↦ absurd more.1
    ]

pub number-less : (s : SpaceView) (d : Demand) (g v b c : ℕ) → b ≤ c → IsLess (rank_of s d) (g ∷ v ∷ b ∷ []) → IsLess (rank_of s d) (g ∷ v ∷ c ∷ [])
number-less s d g v b c up (inl less) = inl less
number-less s d g v b c up (inr (group, inl less)) = inr (group, inl less)
number-less s d g v b c up (inr (group, inr (variable, second))) = inr (group, inr (variable, weaker (second_of s d) second))
  where
    weaker : (xs : List ℕ) → IsLess xs (b ∷ []) → IsLess xs (c ∷ [])
    weaker [] less = tt
    weaker (x ∷ xs) (inl less) = inl (omega (arith, less, up))
    weaker (x ∷ []) (inr more) = absurd more.1
    weaker (x ∷ (y ∷ ys)) (inr more) = absurd more.1

-- ---- one demand of a rank

pub rank-one : (s : SpaceView) (d e : Demand) → IsSpace s → IsDemand s d → IsDemand s e → group_of d ≡ group_of e → leading d ≡ leading e
    → second_of s d ≡ second_of s e → d ≡ e
rank-one s (OneClass c k l) (OneClass n i j) space is_d is_e group lead second = cc
rank-one s (Gone r k) (Gone n i) space is_d is_e group lead second = cc
rank-one s (Gone r k) (Moved n i) space is_d is_e group lead second = absurd (omega (arith, first-number 0 1 second))
rank-one s (Gone r k) (Carried n i j) space is_d is_e group lead second = cc
rank-one s (Moved r k) (Gone n i) space is_d is_e group lead second = absurd (omega (arith, first-number 1 0 second))
rank-one s (Moved r k) (Moved n i) space is_d is_e group lead second = cc
rank-one s (Moved r k) (Carried n i j) space is_d is_e group lead second = cc
rank-one s (Carried r k l) (Gone n i) space is_d is_e group lead second = cc
rank-one s (Carried r k l) (Moved n i) space is_d is_e group lead second = cc
rank-one s (Carried r k l) (Carried n i j) space is_d is_e group lead second = cc
rank-one s (OneFresh x k l) (OneFresh n i j) space is_d is_e group lead second = cc
rank-one s (Item number place) (Item n i) space is_d is_e group lead second = cc
rank-one s (Apart number other) (Apart n m) space is_d is_e group lead second =
    let same : other ≡ m = one-meaning s other m space is_d.0 is_e.0 (first-number (variable_of s other) (variable_of s m) second) in cc
rank-one s (StaysNow c k) (StaysNow n i) space is_d is_e group lead second = cc
rank-one s (StaysNow c k) (AbsentNow n i) space is_d is_e group lead second = cc
rank-one s (AbsentNow x k) (StaysNow n i) space is_d is_e group lead second = cc
rank-one s (AbsentNow x k) (AbsentNow n i) space is_d is_e group lead second = cc
rank-one s (Required name) (Required other) space is_d is_e group lead second = ap (λ (x : List ℕ). Required x) second
rank-one s d e space is_d is_e group lead second = absurd (omega (arith, group))

-- ---- fronts

module _ (s : SpaceView) (space : IsSpace s) (limits : ClauseList) where
  -- to a greater number with no demand in between
  pub front-skip : (g v b c : ℕ) (set : ClauseList) → b ≤ c
      → ((d : Demand) → IsDemand s d → group_of d ≡ g → variable_of s (leading d) ≡ v → (n : ℕ) → second_of s d ≡ n ∷ [] → n < c → n < b) → g < 7
      → IsFront s g v b limits set → IsFront s g v c limits set
  front-skip g v b c set up none few of =
      made.set-shift (space_demands s) (IsBelow s g v b) (IsBelow s g v c) limits.clause_limit limits.literal_limit set
      (λ d h. (h.0, cases-below s d g v c (number-less s d g v b c up (below-cases s d g v b h.1))))
      (λ d h. (h.0, cases-below s d g v b (back d h.0 (below-cases s d g v c h.1)))) of
    where
      back : (d : Demand) → IsDemand s d → IsLess (rank_of s d) (g ∷ v ∷ c ∷ []) → IsLess (rank_of s d) (g ∷ v ∷ b ∷ [])
      back d is (inl less) = inl less
      back d is (inr (group, inl less)) = inr (group, inl less)
      back d is (inr (group, inr (variable, second))) =
          let one = second-one s d (omega (arith, group, few)) in
          let Below : List ℕ → Type 0 = λ xs. IsLess xs (c ∷ []) in
          let At : List ℕ → Type 0 = λ xs. IsLess xs (b ∷ []) in
          elim (subst Below one.1 second) [
            | inl less ↦ inr (group, inr (variable, subst At (sym one.1) (inl (none d is group variable one.0 one.1 less))))
            | inr more ↦ absurd more.1
          ]

  -- to the next variable, where no demand of this one is left
  pub front-variable : (g v b : ℕ) (set : ClauseList) → ((d : Demand) → IsDemand s d → group_of d ≡ g → variable_of s (leading d) ≡ v → (n : ℕ)
      → second_of s d ≡ n ∷ [] → n < b) → g < 7 → IsFront s g v b limits set → IsFront s g (v + 1) 0 limits set
  front-variable g v b set all few of =
      made.set-shift (space_demands s) (IsBelow s g v b) (IsBelow s g (v + 1) 0) limits.clause_limit limits.literal_limit set
      (λ d h. (h.0, cases-below s d g (v + 1) 0 (to d (below-cases s d g v b h.1))))
      (λ d h. (h.0, cases-below s d g v b (back d h.0 (below-cases s d g (v + 1) 0 h.1)))) of
    where
      to : (d : Demand) → IsLess (rank_of s d) (g ∷ v ∷ b ∷ []) → IsLess (rank_of s d) (g ∷ (v + 1) ∷ 0 ∷ [])
      to d (inl less) = inl less
      to d (inr (group, inl less)) = inr (group, inl (omega (arith, less)))
      to d (inr (group, inr (variable, second))) = inr (group, inl (omega (arith, variable)))

      at-zero : (xs : List ℕ) (n : ℕ) → xs ≡ n ∷ [] → ¬ IsLess xs (0 ∷ [])
      at-zero xs n is less = let Zero : List ℕ → Type 0 = λ ys. IsLess ys (0 ∷ []) in elim (subst Zero is less) [
        | inl below ↦ omega (arith, below)
        | inr more ↦ more.1
      ]

      back : (d : Demand) → IsDemand s d → IsLess (rank_of s d) (g ∷ (v + 1) ∷ 0 ∷ []) → IsLess (rank_of s d) (g ∷ v ∷ b ∷ [])
      back d is (inl less) = inl less
      back d is (inr (group, inr (variable, second))) = let one = second-one s d (omega (arith, group, few)) in
          absurd (at-zero (second_of s d) one.0 one.1 second)
      back d is (inr (group, inl less)) = elim (cases_lt (variable_of s (leading d)) v) [
        | inl below ↦ inr (group, inl below)
        | inr past ↦
            let one = second-one s d (omega (arith, group, few)) in
            let same : variable_of s (leading d) ≡ v = omega (arith, less, past) in
            let At : List ℕ → Type 0 = λ xs. IsLess xs (b ∷ []) in
            inr (group, inr (same, subst At (sym one.1) (inl (all d is group same one.0 one.1))))
      ]

  -- with the clause of the demand at this place
  pub front-more : (g v b : ℕ) (set : ClauseList) (d : Demand) (clause : List Literal) → g < 7 → IsDemand s d → group_of d ≡ g → variable_of s (leading d) ≡ v
      → second_of s d ≡ b ∷ [] → IsClauseFor s d clause
      → IsFront s g v b limits set → IsFront s g v (b + 1) limits (record set { clauses = set.clauses ++ clause ∷ [] })
  front-more g v b set d clause few is group variable second is_clause of =
      made.set-more (space_demands s) (IsBelow s g v b) (IsBelow s g v (b + 1)) limits.clause_limit limits.literal_limit set d clause of is_clause before cases
      (λ e h. (h.0, cases-below s e g v (b + 1) (number-less s e g v b (b + 1) (omega arith) (below-cases s e g v b h.1))))
      (is, cases-below s d g v (b + 1) here)
    where
      rank_is : rank_of s d ≡ g ∷ v ∷ b ∷ []
      rank_is = ap (λ (x : ℕ). x ∷ variable_of s (leading d) ∷ second_of s d) group ∙ ap (λ (x : ℕ). g ∷ x ∷ second_of s d) variable
          ∙ ap (λ (xs : List ℕ). g ∷ v ∷ xs) second

      here : IsLess (rank_of s d) (g ∷ v ∷ (b + 1) ∷ [])
      here = let Below : List ℕ → Type 0 = λ xs. IsLess xs (g ∷ v ∷ (b + 1) ∷ []) in subst Below (sym rank_is) (inr (refl, inr (refl, inl (omega arith))))

      before : (e : Demand) → IsBelow s g v b e → IsBefore s e d
      before e h = let To : List ℕ → Type 0 = λ xs. slice_cmp nat_cmp (rank_of s e) xs ≡ Less in subst To (sym rank_is) h.1

      cases : (e : Demand) → IsBelow s g v (b + 1) e → IsBelow s g v b e ⊎ (d ≡ e)
      cases e h = elim (next-number s e g v b few (below-cases s e g v (b + 1) h.1)) [
        | inl less ↦ inl (h.0, cases-below s e g v b less)
        | inr same ↦
            let lead : leading d ≡ leading e = one-meaning s (leading d) (leading e) space (leading-is s d is) (leading-is s e h.0) (variable ∙ sym same.1) in
            inr (rank-one s d e space is h.0 (group ∙ sym same.0) lead (second ∙ sym same.2))
      ]

  -- why a set stops at this place
  pub front-stops : (g v b : ℕ) (set : ClauseList) (d : Demand) (clause : List Literal) (error : PushError) → IsDemand s d → group_of d ≡ g
      → variable_of s (leading d) ≡ v → second_of s d ≡ b ∷ [] → IsClauseFor s d clause
      → IsFront s g v b limits set → IsRefused set clause error → IsCauseAt s limits error
  front-stops g v b set d clause error is group variable second is_clause of refused =
      let rank_is : rank_of s d ≡ g ∷ v ∷ b ∷ [] =
      ap (λ (x : ℕ). x ∷ variable_of s (leading d) ∷ second_of s d) group ∙ ap (λ (x : ℕ). g ∷ x ∷ second_of s d) variable
      ∙ ap (λ (xs : List ℕ). g ∷ v ∷ xs) second in
      let Of : List ℕ → Type 0 = λ xs. IsSetLike (space_demands s) (λ e. IsDemand s e × (slice_cmp nat_cmp (rank_of s e) xs ≡ Less)) limits set in
      made.stops (space_demands s) (IsDemand s) set limits d clause error (subst Of (sym rank_is) of) is is_clause refused
