-- There is a list of the clauses of a space: what a demand asks is decided, and each demand has a clause.
use Rattle.std.proofs.Common.{◌≡◌, ◌≢◌, ◌⊎◌, ℕ, zero, suc, ◌+◌, ◌-◌, ◌<◌, ◌≤◌, List, [], ◌∷◌, ◌++◌, length, map, take, refl, sym, ap, subst, ◌∙◌, arith, inl}
use Rattle.std.proofs.Common.{inr, slice_get}
use Rattle.std.specs.Prelude.{◌↔◌, AllPairs, Any, Contains, IsSomeAnd, slice_index}
use Rattle.std.proofs.lemmas.Bool.{cases_lt}
use Rattle.dist_base.specs.ListLaws.{any-contained, contains-at, element-at, ElementAt, has-at, here-at, pairs-head, pairs-tail, within-from}
use Rattle.dist_clause.specs.ClauseList.{ClauseList}
use Rattle.dist_clause.specs.DemandLaws as made
use Rattle.dist_clause.specs.Formula.{Literal}
use Rattle.dist_relation.specs.declared.atom.Atom.{Atom}
use Rattle.dist_repo.specs.Conflict.{AreInConflict}
use Rattle.dist_repo.specs.DecidedLaws.{any-decided, at-decided, both-decided, conflict-decided, IsDecided, matches-decided, not-decided, some-decided}
use Rattle.dist_repo.specs.DecidedLaws.{text-decided}
use Rattle.dist_repo.specs.Match.{Matches}
use Rattle.dist_repo.specs.Healthy.{required_names}
use Rattle.dist_repo.specs.PackageList.{IsPackageAnd}
use Rattle.dist_repo.specs.declared.package.Package.{Package}
use Rattle.dist_space_clauses.specs.GatheringPrivate.{IsFront, IsGroupsFront}
use Rattle.dist_space.specs.Space.{AreMeaningsOf, IsMeaning, IsMetBy, IsSpace, SpaceView, StandsBefore, name_of, variable_of}
use Rattle.dist_space_clauses.specs.SpaceClauses.{Demand, OneClass, Gone, Moved, Carried, OneFresh, Item, Apart, StaysNow, AbsentNow, Required, AreSpaceClauses}
use Rattle.dist_space_clauses.specs.SpaceClauses.{Excludes, IsBearer, IsBefore, IsClauseFor, IsDemand, group_of, leading, rank_of, no, second_of, yes}
use Rattle.dist_space_clauses.specs.SpaceClauses.{space_demands}
use Rattle.dist_space_clauses.specs.SpaceSet.{IsSetOf}
use Rattle.dist_space_clauses.specs.GroupsPrivate.{class_of, classes_of, group_for}
use Rattle.dist_space_clauses.specs.declared.classed.Classed.{Classed}
use Rattle.dist_space_clauses.specs.declared.classed.Classed.TheVariants.{Cluster, Name}
use Rattle.dist_space.specs.declared.meaning.Meaning.{Meaning}
use Rattle.dist_space.specs.declared.meaning.Meaning.TheVariants.{Now, Present, At, New, Kept, Fresh}
use Rattle.dist_space_clauses.specs.DecidedLaws.{bearer-decided, less-decided, met-decided}
use Rattle.dist_space_clauses.specs.ItemLaws.{item-at}
use Rattle.dist_space_clauses.proofs.Fronts.{front-more, front-skip, front-variable, leads}
use Rattle.dist_space.specs.VariableLaws.{one-meaning, variable-range, variable-back}
use Rattle.dist_space_clauses.proofs.Gathered.{any-none, any-take, any-take-back, any-whole}
use Rattle.dist_space_clauses.proofs.GroupFronts.{apart-of, groups-close, groups-none, groups-open, item-from, no-conflicts, no-items}
use Rattle.dist_space_clauses.proofs.LedFronts.{carried-of, later-of, moves-of, no-later, no-moves, no-today, today-of}
use Rattle.dist_space.specs.KeyLaws.{cmp-less, less-cmp}
use Rattle.dist_space_clauses.proofs.NameFronts.{group-cases}
use Rattle.dist_space_clauses.proofs.SortedNames.{InOrder, IsLess, first-less, in-order}
use Rattle.dist_space.specs.RisingLaws.{contains-cons, contains-first, contains-later, pairs-cons, pairs-none}

-- ---- what is decided

module _ (s : SpaceView) where
  other-decided : (p : Package) (m : Meaning) → IsDecided (IsSomeAnd (name_of s m) (λ name. name ≢ p.name) × IsMetBy s p.conflicts m)
  other-decided p m = both-decided (some-decided (λ (name : List ℕ). name ≢ p.name) (λ name. not-decided (text-decided name p.name)) (name_of s m))
      (met-decided s p.conflicts m)

  excludes-decided : (n : ℕ) (p : Package) (m : Meaning) → IsDecided (Excludes s n p m)
  excludes-decided n p (Present other) = both-decided (less-decided n other)
      (at-decided (AreInConflict s.repository.architecture p) (conflict-decided s.repository.architecture p) s.repository.packages other)
  excludes-decided n p Now = other-decided p Now
  excludes-decided n p (At c k) = other-decided p (At c k)
  excludes-decided n p (New r k) = other-decided p (New r k)
  excludes-decided n p (Kept r k j) = other-decided p (Kept r k j)
  excludes-decided n p (Fresh x k) = other-decided p (Fresh x k)

  item-decided : (n place : ℕ) → IsDecided (IsDemand s (Item n place))
  item-decided n place = at-decided (λ (p : Package). IsSomeAnd (slice_get p.depends place)
      (λ item. ¬ Any (λ atom. Matches s.repository.architecture atom p) item))
      (λ p. at-decided (λ (item : List Atom). ¬ Any (λ atom. Matches s.repository.architecture atom p) item)
      (λ item. not-decided (any-decided (λ atom. Matches s.repository.architecture atom p) (λ atom. matches-decided s.repository.architecture atom p) item))
      p.depends place) s.repository.packages n

  excluded-decided : (n : ℕ) (m : Meaning) → IsDecided (IsPackageAnd s.repository.packages n (λ p. Excludes s n p m))
  excluded-decided n m = at-decided (λ (p : Package). Excludes s n p m) (λ p. excludes-decided n p m) s.repository.packages n

  -- ---- the meanings with a property, and a clause for each demand

  record Chosen (P : Meaning → Type 0) (xs : List Meaning) : Type 0 where
    meanings : List Meaning
    rising : AllPairs (StandsBefore s) meanings
    exact : (m : Meaning) → Contains meanings m ↔ (Contains xs m × P m)

  chosen : (P : Meaning → Type 0) → ((m : Meaning) → IsDecided (P m)) → (xs : List Meaning) → AllPairs (StandsBefore s) xs → Chosen P xs
  chosen P each [] rising = record {
    meanings = [];
    rising = pairs-none (StandsBefore s);
    exact = λ m. ((λ there. absurd (omega (arith, there.1))), λ both. absurd (omega (arith, both.0.1)));
  }
  chosen P each (x ∷ xs) rising = by (each x) (chosen P each xs (pairs-tail (StandsBefore s) x xs rising))
    where
      by : IsDecided (P x) → Chosen P xs → Chosen P (x ∷ xs)
      by (inl here) rest = record {
        meanings = x ∷ rest.meanings;
        rising = pairs-cons (StandsBefore s) x rest.meanings (λ y there. pairs-head (StandsBefore s) x xs rising y ((rest.exact y).0 there).0) rest.rising;
        exact = λ m. (
          (λ there. elim (contains-cons x m rest.meanings there) [
            | inl same ↦ subst (λ (y : Meaning). Contains (x ∷ xs) y × P y) same (contains-first x xs, here)
            | inr later ↦ let both = (rest.exact m).0 later in (contains-later x m xs both.0, both.1)
          ]),
          λ both. elim (contains-cons x m xs both.0) [
            | inl same ↦ subst (Contains (x ∷ rest.meanings)) same (contains-first x rest.meanings)
            | inr later ↦ contains-later x m rest.meanings ((rest.exact m).1 (later, both.1))
          ],
        );
      }
      by (inr none) rest = record {
        meanings = rest.meanings;
        rising = rest.rising;
        exact = λ m. (
          (λ there. let both = (rest.exact m).0 there in (contains-later x m xs both.0, both.1)),
          λ both. elim (contains-cons x m xs both.0) [
            | inl same ↦ absurd (none (subst P (sym same) both.1))
            | inr later ↦ (rest.exact m).1 (later, both.1)
          ],
        );
      }

  module _ (space : IsSpace s) where
    record SomeMeanings (P : Meaning → Type 0) : Type 0 where
      meanings : List Meaning
      are : AreMeaningsOf s P meanings

    some-meanings : (P : Meaning → Type 0) → ((m : Meaning) → IsDecided (P m)) → SomeMeanings P
    some-meanings P each =
        let all = chosen P each s.meanings space.meanings.rising in
        record {
          meanings = all.meanings;
          are = record {
            rising = all.rising;
            exact = λ m. (
              (λ there. let both = (all.exact m).0 there in (((space.meanings.exact m).0 both.0).0, both.1)),
              λ both. (all.exact m).1 ((space.meanings.exact m).1 (both.0, tt), both.1),
            );
          };
        }

    record SomeClause (d : Demand) : Type 0 where
      clause : List Literal
      is_clause : IsClauseFor s d clause

    has-clause : (d : Demand) → IsDemand s d → SomeClause d
    has-clause (OneClass c k l) demand = record { clause = no s (At c k) ∷ no s (At c l) ∷ []; is_clause = refl }
    has-clause (Gone r k) demand = record { clause = no s (Present r) ∷ no s (At (slice_index s.cluster_of r) k) ∷ []; is_clause = refl }
    has-clause (Moved r k) demand = record { clause = no s (New r k) ∷ yes s (At (slice_index s.cluster_of r) k) ∷ []; is_clause = refl }
    has-clause (Carried r k j) demand = record { clause = no s (Kept r k j) ∷ yes s (New r k) ∷ []; is_clause = refl }
    has-clause (OneFresh x k l) demand = record { clause = no s (Fresh x k) ∷ no s (Fresh x l) ∷ []; is_clause = refl }
    has-clause (Item n place) demand =
        let holder = here-at (λ (p : Package). IsSomeAnd (slice_get p.depends place) (λ item. ¬ Any (λ atom. Matches s.repository.architecture atom p) item))
        s.repository.packages n demand in
        let item = here-at (λ (i : List Atom). ¬ Any (λ atom. Matches s.repository.architecture atom holder.element) i) holder.element.depends place
        holder.holds in
        let some = some-meanings (IsMetBy s item.element) (met-decided s item.element) in
        record {
          clause = no s (Present n) ∷ map (yes s) some.meanings;
          is_clause = (
            some.meanings,
            item-at s n place (λ p i. AreMeaningsOf s (IsMetBy s i) some.meanings) holder.element item.element holder.is item.is
                some.are,
            refl,
          );
        }
    has-clause (Apart n other) demand = record { clause = no s (Present n) ∷ no s other ∷ []; is_clause = refl }
    has-clause (StaysNow c k) demand = record { clause = no s Now ∷ no s (At c k) ∷ []; is_clause = refl }
    has-clause (AbsentNow x k) demand = record { clause = no s Now ∷ no s (Fresh x k) ∷ []; is_clause = refl }
    has-clause (Required name) demand = let some = some-meanings (IsBearer s name) (bearer-decided s name) in
        record { clause = map (yes s) some.meanings; is_clause = (some.meanings, some.are, refl) }

    -- ---- one place after another

    record SomeSet (P : ClauseList → Type 0) : Type 0 where
      set : ClauseList
      has : P set

    abbrev empty : ClauseList
    empty = record { clauses = []; variables = length s.meanings; clause_limit = 0; literal_limit = 0 }

    abbrev At_ : (g v b : ℕ) → Type 0
    At_ g v b = SomeSet (IsFront s g v b empty)

    -- a demand at a place
    record RankAt (g v b : ℕ) : Type 0 where
      demand : Demand
      is : IsDemand s demand
      group : group_of demand ≡ g
      variable : variable_of s (leading demand) ≡ v
      second : second_of s demand ≡ b ∷ []

    place-step : (g v b : ℕ) → g < 7 → IsDecided (RankAt g v b) → At_ g v b → At_ g v (b + 1)
    place-step g v b few (inl at) before =
        let some = has-clause at.demand at.is in
        record {
          set = record before.set { clauses = before.set.clauses ++ some.clause ∷ [] };
          has = front-more s space empty g v b before.set at.demand some.clause few at.is at.group at.variable at.second some.is_clause before.has;
        }
    place-step g v b few (inr none) before = record {
      set = before.set;
      has = front-skip s space empty g v b (b + 1) before.set (omega arith)
          (λ d is group variable n second less. elim (cases_lt n b) [
            | inl below ↦ below
            | inr most ↦ absurd (none (record {
              demand = d;
              is = is;
              group = group;
              variable = variable;
              second = let same : n ≡ b = omega (arith, less, most) in second ∙ ap (λ (i : ℕ). i ∷ []) same;
            }))
          ])
          few before.has;
    }

    -- which demands one variable leads in a group
    record Walk (g v : ℕ) : Type 0 where
      bound : ℕ
      decide : (b : ℕ) → IsDecided (RankAt g v b)
      within : (b : ℕ) → RankAt g v b → b < bound

    places-to : (g v b : ℕ) → g < 7 → Walk g v → At_ g v 0 → At_ g v b
    places-to g v zero few walk start = start
    places-to g v (suc b) few walk start =
        let next : b + 1 ≡ suc b = omega arith in subst (At_ g v) next (place-step g v b few (walk.decide b) (places-to g v b few walk start))

    variable-step : (g v : ℕ) → g < 7 → Walk g v → At_ g v 0 → At_ g (v + 1) 0
    variable-step g v few walk start =
        let all = places-to g v walk.bound few walk start in
        record {
          set = all.set;
          has = front-variable s space empty g v walk.bound all.set
              (λ d is group variable n second. walk.within n (record { demand = d; is = is; group = group; variable = variable; second = second })) few all.has;
        }

    -- ---- what each variable leads

    module _ (v : ℕ) (m : Meaning) (is_meaning : IsMeaning s m) (variable_is : variable_of s m ≡ v) where
      led : (g b : ℕ) (at : RankAt g v b) → leading at.demand ≡ m
      led g b at = leads s at.demand v m space at.is is_meaning variable_is at.variable

      nothing : (g : ℕ) → ((d : Demand) → IsDemand s d → group_of d ≡ g → leading d ≡ m → ⊥) → Walk g v
      nothing g none = record {
        bound = 0;
        decide = λ b. inr (λ at. none at.demand at.is at.group (led g b at));
        within = λ b at. absurd (none at.demand at.is at.group (led g b at));
      }

      -- one demand, at the first place
      single : (g : ℕ) (d : Demand) → IsDemand s d → group_of d ≡ g → leading d ≡ m → second_of s d ≡ 0 ∷ [] → ((b : ℕ) → RankAt g v b → b < 1) → Walk g v
      single g d is group lead second first = record {
        bound = 1;
        decide = λ b. elim (cases_lt b 1) [
          | inl less ↦ inl (record {
            demand = d;
            is = is;
            group = group;
            variable = ap (variable_of s) lead ∙ variable_is;
            second = let same : 0 ≡ b = omega (arith, less) in second ∙ ap (λ (i : ℕ). i ∷ []) same;
          })
          | inr past ↦ inr (λ at. let h = first b at in omega (arith, h, past))
        ];
        within = first;
      }

    -- the classes of a cluster, or of a new name
    later-walk : (kind : Classed) (v n k : ℕ) → IsMeaning s (class_of kind n k) → variable_of s (class_of kind n k) ≡ v → Walk (group_for kind) v
    later-walk kind v n k is variable = record {
      bound = length (classes_of s kind n);
      decide = λ b. elim (both-decided (less-decided k b) (less-decided b (length (classes_of s kind n)))) [
        | inl both ↦ inl (at-later kind b both variable)
        | inr none ↦ inr (λ at. none (later-of s kind at.demand n k b at.is at.group (led v (class_of kind n k) is variable (group_for kind) b at) at.second))
      ];
      within = λ b at. (later-of s kind at.demand n k b at.is at.group (led v (class_of kind n k) is variable (group_for kind) b at) at.second).1;
    }
      where
        at-later : (other : Classed) (b : ℕ) → (k < b) × (b < length (classes_of s other n)) → variable_of s (class_of other n k) ≡ v
            → RankAt (group_for other) v b
        at-later Cluster b both variable = record { demand = OneClass n k b; is = both; group = refl; variable = variable; second = refl }
        at-later Name b both variable = record { demand = OneFresh n k b; is = both; group = refl; variable = variable; second = refl }

    classes-walk : (v : ℕ) (m : Meaning) → IsMeaning s m → variable_of s m ≡ v → Walk 1 v
    classes-walk v (At c k) is variable = later-walk Cluster v c k is variable
    classes-walk v Now is variable = nothing v Now is variable 1 (no-later s Cluster Now (λ c k same. cc))
    classes-walk v (Present r) is variable = nothing v (Present r) is variable 1 (no-later s Cluster (Present r) (λ c k same. cc))
    classes-walk v (New r l) is variable = nothing v (New r l) is variable 1 (no-later s Cluster (New r l) (λ c k same. cc))
    classes-walk v (Kept r l j) is variable = nothing v (Kept r l j) is variable 1 (no-later s Cluster (Kept r l j) (λ c k same. cc))
    classes-walk v (Fresh x l) is variable = nothing v (Fresh x l) is variable 1 (no-later s Cluster (Fresh x l) (λ c k same. cc))

    moves-walk : (v : ℕ) (m : Meaning) → IsMeaning s m → variable_of s m ≡ v → Walk 2 v
    moves-walk v (New r k) is variable = record {
      bound = 2;
      decide = λ b. elim (cases_lt b 1) [
        | inl first ↦ inl (record {
          demand = Gone r k;
          is = is;
          group = refl;
          variable = variable;
          second = let same : 0 ≡ b = omega (arith, first) in ap (λ (i : ℕ). i ∷ []) same;
        })
        | inr past ↦ elim (cases_lt b 2) [
          | inl then ↦ inl (record {
            demand = Moved r k;
            is = is;
            group = refl;
            variable = variable;
            second = let same : 1 ≡ b = omega (arith, past, then) in ap (λ (i : ℕ). i ∷ []) same;
          })
          | inr more ↦ inr (λ at. let h = moves-of s at.demand r k b at.is at.group (led v (New r k) is variable 2 b at) at.second in omega (arith, h, more))
        ]
      ];
      within = λ b at. moves-of s at.demand r k b at.is at.group (led v (New r k) is variable 2 b at) at.second;
    }
    moves-walk v (Kept r k j) is variable =
        single v (Kept r k j) is variable 2 (Carried r k j) is refl refl refl
        (λ b at. carried-of s at.demand r k j b at.is at.group (led v (Kept r k j) is variable 2 b at) at.second)
    moves-walk v Now is variable = nothing v Now is variable 2 (no-moves s Now (λ r k same. cc) (λ r k j same. cc))
    moves-walk v (Present n) is variable = nothing v (Present n) is variable 2 (no-moves s (Present n) (λ r k same. cc) (λ r k j same. cc))
    moves-walk v (At c l) is variable = nothing v (At c l) is variable 2 (no-moves s (At c l) (λ r k same. cc) (λ r k j same. cc))
    moves-walk v (Fresh x l) is variable = nothing v (Fresh x l) is variable 2 (no-moves s (Fresh x l) (λ r k same. cc) (λ r k j same. cc))

    fresh-walk : (v : ℕ) (m : Meaning) → IsMeaning s m → variable_of s m ≡ v → Walk 3 v
    fresh-walk v (Fresh x k) is variable = later-walk Name v x k is variable
    fresh-walk v Now is variable = nothing v Now is variable 3 (no-later s Name Now (λ c k same. cc))
    fresh-walk v (Present r) is variable = nothing v (Present r) is variable 3 (no-later s Name (Present r) (λ c k same. cc))
    fresh-walk v (At c l) is variable = nothing v (At c l) is variable 3 (no-later s Name (At c l) (λ x k same. cc))
    fresh-walk v (New r l) is variable = nothing v (New r l) is variable 3 (no-later s Name (New r l) (λ c k same. cc))
    fresh-walk v (Kept r l j) is variable = nothing v (Kept r l j) is variable 3 (no-later s Name (Kept r l j) (λ c k same. cc))

    items-walk : (v : ℕ) (m : Meaning) → IsMeaning s m → variable_of s m ≡ v → Walk 4 v
    items-walk v (Present n) is variable = record {
      bound = length p.element.depends;
      decide = λ b. elim (item-decided n b) [
        | inl demand ↦ inl (record { demand = Item n b; is = demand; group = refl; variable = variable; second = refl })
        | inr none ↦ inr (λ at. none (from b at))
      ];
      within = λ b at.
          let Other : Package → List Atom → Type 0 = λ q item. ¬ Any (λ atom. Matches s.repository.architecture atom q) item in
          within-from (Other p.element) p.element.depends b (has-at (λ (q : Package). IsSomeAnd (slice_get q.depends b) (Other q)) s.repository.packages n
          p.element p.is (from b at));
    }
      where
        p : ElementAt s.repository.packages n
        p = element-at s.repository.packages n is

        from : (b : ℕ) → RankAt 4 v b → IsDemand s (Item n b)
        from b at = item-from s space empty n is at.demand b at.is at.group (at.variable ∙ sym variable) at.second
    items-walk v Now is variable = nothing v Now is variable 4 (no-items s space empty Now (λ n same. cc))
    items-walk v (At c l) is variable = nothing v (At c l) is variable 4 (no-items s space empty (At c l) (λ n same. cc))
    items-walk v (New r l) is variable = nothing v (New r l) is variable 4 (no-items s space empty (New r l) (λ n same. cc))
    items-walk v (Kept r l j) is variable = nothing v (Kept r l j) is variable 4 (no-items s space empty (Kept r l j) (λ n same. cc))
    items-walk v (Fresh x l) is variable = nothing v (Fresh x l) is variable 4 (no-items s space empty (Fresh x l) (λ n same. cc))

    conflicts-walk : (v : ℕ) (m : Meaning) → IsMeaning s m → variable_of s m ≡ v → Walk 5 v
    conflicts-walk v (Present n) is variable = record {
      bound = length s.meanings + 1;
      decide = decide;
      within = λ b at. let range = ranged b at in omega (arith, range.1);
    }
      where
        ranged : (b : ℕ) → RankAt 5 v b → (1 ≤ b) × (b ≤ length s.meanings)
        ranged b at =
            let apart = apart-of s space empty at.demand n b at.group (led v (Present n) is variable 5 b at) at.second in
            let demand : IsDemand s (Apart n apart.other) = subst (IsDemand s) apart.is at.is in
            let range = variable-range s apart.other space demand.0 in
            (omega (arith, range.0, apart.variable_is), omega (arith, range.1, apart.variable_is))

        of : (b : ℕ) (other : Meaning) → IsMeaning s other → variable_of s other ≡ b → IsDecided (RankAt 5 v b)
        of b other meaning other_is = elim (excluded-decided n other) [
          | inl excluded ↦ inl (record {
            demand = Apart n other;
            is = (meaning, excluded);
            group = refl;
            variable = variable;
            second = ap (λ (i : ℕ). i ∷ []) other_is;
          })
          | inr none ↦ inr (λ at.
              let apart = apart-of s space empty at.demand n b at.group (led v (Present n) is variable 5 b at) at.second in
              let demand : IsDemand s (Apart n apart.other) = subst (IsDemand s) apart.is at.is in
              let same : apart.other ≡ other = one-meaning s apart.other other space demand.0 meaning (apart.variable_is ∙ sym other_is) in
              none (subst (λ (x : Meaning). IsPackageAnd s.repository.packages n (λ p. Excludes s n p x)) same demand.1))
        ]

        decide : (b : ℕ) → IsDecided (RankAt 5 v b)
        decide b = elim (both-decided (less-decided 0 b) (less-decided (b - 1) (length s.meanings))) [
          | inl both ↦
              let at = element-at s.meanings (b - 1) both.1 in
              let meaning = ((space.meanings.exact at.element).0 (contains-at s.meanings (b - 1) at.element at.is)).0 in
              of b at.element meaning (variable-back s at.element b space (omega (arith, both.0)) at.is)
          | inr none ↦ inr (λ at. let range = ranged b at in none (omega (arith, range.0), omega (arith, range.0, range.1)))
        ]
    conflicts-walk v Now is variable = nothing v Now is variable 5 (no-conflicts s space empty Now (λ n same. cc))
    conflicts-walk v (At c l) is variable = nothing v (At c l) is variable 5 (no-conflicts s space empty (At c l) (λ n same. cc))
    conflicts-walk v (New r l) is variable = nothing v (New r l) is variable 5 (no-conflicts s space empty (New r l) (λ n same. cc))
    conflicts-walk v (Kept r l j) is variable = nothing v (Kept r l j) is variable 5 (no-conflicts s space empty (Kept r l j) (λ n same. cc))
    conflicts-walk v (Fresh x l) is variable = nothing v (Fresh x l) is variable 5 (no-conflicts s space empty (Fresh x l) (λ n same. cc))

    today-walk : (v : ℕ) (m : Meaning) → IsMeaning s m → variable_of s m ≡ v → Walk 6 v
    today-walk v (At c k) is variable = single v (At c k) is variable 6 (StaysNow c k) is refl refl refl
        (λ b at. today-of s at.demand b at.is at.group at.second)
    today-walk v (Fresh x k) is variable = single v (Fresh x k) is variable 6 (AbsentNow x k) is refl refl refl
        (λ b at. today-of s at.demand b at.is at.group at.second)
    today-walk v Now is variable = nothing v Now is variable 6 (no-today s Now (λ h. h))
    today-walk v (Present r) is variable = nothing v (Present r) is variable 6 (no-today s (Present r) (λ h. h))
    today-walk v (New r l) is variable = nothing v (New r l) is variable 6 (no-today s (New r l) (λ h. h))
    today-walk v (Kept r l j) is variable = nothing v (Kept r l j) is variable 6 (no-today s (Kept r l j) (λ h. h))

    -- ---- one group after another

    abbrev Walks : ℕ → Type 0
    Walks g = (v : ℕ) (m : Meaning) → IsMeaning s m → variable_of s m ≡ v → Walk g v

    variables-to : (g : ℕ) → g < 7 → Walks g → (count : ℕ) → count ≤ length s.meanings → At_ g 1 0 → At_ g (count + 1) 0
    variables-to g few walks zero within start = let first : 1 ≡ zero + 1 = omega arith in subst (λ (v : ℕ). At_ g v 0) first start
    variables-to g few walks (suc count) within start =
        let at = element-at s.meanings count (omega (arith, within)) in
        let meaning = ((space.meanings.exact at.element).0 (contains-at s.meanings count at.element at.is)).0 in
        let place : count ≡ (count + 1) - 1 = omega arith in
        let variable = variable-back s at.element (count + 1) space (omega arith) (ap (λ (i : ℕ). slice_get s.meanings i) (sym place) ∙ at.is) in
        let next : count + 1 + 1 ≡ suc count + 1 = omega arith in
        subst (λ (v : ℕ). At_ g v 0) next (variable-step g (count + 1) few (walks (count + 1) at.element meaning variable)
        (variables-to g few walks count (omega (arith, within)) start))

    abbrev Groups : ℕ → Type 0
    Groups g = SomeSet (IsGroupsFront s g empty)

    group-step : (g : ℕ) → g < 7 → Walks g → Groups g → Groups (g + 1)
    group-step g few walks before =
        let all = variables-to g few walks (length s.meanings) (omega arith)
        (record { set = before.set; has = groups-open s space empty g before.set few before.has }) in
        record { set = all.set; has = groups-close s space empty g (length s.meanings + 1) all.set (omega arith) all.has }

    plain : Groups 7
    plain =
        let start : Groups 1 = record { set = empty; has = groups-none s (length s.meanings) 0 0 refl } in
        let first = group-step 1 (omega arith) classes-walk start in
        let second = group-step 2 (omega arith) moves-walk first in
        let third = group-step 3 (omega arith) fresh-walk second in
        let fourth = group-step 4 (omega arith) items-walk third in
        let fifth = group-step 5 (omega arith) conflicts-walk fourth in
        group-step 6 (omega arith) today-walk fifth

    -- ---- names

    -- the required names, in order
    names : InOrder (required_names s.essential s.repository.packages)
    names = in-order (required_names s.essential s.repository.packages)

    -- a demand of another group, or one of the first names
    SoFar : ℕ → Demand → Type 0
    SoFar count d = IsDemand s d × ((group_of d < 7) ⊎ Any (λ name. d ≡ Required name) (take count names.names))

    Names : ℕ → Type 0
    Names count = SomeSet (IsSetOf s (SoFar count) 0 0)

    names-start : Names 0
    unfolding Names SoFar
    names-start = record {
      set = plain.set;
      has = made.set-shift (space_demands s) (λ d. IsDemand s d × (group_of d < 7)) (SoFar 0) 0 0 plain.set (λ d h. (h.0, inl h.1)) (λ d h. (
        h.0,
        elim h.1 [
          | inl less ↦ less
          | inr any ↦ absurd (any-none (λ name. d ≡ Required name) names.names any)
        ],
      )) plain.has;
    }

    name-step : (count : ℕ) → count < length names.names → Names count → Names (count + 1)
    unfolding Names SoFar
    name-step count short before = record {
      set = record before.set { clauses = before.set.clauses ++ some.clause ∷ [] };
      has = made.set-more (space_demands s) (SoFar count) (SoFar (count + 1)) 0 0 before.set (Required name) some.clause before.has some.is_clause below cases
          (λ d h. (
            h.0,
            elim h.1 [
              | inl less ↦ inl less
              | inr any ↦ inr (any-take-back (λ n. d ≡ Required n) names.names count name at.is (inl any))
            ],
          ))
          (demand, inr (any-take-back (λ n. Required name ≡ Required n) names.names count name at.is (inr refl)));
    }
      where
        at : ElementAt names.names count
        at = element-at names.names count short

        name : List ℕ
        name = at.element

        demand : IsDemand s (Required name)
        demand = (names.exact name).0 (contains-at names.names count name at.is)

        some : SomeClause (Required name)
        some = has-clause (Required name) demand

        below : (d : Demand) → SoFar count d → IsBefore s d (Required name)
        below d h = elim h.1 [
          | inl less ↦ less-cmp (rank_of s d) (rank_of s (Required name)) (inl less)
          | inr any ↦
              let earlier : IsLess any.1 name = first-less names.names names.rising count name at.is any.1 (any.0, any.2, any.3) in
              subst (λ e. IsBefore s e (Required name)) (sym any.4)
              (less-cmp (rank_of s (Required any.1)) (rank_of s (Required name)) (inr (refl, inr (refl, cmp-less any.1 name earlier))))
        ]

        cases : (d : Demand) → SoFar (count + 1) d → SoFar count d ⊎ (Required name ≡ d)
        cases d h = elim h.1 [
          | inl less ↦ inl (h.0, inl less)
          | inr any ↦ elim (any-take (λ n. d ≡ Required n) names.names count name at.is any) [
            | inl earlier ↦ inl (h.0, inr earlier)
            | inr here ↦ inr (sym here)
          ]
        ]

    names-to : (count : ℕ) → count ≤ length names.names → Names count
    names-to zero within = names-start
    names-to (suc count) within = let next : count + 1 ≡ suc count = omega arith in
        subst Names next (name-step count (omega (arith, within)) (names-to count (omega (arith, within))))

    pub some-clauses : (clauses : List (List Literal)) × AreSpaceClauses s clauses
    unfolding Names SoFar
    some-clauses =
        let all = names-to (length names.names) (omega arith) in (
          all.set.clauses,
          made.clauses-shift (space_demands s) (SoFar (length names.names)) (IsDemand s) all.set.clauses (λ d h. h.0)
              (λ d demand. (
                demand,
                elim (group-cases d) [
                  | inl less ↦ inl less
                  | inr named ↦
                      let there = (names.exact named.0).1 (subst (IsDemand s) named.1 demand) in
                      inr (any-whole (λ n. d ≡ Required n) names.names (length names.names) (omega arith)
                      (any-contained (λ n. d ≡ Required n) names.names named.0 there named.1))
                ],
              ))
              all.has.clauses,
        )
