-- Models of the clauses of a space with those of its counter.
use Rattle.std.proofs.Common.{◌≡◌, ℕ, suc, ◌+◌, ◌-◌, ◌*◌, ◌<◌, ◌≤◌, Bool, true, false, List, [], ◌∷◌, ◌++◌, Some, length, length-append, get_or, refl, sym}
use Rattle.std.proofs.Common.{ap}
use Rattle.std.proofs.Common.{subst, ◌∙◌, arith, inl, inr, le_antisymm, mul-one, slice_get}
use Rattle.std.specs.Prelude.{All}
use Rattle.std.proofs.lemmas.Bool.{cases_lt, false≢true}
use Rattle.std.proofs.lemmas.List.{get_or-append-add, get_or_append_left}
use Rattle.std.proofs.lemmas.List.Elements.{All-append, All-contains, All-cons, All-head, All-nil}
use Rattle.std.proofs.lemmas.Option.{slice_get_within}
use Rattle.dist_base.specs.ListLaws.{all-contained}
use Rattle.dist_clause.specs.Formula.{Literal, IsModel, MakesTrue, value_of}
use Rattle.dist_repo.specs.DecidedLaws.{IsDecided}
use Rattle.dist_repo.specs.declared.package.Package.{Package}
use Rattle.dist_future.specs.Moved.{IsAtClass, TellOfMoves}
use Rattle.dist_future.specs.Outdated.{IsInstallableIn}
use Rattle.dist_future.specs.SpaceLaws.{StandsForFuture, future_under, holds_under, installation_under}
use Rattle.dist_space.specs.ClusterLaws.{has-cluster}
use Rattle.dist_space.specs.Space.{IsSpace, SpaceView, cluster_classes, variable_of}
use Rattle.dist_space.specs.VariableLaws.{variable-range}
use Rattle.dist_space.specs.declared.meaning.Meaning.TheVariants.{Present, At}
use Rattle.dist_repair.specs.Counters.{AreAtClass, Counter, CountedModelsTell, HasCountedModel, ModelsTellMoves, class_clauses, count_clauses}
use Rattle.dist_repair.specs.Counters.{counted_clauses}
use Rattle.dist_repair.specs.Counters.{counted_variables, counter_clauses, counter_of, each_below, more, moved, no, yes}
use Rattle.dist_repair.specs.Repair.{IsInstallableByMoving, IsPossibleWithin}
use Rattle.dist_repair.proofs.BelowLemmas.{all-below, all-left, all-right, at-below, below-all, length-below}
use Rattle.dist_repair.proofs.CountLemmas.{count, counted, counting-model, implies, two-cases, true-not}
use Rattle.dist_repair.proofs.GatherLemmas.{answer, answer-false, answer-from, answer-true, below-decided, count-numbers, count-wider}
use Rattle.dist_repair.proofs.OverLemmas.{IsOver}
use Rattle.dist_repair.proofs.GatherLemmas.{gathered, less-decided, there-decided, true-decided}

-- ---- clusters that are at a class

at-decided : (s : SpaceView) (values : List Bool) (c : ℕ) → IsDecided (IsAtClass s values c)
at-decided s values c = below-decided (λ k. holds_under s values (At c k) ≡ true) (λ k. true-decided (holds_under s values (At c k)))
    (length (cluster_classes s c))

at_test : SpaceView → List Bool → ℕ → Bool
at_test s values c = answer (at-decided s values c)

-- the clusters that have moved in the future of a model
pub moves-of-model : (s : SpaceView) (clauses : List (List Literal)) → TellOfMoves s clauses
    → ((values : List Bool) → IsModel (value_of values) clauses → StandsForFuture s values) → ModelsTellMoves s clauses
moves-of-model s clauses tell stands values number p numbers model is holds at =
    let future = stands values model in
    record {
      by = record {
        future = future_under s values;
        is_future = future.is_future;
        moved = record {
          rising = at.rising;
          exact = λ c. (
            (λ there. let both = (at.exact c).0 there in (both.0, (tell.exact values model c both.0).1 both.1)),
            λ both. (at.exact c).1 (both.0, (tell.exact values model c both.0).0 both.1),
          );
        };
        installable = record {
          members = installation_under s values;
          healthy = future.healthy;
          holds = tell.member values model number p is holds;
        };
      };
      held = λ c k short on. tell.at_class values model c k short on;
    }

module _ (s : SpaceView) (space : IsSpace s) (clauses : List (List Literal)) (most : ℕ) (tell : TellOfMoves s clauses)
    (tells : ModelsTellMoves s clauses) where
  abbrev t : Counter
  t = counter_of s most

  abbrev n : ℕ
  n = length s.clusters.members

  -- ---- from a model

  class-moved : (values : List Bool) → IsModel (value_of values) (counter_clauses s t) → (c : ℕ) → c < n → IsAtClass s values c
      → value_of values (moved t c) ≡ true
  class-moved values model c short at =
      let True : List Literal → Type 0 = MakesTrue (value_of values) in
      let classes = all-left True (each_below n (class_clauses s t)) (each_below n (λ x. each_below (most + 1) (count_clauses t x))) model in
      let own = all-below True n (class_clauses s t) classes c short in
      let one = all-below True (length (cluster_classes s c)) (λ k. (no (variable_of s (At c k)) ∷ yes (moved t c) ∷ []) ∷ []) own at.0 at.1 in
      two-cases (value_of values) (no (variable_of s (At c at.0))) (yes (moved t c))
      (All-head True (no (variable_of s (At c at.0)) ∷ yes (moved t c) ∷ []) [] one)
      (true-not (value_of values) (variable_of s (At c at.0)) at.2)

  counts-of : (values : List Bool) → IsModel (value_of values) (counter_clauses s t) → (c j : ℕ) → c < n → j < most + 1
      → IsModel (value_of values) (count_clauses t c j)
  counts-of values model c j short within =
      let True : List Literal → Type 0 = MakesTrue (value_of values) in
      let counts = all-right True (each_below n (class_clauses s t)) (each_below n (λ x. each_below (most + 1) (count_clauses t x))) model in
      all-below True (most + 1) (count_clauses t c) (all-below True n (λ x. each_below (most + 1) (count_clauses t x)) counts c short) j within

  -- where no more than a number are said to have moved, no more have
  fewer : (within : ℕ) → within ≤ most → (values : List Bool) (last m : ℕ) → n ≡ last + 1 → IsModel (value_of values) (counter_clauses s t)
      → value_of values (more t last within) ≡ false → m ≤ count (λ c. value_of values (moved t c)) n → m ≤ within
  fewer within few values last m is_last model kept low = elim (cases_lt within m) [
    | inr most_m ↦ most_m
    | inl less ↦
        let next : n ≡ suc last = omega (arith, is_last) in
        let counts : m ≤ count (λ c. value_of values (moved t c)) (suc last) =
        subst (λ (k : ℕ). m ≤ count (λ c. value_of values (moved t c)) k) next low in
        let on = counted t (value_of values) (counts-of values model) last within (omega (arith, is_last)) few (omega (arith, less, counts)) in
        absurd (false≢true (sym kept ∙ on))
  ]

  from-model : (number : ℕ) (p : Package) (within : ℕ) → slice_get s.repository.packages number ≡ Some p → within ≤ most
      → HasCountedModel s clauses most number within → IsPossibleWithin s p within
  unfolding at_test
  from-model number p within is few has =
      let values = has.values in
      let True : List Literal → Type 0 = MakesTrue (value_of values) in
      let space_model = all-left True clauses (counter_clauses s t) has.model in
      let counter_model = all-right True clauses (counter_clauses s t) has.model in
      let all = gathered (at_test s values) n in
      let at : AreAtClass s values all.numbers = record {
        rising = all.rising;
        exact = λ c. (
          (λ there. let both = (all.exact c).0 there in (both.0, answer-from (at-decided s values c) both.1)),
          λ both. (all.exact c).1 (both.0, answer-true (at-decided s values c) both.1),
        );
      } in
      let wider = count-wider (at_test s values) (λ c. value_of values (moved t c)) n
      (λ c short on. class-moved values counter_model c short (answer-from (at-decided s values c) on)) in
      let size = all.size in (
        all.numbers,
        (tells values number p all.numbers space_model is has.holds at).by,
        fewer within few values has.last (length all.numbers) has.is_last counter_model has.kept (omega (arith, wider, size)),
      )

  -- the clusters that are at a class are no more
  pub at-most : (values : List Bool) (numbers : List ℕ) (last within : ℕ) → n ≡ last + 1 → within ≤ most
      → IsModel (value_of values) (counted_clauses s clauses most) → value_of values (more t last within) ≡ false → AreAtClass s values numbers
      → length numbers ≤ within
  at-most values numbers last within is_last few model kept at =
      let counter_model = all-right (MakesTrue (value_of values)) clauses (counter_clauses s t) model in
      let size = count-numbers numbers n at.rising (λ c there. ((at.exact c).0 there).0) in
      let wider = count-wider (λ c. answer (there-decided numbers c)) (λ c. value_of values (moved t c)) n
      (λ c short on. class-moved values counter_model c short ((at.exact c).0 (answer-from (there-decided numbers c) on)).1) in
      fewer within few values last (length numbers) is_last counter_model kept (omega (arith, size, wider))

  -- ---- to a model

  -- the values of the counter's variables, by the clusters that are at a class
  moved_flags : (ℕ → Bool) → List Bool
  moved_flags test = each_below n (λ c. test c ∷ [])

  more_flag : (ℕ → Bool) → ℕ → ℕ → Bool
  more_flag test c j = answer (less-decided j (count test (suc c)))

  more_row : (ℕ → Bool) → ℕ → List Bool
  more_row test c = each_below (most + 1) (λ j. more_flag test c j ∷ [])

  more_flags : (ℕ → Bool) → List Bool
  more_flags test = each_below n (more_row test)

  all_values : List Bool → (ℕ → Bool) → List Bool
  all_values values test = values ++ (moved_flags test ++ more_flags test)

  moved-size : (test : ℕ → Bool) → length (moved_flags test) ≡ n
  unfolding moved_flags
  moved-size test = length-below n 1 (λ c. test c ∷ []) (λ i short. refl) ∙ mul-one n

  row-size : (test : ℕ → Bool) (c : ℕ) → length (more_row test c) ≡ most + 1
  unfolding more_row
  row-size test c = length-below (most + 1) 1 (λ j. more_flag test c j ∷ []) (λ i short. refl) ∙ mul-one (most + 1)

  more-size : (test : ℕ → Bool) → length (more_flags test) ≡ n * (most + 1)
  unfolding more_flags
  more-size test = length-below n (most + 1) (more_row test) (λ i short. row-size test i)

  all-size : (values : List Bool) (test : ℕ → Bool) → length values ≡ length s.meanings → length (all_values values test) ≡ counted_variables t
  unfolding all_values
  all-size values test size =
      let a = length-append values (moved_flags test ++ more_flags test) in
      let b = length-append (moved_flags test) (more_flags test) in
      let c = moved-size test in
      let d = more-size test in
      omega (arith, a, b, c, d, size)

  -- at the variables of the space
  front-value : (values : List Bool) (test : ℕ → Bool) → length values ≡ length s.meanings → (v : ℕ) → 1 ≤ v → v ≤ length s.meanings
      → value_of (all_values values test) v ≡ value_of values v
  unfolding all_values
  front-value values test size v from to =
      get_or_append_left values (moved_flags test ++ more_flags test) false (v - 1) (omega (arith, size, from, to))

  moved-value : (values : List Bool) (test : ℕ → Bool) → length values ≡ length s.meanings → (c : ℕ) → c < n
      → value_of (all_values values test) (moved t c) ≡ test c
  unfolding all_values moved_flags
  moved-value values test size c short =
      let at : moved t c - 1 ≡ length values + c = omega (arith, size) in
      let inside = moved-size test in
      let one : c * 1 + 0 ≡ c = omega (arith, mul-one c) in
      ap (λ (k : ℕ). get_or (values ++ (moved_flags test ++ more_flags test)) k false) at
      ∙ get_or-append-add values (moved_flags test ++ more_flags test) c false
      ∙ get_or_append_left (moved_flags test) (more_flags test) false c (omega (arith, inside, short))
      ∙ ap (λ (k : ℕ). get_or (moved_flags test) k false) (sym one)
      ∙ at-below n 1 (λ x. test x ∷ []) (λ i less. refl) c 0 false short (omega arith)

  more-value : (values : List Bool) (test : ℕ → Bool) → length values ≡ length s.meanings → (c j : ℕ) → c < n → j ≤ most
      → value_of (all_values values test) (more t c j) ≡ more_flag test c j
  unfolding all_values more_flags more_row
  more-value values test size c j short within =
      let product = c * (most + 1) in
      let at : more t c j - 1 ≡ length values + (length (moved_flags test) + (c * (most + 1) + j)) = omega (arith, size, moved-size test) in
      let one : j * 1 + 0 ≡ j = omega (arith, mul-one j) in
      ap (λ (k : ℕ). get_or (values ++ (moved_flags test ++ more_flags test)) k false) at
      ∙ get_or-append-add values (moved_flags test ++ more_flags test) (length (moved_flags test) + (c * (most + 1) + j)) false
      ∙ get_or-append-add (moved_flags test) (more_flags test) (c * (most + 1) + j) false
      ∙ at-below n (most + 1) (more_row test) (λ i less. row-size test i) c j false short (omega (arith, within))
      ∙ ap (λ (k : ℕ). get_or (more_row test c) k false) (sym one)
      ∙ at-below (most + 1) 1 (λ x. more_flag test c x ∷ []) (λ i less. refl) j 0 false (omega (arith, within)) (omega arith)

  -- the clauses of the space are over its own variables
  clause-true : (values : List Bool) (test : ℕ → Bool) → length values ≡ length s.meanings → (clause : List Literal)
      → IsOver (length s.meanings) clause → MakesTrue (value_of values) clause → MakesTrue (value_of (all_values values test)) clause
  clause-true values test size clause over any =
      let range = over any.0 any.1 any.2 in
      let l : Literal = any.1 in
      let here : get_or clause any.0 l ≡ l = any.3 in
      let from = subst (λ (x : Literal). (1 ≤ x.variable) × (x.variable ≤ length s.meanings)) here range in
      (any.0, l, any.2, any.3, front-value values test size l.variable from.0 from.1 ∙ any.4)

  module _ (values : List Bool) (size : length values ≡ length s.meanings) (over : All (IsOver (length s.meanings)) clauses)
      (model : IsModel (value_of values) clauses) where
    test : ℕ → Bool
    test = at_test s values

    whole : List Bool
    whole = all_values values test

    front-true : IsModel (value_of whole) clauses
    unfolding whole
    front-true = all-contained (MakesTrue (value_of (all_values values test))) clauses (λ clause there.
        clause-true values test size clause (All-contains (IsOver (length s.meanings)) clauses clause over there)
        (All-contains (MakesTrue (value_of values)) clauses clause model there))

    classes-true : (c : ℕ) → c < n → IsModel (value_of whole) (class_clauses s t c)
    unfolding whole test at_test
    classes-true c short = below-all (MakesTrue (value_of (all_values values (at_test s values)))) (length (cluster_classes s c))
        (λ k. (no (variable_of s (At c k)) ∷ yes (moved t c) ∷ []) ∷ [])
        (λ k less. All-cons (MakesTrue (value_of (all_values values (at_test s values)))) (no (variable_of s (At c k)) ∷ yes (moved t c) ∷ []) []
        (implies (value_of (all_values values (at_test s values))) (variable_of s (At c k)) (moved t c)
        (λ is.
        let range = variable-range s (At c k) space less in
        let at : holds_under s values (At c k) ≡ true = sym (front-value values (at_test s values) size (variable_of s (At c k)) range.0 range.1) ∙ is in
        moved-value values (at_test s values) size c short ∙ answer-true (at-decided s values c) (k, less, at)))
        (All-nil (MakesTrue (value_of (all_values values (at_test s values))))))

    same-counts : (c : ℕ) → c ≤ n → count (λ x. value_of whole (moved t x)) c ≡ count test c
    unfolding whole
    same-counts c short = le_antisymm
        (count-wider (λ x. value_of (all_values values test) (moved t x)) test c
        (λ x less is. sym (moved-value values test size x (omega (arith, less, short))) ∙ is))
        (count-wider test (λ x. value_of (all_values values test) (moved t x)) c
        (λ x less is. moved-value values test size x (omega (arith, less, short)) ∙ is))

    counts-true : (c j : ℕ) → c < n → j ≤ most → IsModel (value_of whole) (count_clauses t c j)
    unfolding whole more_flag
    counts-true = counting-model t (value_of (all_values values test)) (λ c j short within.
        let value = more-value values test size c j short within in
        let same = same-counts (suc c) short in (
          (λ is. let less = answer-from (less-decided j (count test (suc c))) (sym value ∙ is) in omega (arith, less, same)),
          (λ less. value ∙ answer-true (less-decided j (count test (suc c))) (omega (arith, less, same))),
        ))

    whole-model : IsModel (value_of whole) (counted_clauses s clauses most)
    whole-model = All-append (MakesTrue (value_of whole)) clauses (counter_clauses s t) front-true
        (All-append (MakesTrue (value_of whole)) (each_below n (class_clauses s t)) (each_below n (λ c. each_below (most + 1) (count_clauses t c)))
        (below-all (MakesTrue (value_of whole)) n (class_clauses s t) classes-true)
        (below-all (MakesTrue (value_of whole)) n (λ c. each_below (most + 1) (count_clauses t c))
        (λ c short. below-all (MakesTrue (value_of whole)) (most + 1) (count_clauses t c) (λ j less. counts-true c j short (omega (arith, less))))))

    counted-model : (number : ℕ) (p : Package) (within last : ℕ) → slice_get s.repository.packages number ≡ Some p → within ≤ most
        → holds_under s values (Present number) ≡ true → n ≡ last + 1 → count test n ≤ within → HasCountedModel s clauses most number within
    unfolding whole more_flag
    counted-model number p within last is few holds is_last low =
        let range = variable-range s (Present number) space (slice_get_within s.repository.packages number p is) in
        let next : n ≡ suc last = omega (arith, is_last) in
        let at = subst (λ (k : ℕ). count test k ≤ within) next low in
        record {
          values = all_values values test;
          one_each = all-size values test size;
          model = whole-model;
          holds = front-value values test size (variable_of s (Present number)) range.0 range.1 ∙ holds;
          last = last;
          is_last = is_last;
          kept = more-value values test size last within (omega (arith, is_last)) few
              ∙ answer-false (less-decided within (count test (suc last))) (λ less. omega (arith, less, at));
        }

  to-model : (number : ℕ) (p : Package) (within : ℕ) → All (IsOver (length s.meanings)) clauses → slice_get s.repository.packages number ≡ Some p
      → within ≤ most → IsPossibleWithin s p within → HasCountedModel s clauses most number within
  unfolding at_test test
  to-model number p within over is few (numbers, by, low) =
      let installed : IsInstallableIn s.essential s.repository by.future p = by.installable in
      let made = tell.there by.future installed.members by.is_future installed.healthy in
      let wider = count-wider (at_test s made.values) (λ c. answer (there-decided numbers c)) n
      (λ c short on. answer-true (there-decided numbers c) ((by.moved.exact c).1 (short, made.moved c (answer-from (at-decided s made.values c) on)))) in
      let size = count-numbers numbers n by.moved.rising (λ c there. ((by.moved.exact c).0 there).0) in
      let has = has-cluster s space.frame number (slice_get_within s.repository.packages number p is) in
      let some : 1 ≤ n = omega (arith, has.within) in
      counted-model made.values made.one_each over made.model number p within (n - 1) is few (made.present number p is installed.holds)
      (omega (arith, some)) (omega (arith, wider, size, low))

  -- a package that can be installed by moving some clusters has a model, however many these are
  pub record HasAnyModel (number : ℕ) : Type 0 where
    pub values : List Bool
    pub model : IsModel (value_of values) (counted_clauses s clauses most)
    pub holds : holds_under s values (Present number) ≡ true

  pub any-model : (number : ℕ) (p : Package) (numbers : List ℕ) → All (IsOver (length s.meanings)) clauses
      → slice_get s.repository.packages number ≡ Some p → IsInstallableByMoving s p numbers → HasAnyModel number
  unfolding whole test
  any-model number p numbers over is by =
      let installed : IsInstallableIn s.essential s.repository by.future p = by.installable in
      let made = tell.there by.future installed.members by.is_future installed.healthy in
      let range = variable-range s (Present number) space (slice_get_within s.repository.packages number p is) in
      record {
        values = all_values made.values (at_test s made.values);
        model = whole-model made.values made.one_each over made.model;
        holds = front-value made.values (at_test s made.values) made.one_each (variable_of s (Present number)) range.0 range.1
            ∙ made.present number p is installed.holds;
      }

  pub counted-tell : All (IsOver (length s.meanings)) clauses → CountedModelsTell s clauses most
  counted-tell over number p within is few = (from-model number p within is few, to-model number p within over is few)
