-- A cluster of which a model uses no package can be at each of its classes: the model with that class, with no other class of
-- the cluster and without Now is one.
use Rattle.std.proofs.Common.{◌≡◌, ◌≢◌, ◌⊎◌, ℕ, ◌<◌, Bool, List, [], ◌∷◌, Some, length, refl, sym, subst, ◌∙◌, inl, inr, arith, slice_get}
use Rattle.std.specs.Prelude.{Contains, slice_index}
use Rattle.std.proofs.lemmas.Bool.{false≢true}
use Rattle.std.proofs.lemmas.List.Elements.{All-cons, All-nil}
use Rattle.dist_clause.specs.Formula.{Literal, IsModel, value_of}
use Rattle.dist_cluster.specs.Partition.{IsIn}
use Rattle.dist_relation.specs.declared.atom.Atom.{Atom}
use Rattle.dist_repo.specs.DecidedLaws.{both-decided, either-decided, IsDecided, not-decided}
use Rattle.dist_repo.specs.Healthy.{required_names}
use Rattle.dist_repo.specs.declared.package.Package.{Package}
use Rattle.dist_space.specs.Space.{IsMeaning, IsMetBy, IsSpace, SpaceView, cluster_classes}
use Rattle.dist_space_clauses.specs.SpaceClauses.{AreSpaceClauses, Excludes, IsBearer}
use Rattle.dist_space.specs.declared.meaning.Meaning.{Meaning}
use Rattle.dist_space.specs.declared.meaning.Meaning.TheVariants.{Now, Present, At, New, Kept, Fresh}
use Rattle.dist_future.specs.FutureHealth.{Holds}
use Rattle.dist_future.specs.Pairs.{Covers, UsesNone}
use Rattle.dist_future.specs.SpaceLaws.{HasModelWith, holds_under}
use Rattle.dist_future.proofs.DemandLemmas.{AreMet, IsMetIn, IsTrueMeaning, met-from-model}
use Rattle.dist_future.proofs.FutureValues.{ModelOf, decided-model, number-decided}
use Rattle.dist_future.proofs.HealthLemmas.{bool-decided}
use Rattle.dist_future.proofs.SpaceLemmas.{in-its-cluster}

module _ (s : SpaceView) (space : IsSpace s) (values : List Bool) (c k : ℕ) where
  abbrev T : Meaning → Type 0
  T = IsTrueMeaning s values

  -- what holds where the cluster is moved to the class
  abbrev HoldsMoved : Meaning → Type 0
  HoldsMoved Now = ⊥
  HoldsMoved (At d l) = ((d ≡ c) × (l ≡ k)) ⊎ ((d ≢ c) × T (At d l))
  HoldsMoved m = T m

  true-decided : (m : Meaning) → IsDecided (T m)
  true-decided m = bool-decided (holds_under s values m)

  moved-decided : (m : Meaning) → IsDecided (HoldsMoved m)
  moved-decided Now = inr (λ h. h)
  moved-decided (At d l) =
      either-decided (both-decided (number-decided d c) (number-decided l k)) (both-decided (not-decided (number-decided d c)) (true-decided (At d l)))
  moved-decided (Present r) = true-decided (Present r)
  moved-decided (New r l) = true-decided (New r l)
  moved-decided (Kept r l j) = true-decided (Kept r l j)
  moved-decided (Fresh x l) = true-decided (Fresh x l)

  -- what is installed stays
  met-moved : (item : List Atom) (m : Meaning) → IsMetBy s item m → T m → HoldsMoved m
  met-moved item Now met holds = absurd met.4.1
  met-moved item (At d l) met holds = absurd met.4.1
  met-moved item m met holds = holds

  bearer-moved : (name : List ℕ) (m : Meaning) → IsBearer s name m → T m → HoldsMoved m
  bearer-moved name Now bearer holds = absurd bearer
  bearer-moved name (At d l) bearer holds = absurd bearer
  bearer-moved name m bearer holds = holds

  excluded-back : (r : ℕ) (p : Package) (m : Meaning) → Excludes s r p m → HoldsMoved m → T m
  excluded-back r p Now excludes holds = absurd holds
  excluded-back r p (At d l) excludes holds = absurd excludes.0
  excluded-back r p m excludes holds = holds

  module _ (none : UsesNone s values c) (met : AreMet s (IsTrueMeaning s values)) where
    its-cluster : (r : ℕ) → r < length s.repository.packages → slice_index s.cluster_of r ≡ c → IsIn s.clusters.members c r
    its-cluster r short same = subst (λ (d : ℕ). IsIn s.clusters.members d r) same (in-its-cluster s space.frame r short)

    never-present : (r l : ℕ) → IsMeaning s (New r l) → slice_index s.cluster_of r ≡ c → ¬ T (Present r)
    never-present r l is same holds = false≢true (sym (none r (its-cluster r is.0 same)).0 ∙ holds)

    never-new : (r l : ℕ) → IsMeaning s (New r l) → slice_index s.cluster_of r ≡ c → ¬ T (New r l)
    never-new r l is same holds =
        let short : l < length (cluster_classes s c) = subst (λ (d : ℕ). l < length (cluster_classes s d)) same is.1 in
        false≢true (sym ((none r (its-cluster r is.0 same)).1 l short) ∙ holds)

    one-class : (d l n : ℕ) → l < n → n < length (cluster_classes s d) → HoldsMoved (At d l) → HoldsMoved (At d n) → ⊥
    one-class d l n less short (inl first) (inl second) = omega (arith, less, first.1, second.1)
    one-class d l n less short (inl first) (inr second) = second.0 first.0
    one-class d l n less short (inr first) (inl second) = first.0 second.0
    one-class d l n less short (inr first) (inr second) = met.future.one_class d l n less short first.1 second.1

    gone : (r l : ℕ) → IsMeaning s (New r l) → T (Present r) → HoldsMoved (At (slice_index s.cluster_of r) l) → ⊥
    gone r l is present (inl at) = never-present r l is at.0 present
    gone r l is present (inr at) = met.future.gone r l is present at.1

    moved : (r l : ℕ) → IsMeaning s (New r l) → T (New r l) → HoldsMoved (At (slice_index s.cluster_of r) l)
    moved r l is holds = elim (number-decided (slice_index s.cluster_of r) c) [
      | inl same ↦ absurd (never-new r l is same holds)
      | inr apart ↦ inr (apart, met.future.moved r l is holds)
    ]

    met-item : (r place : ℕ) (p : Package) (item : List Atom) → slice_get s.repository.packages r ≡ Some p → slice_get p.depends place ≡ Some item
        → T (Present r) → IsMetIn s HoldsMoved (IsMetBy s item)
    met-item r place p item is is_item present =
        let some = met.met r place p item is is_item present in
        record {
          meaning = some.meaning;
          is_meaning = some.is_meaning;
          holds = met-moved item some.meaning some.has some.holds;
          has = some.has;
        }

    required : (name : List ℕ) → Contains (required_names s.essential s.repository.packages) name → IsMetIn s HoldsMoved (IsBearer s name)
    required name there =
        let some = met.required name there in
        record {
          meaning = some.meaning;
          is_meaning = some.is_meaning;
          holds = bearer-moved name some.meaning some.has some.holds;
          has = some.has;
        }

    met-moving : AreMet s HoldsMoved
    met-moving = record {
      future = record {
        one_class = one-class;
        gone = gone;
        moved = moved;
        carried = met.future.carried;
        one_fresh = met.future.one_fresh;
        stays = λ d l is now at. now;
        absent = λ x l is now holds. now;
      };
      met = met-item;
      apart = λ r p m is is_meaning excludes present holds. met.apart r p m is is_meaning excludes present (excluded-back r p m excludes holds);
      required = required;
    }

  module _ (clauses : List (List Literal)) (are : AreSpaceClauses s clauses) (n : ℕ) where
    abbrev Pair : List Meaning
    Pair = Present n ∷ At c k ∷ []

    with-both : (U : Meaning → Type 0) (made : ModelOf s clauses U) → IsMeaning s (Present n) → IsMeaning s (At c k) → U (Present n) → U (At c k)
        → HasModelWith s clauses Pair
    with-both U made is_n is_pair present at =
        let True : Meaning → Type 0 = IsTrueMeaning s made.values in
        record {
          values = made.values;
          one_each = made.one_each;
          model = made.model;
          true_meanings = All-cons True (Present n) (At c k ∷ []) (made.holds (Present n) is_n present)
              (All-cons True (At c k) [] (made.holds (At c k) is_pair at) (All-nil True));
        }

    pub covered-model : IsModel (value_of values) clauses → Holds s values (Present n) → IsMeaning s (At c k) → Covers s values c k
        → HasModelWith s clauses Pair
    covered-model model present is_pair covers =
        let met = met-from-model s values clauses are model in
        elim covers [
          | inl none ↦ with-both HoldsMoved (decided-model s space HoldsMoved moved-decided (met-moving none met) clauses are) present.is_meaning is_pair
              present.is_true (inl (refl, refl))
          | inr at ↦ with-both T (decided-model s space T true-decided met clauses are) present.is_meaning is_pair present.is_true at
        ]
