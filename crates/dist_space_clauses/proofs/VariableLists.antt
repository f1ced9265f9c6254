-- The variables of meanings with a property, as literals of a clause.
use Rattle.std.proofs.Common.{◌≡◌, ◌≢◌, ℕ, ◌-◌, ◌<◌, ◌≤◌, false, List, [], ◌∷◌, length, get_or, map, refl, sym, ap, ap₂, subst, ◌∙◌, inl, inr, arith}
use Rattle.std.specs.Prelude.{All, AllPairs, Any, Contains}
use Rattle.std.proofs.lemmas.List.Elements.{All-cons, All-map}
use Rattle.std.proofs.lemmas.List.Kept.{AllPairs-cons, AllPairs-from_increasing}
use Rattle.std.proofs.lemmas.Option.{get_or_from_slice_get, slice_get_within}
use Rattle.dist_base.specs.ListLaws.{all-contained, any-more, at-has, has-at, pairs-head, pairs-tail}
use Rattle.dist_clause.specs.Formula.{IsClauseOver, Literal, literal}
use Rattle.dist_relation.specs.declared.atom.Atom.{Atom}
use Rattle.dist_repo.specs.Match.{Matches}
use Rattle.dist_space_clauses.specs.GatheringPrivate.{AreVariablesOf, IsItemAt, IsVariableWith, positive}
use Rattle.dist_space.specs.Space.{AreMeaningsOf, IsMatched, IsMeaning, IsMetBy, IsSpace, SpaceView, StandsBefore, variable_of}
use Rattle.dist_space_clauses.specs.SpaceClauses.{Item, Required, IsBearer, IsClauseFor, IsDemand, yes}
use Rattle.dist_space.specs.declared.meaning.Meaning.{Meaning}
use Rattle.dist_space.specs.declared.meaning.Meaning.TheVariants.{Present}
use Rattle.dist_space_clauses.specs.ItemLaws.{item-at, item-has}
use Rattle.dist_space.specs.VariableLaws.{one-meaning, place-at, variable-range}
use Rattle.dist_space.specs.RisingLaws.{pairs-more, contains-cons, contains-first, contains-later, in-map, map-in, pairs-cons, pairs-none}

-- numbers that rise when they are taken of a list
pairs-unmap : {X : Type 0} (f : X → ℕ) (xs : List X) → AllPairs (λ (a b : ℕ). a < b) (map f xs) → AllPairs (λ a b. f a < f b) xs
pairs-unmap f [] rising = pairs-none (λ a b. f a < f b)
pairs-unmap f (x ∷ xs) rising =
    pairs-cons (λ a b. f a < f b) x xs (λ y there. pairs-head (λ (a b : ℕ). a < b) (f x) (map f xs) rising (f y) (map-in f xs y there))
    (pairs-unmap f xs (pairs-tail (λ (a b : ℕ). a < b) (f x) (map f xs) rising))

abbrev InRange : ℕ → Literal → Type 0
InRange n l = (1 ≤ l.variable) × (l.variable ≤ n)

abbrev Apart : Literal → Literal → Type 0
Apart l m = l.variable ≢ m.variable

positives-apart : (variables : List ℕ) → AllPairs (λ (a b : ℕ). a < b) variables → AllPairs Apart (map positive variables)
positives-apart [] rising = pairs-none Apart
positives-apart (v ∷ variables) rising =
    let less : All (λ (w : ℕ). v < w) variables = all-contained (λ (w : ℕ). v < w) variables (pairs-head (λ (a b : ℕ). a < b) v variables rising) in
    AllPairs-cons Apart (positive v) (map positive variables)
    (All-map (Apart (positive v)) positive variables (λ i d short. let h = less i d short in λ same. omega (arith, h, same)))
    (positives-apart variables (pairs-tail (λ (a b : ℕ). a < b) v variables rising))

module _ (s : SpaceView) (space : IsSpace s) where
  -- ---- the meanings of variables

  variable-before : (a b : Meaning) → IsMeaning s a → IsMeaning s b → variable_of s a < variable_of s b → StandsBefore s a b
  variable-before a b is_a is_b less =
      let i = variable_of s a - 1 in
      let j = variable_of s b - 1 in
      let from = variable-range s a space is_a in
      let at_a = place-at s a space is_a in
      let at_b = place-at s b space is_b in
      let here_a : get_or s.meanings i a ≡ a = get_or_from_slice_get s.meanings i a a at_a in
      let here_b : get_or s.meanings j a ≡ b = get_or_from_slice_get s.meanings j b a at_b in
      let before = space.meanings.rising i j a (omega (arith, less, from.0)) (slice_get_within s.meanings j b at_b) in
      subst (λ (x : Meaning). StandsBefore s x b) here_a (subst (λ (x : Meaning). StandsBefore s (get_or s.meanings i a) x) here_b before)

  record Meant (P : Meaning → Type 0) (variables : List ℕ) : Type 0 where
    meanings : List Meaning
    each : (m : Meaning) → Contains meanings m → IsMeaning s m × P m
    variables_are : map (variable_of s) meanings ≡ variables
    literals_are : map (yes s) meanings ≡ map positive variables

  meant : (P : Meaning → Type 0) (variables : List ℕ) → ((v : ℕ) → Contains variables v → IsVariableWith s P v) → Meant P variables
  meant P [] each = record { meanings = []; each = λ m there. absurd (omega (arith, there.1)); variables_are = refl; literals_are = refl }
  meant P (v ∷ variables) each =
      let first = each v (contains-first v variables) in
      let rest = meant P variables (λ w there. each w (contains-later v w variables there)) in
      record {
        meanings = first.meaning ∷ rest.meanings;
        each = λ m there. elim (contains-cons first.meaning m rest.meanings there) [
          | inl same ↦ subst (λ (x : Meaning). IsMeaning s x × P x) same (first.is_meaning, first.has)
          | inr later ↦ rest.each m later
        ];
        variables_are = ap₂ (λ (x : ℕ) (xs : List ℕ). x ∷ xs) first.variable_is rest.variables_are;
        literals_are = ap₂ (λ (x : Literal) (xs : List Literal). x ∷ xs) (ap positive first.variable_is) rest.literals_are;
      }

  -- the meanings that a list of variables is of, in order
  pub record MeaningsOf (P : Meaning → Type 0) (variables : List ℕ) : Type 0 where
    pub meanings : List Meaning
    pub are : AreMeaningsOf s P meanings
    pub literals_are : map (yes s) meanings ≡ map positive variables

  pub meanings-of : (P : Meaning → Type 0) (variables : List ℕ) → AreVariablesOf s P variables → MeaningsOf P variables
  meanings-of P variables are = record {
    meanings = all.meanings;
    are = record {
      rising = pairs-more (λ a b. variable_of s a < variable_of s b) (StandsBefore s) all.meanings
          (λ a b in_a in_b less. variable-before a b (all.each a in_a).0 (all.each b in_b).0 less)
          (pairs-unmap (variable_of s) all.meanings (subst (AllPairs (λ (a b : ℕ). a < b)) (sym all.variables_are)
          (AllPairs-from_increasing variables are.rising)));
      exact = λ m. ((λ there. all.each m there), λ both. back m both.0 both.1);
    };
    literals_are = all.literals_are;
  }
    where
      all : Meant P variables
      all = meant P variables (λ v there. (are.exact v).0 there)

      back : (m : Meaning) → IsMeaning s m → P m → Contains all.meanings m
      back m is has =
          let there : Contains variables (variable_of s m) = (are.exact (variable_of s m)).1
          (record { meaning = m; is_meaning = is; has = has; variable_is = refl }) in
          let from = in-map (variable_of s) all.meanings (variable_of s m)
          (subst (λ (xs : List ℕ). Contains xs (variable_of s m)) (sym all.variables_are) there) in
          subst (Contains all.meanings) (one-meaning s from.source m space (all.each from.source from.there).0 is from.gives) from.there

  -- ---- clauses over the variables

  pub in-range : (P : Meaning → Type 0) (variables : List ℕ) → AreVariablesOf s P variables → All (λ (v : ℕ). (1 ≤ v) × (v ≤ length s.meanings)) variables
  in-range P variables are = all-contained (λ (v : ℕ). (1 ≤ v) × (v ≤ length s.meanings)) variables
      (λ v there. let with = (are.exact v).0 there in let range = variable-range s with.meaning space with.is_meaning in
      (omega (arith, range.0, with.variable_is), omega (arith, range.1, with.variable_is)))

  pub in-limit : (P : Meaning → Type 0) (variables : List ℕ) (limit : ℕ) → length s.meanings ≤ limit → AreVariablesOf s P variables
      → All (λ (v : ℕ). (1 ≤ v) × (v ≤ limit)) variables
  in-limit P variables limit up are = λ i d short. let range = in-range P variables are i d short in (range.0, omega (arith, range.1, up))

  range-of : (P : Meaning → Type 0) (variables : List ℕ) → AreVariablesOf s P variables → All (InRange (length s.meanings)) (map positive variables)
  range-of P variables are = All-map (InRange (length s.meanings)) positive variables (λ i d short. in-range P variables are i d short)

  pub over-positive : (P : Meaning → Type 0) (variables : List ℕ) → AreVariablesOf s P variables → IsClauseOver (length s.meanings) (map positive variables)
  over-positive P variables are = record {
    in_range = range-of P variables are;
    distinct = positives-apart variables (AllPairs-from_increasing variables are.rising);
  }

  pub over-implied : (P : Meaning → Type 0) (variables : List ℕ) (m : Meaning) → IsMeaning s m → AreVariablesOf s P variables
      → ¬ Contains variables (variable_of s m) → IsClauseOver (length s.meanings) (literal (variable_of s m) false ∷ map positive variables)
  over-implied P variables m is are other =
      let negative : Literal = literal (variable_of s m) false in
      record {
        in_range = All-cons (InRange (length s.meanings)) negative (map positive variables) (variable-range s m space is) (range-of P variables are);
        distinct = AllPairs-cons Apart negative (map positive variables)
            (All-map (Apart negative) positive variables (all-contained (λ (v : ℕ). variable_of s m ≢ v) variables
            (λ v there same. other (subst (Contains variables) (sym same) there))))
            (positives-apart variables (AllPairs-from_increasing variables are.rising));
      }

  -- ---- clauses of demands

  pub item-clause : (n place : ℕ) (item : List Atom) (variables : List ℕ) (clause : List Literal) → IsItemAt s.repository.packages n place item
      → AreVariablesOf s (IsMetBy s item) variables → clause ≡ literal (variable_of s (Present n)) false ∷ map positive variables
      → IsClauseFor s (Item n place) clause
  item-clause n place item variables clause at are is =
      let all = meanings-of (IsMetBy s item) variables are in (
        all.meanings,
        item-at s n place (λ p i. AreMeaningsOf s (IsMetBy s i) all.meanings) at.holder item at.is_holder at.is_item all.are,
        is ∙ ap (λ (xs : List Literal). literal (variable_of s (Present n)) false ∷ xs) (sym all.literals_are),
      )

  pub name-clause : (name : List ℕ) (variables : List ℕ) (clause : List Literal) → AreVariablesOf s (IsBearer s name) variables
      → clause ≡ map positive variables → IsClauseFor s (Required name) clause
  name-clause name variables clause are is = let all = meanings-of (IsBearer s name) variables are in (all.meanings, all.are, is ∙ sym all.literals_are)

  -- ---- items that their own package meets

  module _ (n place : ℕ) (item : List Atom) (variables : List ℕ) (at : IsItemAt s.repository.packages n place item)
      (are : AreVariablesOf s (IsMetBy s item) variables) (is_meaning : IsMeaning s (Present n)) where
    pub item-itself : Contains variables (variable_of s (Present n)) → ¬ IsDemand s (Item n place)
    item-itself there demand =
        let with = (are.exact (variable_of s (Present n))).0 there in
        let same = one-meaning s with.meaning (Present n) space with.is_meaning is_meaning with.variable_is in
        let met : IsMetBy s item (Present n) = subst (IsMetBy s item) same with.has in
        item-has s n place (λ p i. ¬ Any (λ atom. Matches s.repository.architecture atom p) i) at.holder item at.is_holder at.is_item demand
        (any-more (λ (atom : Atom). IsMatched s atom (Present n)) (λ (atom : Atom). Matches s.repository.architecture atom at.holder)
        (λ atom matched. has-at (Matches s.repository.architecture atom) s.repository.packages n at.holder at.is_holder matched.1) item met)

    pub item-demand : ¬ Contains variables (variable_of s (Present n)) → IsDemand s (Item n place)
    item-demand other =
        item-at s n place (λ p i. ¬ Any (λ atom. Matches s.repository.architecture atom p) i) at.holder item at.is_holder at.is_item
        (λ matches. other ((are.exact (variable_of s (Present n))).1 (record {
          meaning = Present n;
          is_meaning = is_meaning;
          has = any-more (λ (atom : Atom). Matches s.repository.architecture atom at.holder) (λ (atom : Atom). IsMatched s atom (Present n))
              (λ atom match. (match.usable, at-has (Matches s.repository.architecture atom) s.repository.packages n at.holder at.is_holder match)) item matches;
          variable_is = refl;
        })))
