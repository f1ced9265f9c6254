-- The order of demands, and the one clause of each.
use Rattle.std.proofs.Common.{◌≡◌, ℕ, List, [], ◌∷◌, Some, get_or, map, map-id, nat_cmp, slice_get, Ordering, Less, Equal, Greater}
use Rattle.std.proofs.Common.{refl, sym, ap, subst, ◌∙◌}
use Rattle.std.specs.Prelude.{Contains, IsSomeAnd, Err}
use Rattle.std.specs.Cmp.Lexicographic.{slice_cmp}
use Rattle.std.specs.Ordering.{ordering_reverse}
use Rattle.std.proofs.lemmas.Cmp.{nat_list_cmp_total}
use Rattle.std.proofs.lemmas.List.{get_or_default}
use Rattle.dist_base.specs.ListLaws.{element-is, has-at, some-element}
use Rattle.dist_base.specs.RowLaws.{Has, rows-same}
use Rattle.dist_clause.specs.ClauseList.{ClauseList}
use Rattle.dist_clause.specs.DemandLaws.{Compared, IsOrderly, exactly-clauses, is_before, is_behind, is_same}
use Rattle.dist_clause.specs.Formula.{Literal}
use Rattle.dist_clause.specs.declared.clause_set.PushError.TheVariants.{TooManyLiterals}
use Rattle.dist_relation.specs.declared.atom.Atom.{Atom}
use Rattle.dist_repo.specs.declared.package.Package.{Package}
use Rattle.dist_space.specs.Space.{AreMeaningsOf, IsMetBy, IsSpace, SpaceView, StandsBefore, key_of, variable_of}
use Rattle.dist_space.specs.VariableLaws.{one-meaning}
use Rattle.dist_space.specs.declared.meaning.Meaning.{Meaning}
use Rattle.dist_space.specs.declared.meaning.Meaning.TheVariants.{Present}
use Rattle.dist_space_clauses.specs.SpaceClauses.{Demand, OneClass, Gone, Moved, Carried, OneFresh, Item, Apart, StaysNow, AbsentNow, Required}
use Rattle.dist_space_clauses.specs.SpaceClauses.{IsBearer, IsClauseFor, IsDemand, IsItemAnd, group_of, leading, no, rank_of, second_of, space_demands, yes}
use Rattle.dist_space_clauses.specs.SpaceSet.{PassesClauses, PassesLiterals}
use Rattle.dist_space_clauses.specs.EndLaws.{ranks-asymmetric}
use Rattle.dist_space_clauses.proofs.Fronts.{leading-is, rank-one}
use Rattle.dist_space_clauses.proofs.NameFronts.{same_names}

-- ---- the order of demands

first-number : (a b : List ℕ) → a ≡ b → get_or a 0 0 ≡ get_or b 0 0
first-number a b equal = ap (λ (xs : List ℕ). get_or xs 0 0) equal

abbrev tail_of : List ℕ → List ℕ
tail_of [] = []
tail_of (x ∷ xs) = xs

pub compared : (s : SpaceView) → IsSpace s → (d e : Demand) → IsDemand s d → IsDemand s e → Compared (space_demands s) d e
compared s space d e is_d is_e = by (slice_cmp nat_cmp (rank_of s d) (rank_of s e)) refl
  where
    by : (o : Ordering) → slice_cmp nat_cmp (rank_of s d) (rank_of s e) ≡ o → Compared (space_demands s) d e
    by Less is = is_before is
    by Greater is = is_behind (nat_list_cmp_total.antisymm (rank_of s e) (rank_of s d) ∙ ap ordering_reverse is)
    by Equal is =
        let ranks = same_names (rank_of s d) (rank_of s e) is in
        let group : group_of d ≡ group_of e = first-number (rank_of s d) (rank_of s e) ranks in
        let variable : variable_of s (leading d) ≡ variable_of s (leading e) =
        first-number (tail_of (rank_of s d)) (tail_of (rank_of s e)) (ap tail_of ranks) in
        let second : second_of s d ≡ second_of s e = ap tail_of (ap tail_of ranks) in
        is_same (rank-one s d e space is_d is_e group
        (one-meaning s (leading d) (leading e) space (leading-is s d is_d) (leading-is s e is_e) variable) second)

-- ---- one clause for each demand

has-meaning : (ms : List Meaning) (m : Meaning) → Contains ms m → Has (λ (a : Meaning). a) ms m
has-meaning ms m there = (there.0, m, there.1, there.2, refl)

meaning-has : (ms : List Meaning) (m : Meaning) → Has (λ (a : Meaning). a) ms m → Contains ms m
meaning-has ms m has = (has.0, has.2, get_or_default ms has.0 m has.1 has.2 ∙ has.3 ∙ has.4)

-- the meanings with a property are one list
pub one-meanings : (s : SpaceView) (P : Meaning → Type 0) (ms others : List Meaning) → AreMeaningsOf s P ms → AreMeaningsOf s P others → ms ≡ others
one-meanings s P ms others are also =
    sym (map-id ms) ∙ rows-same (λ (m : Meaning). m) (StandsBefore s) (λ (m : Meaning). Unit {0}) (λ (m : Meaning). m)
    (λ a b. ranks-asymmetric (key_of s a) (key_of s b)) (λ x y equal p q. equal) others ms
    also.rising are.rising (λ k d short. tt) (λ k d short. tt)
    (λ m has. has-meaning ms m ((are.exact m).1 ((also.exact m).0 (meaning-has others m has))))
    (λ m has. has-meaning others m ((also.exact m).1 ((are.exact m).0 (meaning-has ms m has))))
    ∙ map-id others

-- the item at a place, and what it has
record FoundItem (s : SpaceView) (number place : ℕ) (P : Package → List Atom → Type 0) : Type 0 where
  package_is : Package
  is_package : slice_get s.repository.packages number ≡ Some package_is
  item : List Atom
  is_item : slice_get package_is.depends place ≡ Some item
  holds : P package_is item

found-item : (s : SpaceView) (number place : ℕ) (P : Package → List Atom → Type 0) → IsItemAnd s number place P → FoundItem s number place P
found-item s number place P here =
    let Q : Package → Type 0 = λ p. IsSomeAnd (slice_get p.depends place) (P p) in
    let p = some-element Q s.repository.packages number here in
    let is_p = element-is Q s.repository.packages number here in
    let inner : Q p = has-at Q s.repository.packages number p is_p here in
    let item = some-element (P p) p.depends place inner in
    let is_item = element-is (P p) p.depends place inner in
    record { package_is = p; is_package = is_p; item = item; is_item = is_item; holds = has-at (P p) p.depends place item is_item inner }

one-item : (s : SpaceView) (number place : ℕ) (P Q : Package → List Atom → Type 0) (a : FoundItem s number place P) (b : FoundItem s number place Q)
    → a.item ≡ b.item
one-item s number place P Q a b =
    let first = a.is_package in let second = b.is_package in
    let equal : a.package_is ≡ b.package_is = cc in
    let third : slice_get b.package_is.depends place ≡ Some a.item = ap (λ (p : Package). slice_get p.depends place) (sym equal) ∙ a.is_item in
    let fourth = b.is_item in cc

pub one-clause : (s : SpaceView) (d : Demand) (clause other : List Literal) → IsClauseFor s d clause → IsClauseFor s d other → clause ≡ other
one-clause s (OneClass c k l) clause other is also = is ∙ sym also
one-clause s (Gone r k) clause other is also = is ∙ sym also
one-clause s (Moved r k) clause other is also = is ∙ sym also
one-clause s (Carried r k j) clause other is also = is ∙ sym also
one-clause s (OneFresh x k l) clause other is also = is ∙ sym also
one-clause s (Item number place) clause other (matching, here, is) (others, there, also) =
    let a = found-item s number place (λ p item. AreMeaningsOf s (IsMetBy s item) matching) here in
    let b = found-item s number place (λ p item. AreMeaningsOf s (IsMetBy s item) others) there in
    let Of : List Atom → Type 0 = λ item. AreMeaningsOf s (IsMetBy s item) matching in
    let equal = one-meanings s (IsMetBy s b.item) matching others (subst Of (one-item s number place _ _ a b) a.holds) b.holds in
    is ∙ ap (λ (ms : List Meaning). no s (Present number) ∷ map (yes s) ms) equal ∙ sym also
one-clause s (Apart number m) clause other is also = is ∙ sym also
one-clause s (StaysNow c k) clause other is also = is ∙ sym also
one-clause s (AbsentNow x k) clause other is also = is ∙ sym also
one-clause s (Required name) clause other (bearers, are, is) (others, more, also) =
    is ∙ ap (λ (ms : List Meaning). map (yes s) ms) (one-meanings s (IsBearer s name) bearers others are more) ∙ sym also

-- ---- the one list

pub orderly : (s : SpaceView) → IsOrderly (space_demands s)
orderly s = record {
  asymmetric = λ d e. ranks-asymmetric (rank_of s d) (rank_of s e);
  transitive = λ x e d. nat_list_cmp_total.trans (rank_of s x) (rank_of s e) (rank_of s d);
  one_clause = one-clause s;
}

-- only one limit is passed first: a refusal that has one cause has not the other
pub one-limit : (s : SpaceView) (c l : ℕ) → IsSpace s → PassesClauses s c l → ¬ PassesLiterals s c l
one-limit s c l space first second =
    let exact = exactly-clauses (space_demands s) (orderly s) (IsDemand s) (compared s space) c l (λ (set : ClauseList). set) (Err TooManyLiterals) tt tt second
    in
    let other = (exact (λ memory. cc)).1 first in cc
