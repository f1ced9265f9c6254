-- Names put in the order of their bytes, each once.
use Rattle.std.proofs.Common.{◌≡◌, ◌⊎◌, ℕ, ◌<◌, List, [], ◌∷◌, Some, get_or, take, slice_get, nat_cmp, Ordering, Less, Equal, Greater, refl, sym, ap, subst}
use Rattle.std.proofs.Common.{◌∙◌, arith, inl, inr}
use Rattle.std.specs.Prelude.{◌↔◌, AllPairs, Contains}
use Rattle.std.specs.Cmp.Lexicographic.{slice_cmp}
use Rattle.std.specs.Ordering.{ordering_reverse}
use Rattle.std.proofs.lemmas.Cmp.{nat_list_cmp_total}
use Rattle.std.proofs.lemmas.List.{get_or-take, length-take-le}
use Rattle.std.proofs.lemmas.Option.{get_or_from_slice_get, slice_get_within}
use Rattle.dist_base.specs.ListLaws.{pairs-head, pairs-tail}
use Rattle.dist_space_clauses.proofs.NameFronts.{same_names}
use Rattle.dist_space.specs.RisingLaws.{contains-cons, contains-first, contains-later, pairs-cons, pairs-none}

abbrev pub IsLess : List ℕ → List ℕ → Type 0
IsLess a b = slice_cmp nat_cmp a b ≡ Less

record Inserted (x : List ℕ) (xs : List (List ℕ)) : Type 0 where
  names : List (List ℕ)
  rising : AllPairs IsLess names
  exact : (n : List ℕ) → Contains names n ↔ ((x ≡ n) ⊎ Contains xs n)

insert : (x : List ℕ) (xs : List (List ℕ)) → AllPairs IsLess xs → Inserted x xs
insert x [] rising = record {
  names = x ∷ [];
  rising = pairs-cons IsLess x [] (λ y there. absurd (omega (arith, there.1))) (pairs-none IsLess);
  exact = λ n. (
    contains-cons x n [],
    λ either. elim either [
      | inl same ↦ subst (Contains (x ∷ [])) same (contains-first x [])
      | inr none ↦ absurd (omega (arith, none.1))
    ],
  );
}
insert x (y ∷ xs) rising = by (slice_cmp nat_cmp x y) refl (insert x xs (pairs-tail IsLess y xs rising))
  where
    by : (o : Ordering) → slice_cmp nat_cmp x y ≡ o → Inserted x xs → Inserted x (y ∷ xs)
    by Less less rest = record {
      names = x ∷ y ∷ xs;
      rising = pairs-cons IsLess x (y ∷ xs)
          (λ z there. elim (contains-cons y z xs there) [
            | inl same ↦ subst (IsLess x) same less
            | inr later ↦ nat_list_cmp_total.trans x y z less (pairs-head IsLess y xs rising z later)
          ])
          rising;
      exact = λ n. (
        contains-cons x n (y ∷ xs),
        λ either. elim either [
          | inl same ↦ subst (Contains (x ∷ y ∷ xs)) same (contains-first x (y ∷ xs))
          | inr later ↦ contains-later x n (y ∷ xs) later
        ],
      );
    }
    by Equal equal rest = record {
      names = y ∷ xs;
      rising = rising;
      exact = λ n. (
        (λ there. inr there),
        λ either. elim either [
          | inl same ↦ subst (Contains (y ∷ xs)) (sym (same_names x y equal) ∙ same) (contains-first y xs)
          | inr there ↦ there
        ],
      );
    }
    by Greater greater rest =
        let less : IsLess y x = nat_list_cmp_total.antisymm y x ∙ ap ordering_reverse greater in
        record {
          names = y ∷ rest.names;
          rising = pairs-cons IsLess y rest.names
              (λ z there. elim ((rest.exact z).0 there) [
                | inl same ↦ subst (IsLess y) same less
                | inr later ↦ pairs-head IsLess y xs rising z later
              ])
              rest.rising;
          exact = λ n. (
            (λ there. elim (contains-cons y n rest.names there) [
              | inl same ↦ inr (subst (Contains (y ∷ xs)) same (contains-first y xs))
              | inr later ↦ elim ((rest.exact n).0 later) [
                | inl same ↦ inl same
                | inr inside ↦ inr (contains-later y n xs inside)
              ]
            ]),
            λ either. elim either [
              | inl same ↦ contains-later y n rest.names ((rest.exact n).1 (inl same))
              | inr there ↦ elim (contains-cons y n xs there) [
                | inl same ↦ subst (Contains (y ∷ rest.names)) same (contains-first y rest.names)
                | inr inside ↦ contains-later y n rest.names ((rest.exact n).1 (inr inside))
              ]
            ],
          );
        }

pub record InOrder (xs : List (List ℕ)) : Type 0 where
  pub names : List (List ℕ)
  pub rising : AllPairs IsLess names
  pub exact : (n : List ℕ) → Contains names n ↔ Contains xs n

pub in-order : (xs : List (List ℕ)) → InOrder xs
in-order [] = record { names = []; rising = pairs-none IsLess; exact = λ n. ((λ there. there), λ there. there) }
in-order (x ∷ xs) =
    let rest = in-order xs in
    let all = insert x rest.names rest.rising in
    record {
      names = all.names;
      rising = all.rising;
      exact = λ n. (
        (λ there. elim ((all.exact n).0 there) [
          | inl same ↦ subst (Contains (x ∷ xs)) same (contains-first x xs)
          | inr later ↦ contains-later x n xs ((rest.exact n).0 later)
        ]),
        λ there. (all.exact n).1 (elim (contains-cons x n xs there) [
          | inl same ↦ inl same
          | inr later ↦ inr ((rest.exact n).1 later)
        ]),
      );
    }

-- one of the first names is below the next one
pub first-less : (names : List (List ℕ)) → AllPairs IsLess names → (k : ℕ) (name : List ℕ) → slice_get names k ≡ Some name → (x : List ℕ)
    → Contains (take k names) x → IsLess x name
first-less names rising k name is x there =
    let within = slice_get_within names k name is in
    let less : there.0 < k = omega (arith, there.1, length-take-le k names (omega (arith, within))) in
    let here : get_or names there.0 x ≡ x = sym (get_or-take k names there.0 x less) ∙ there.2 in
    let next : get_or names k x ≡ name = get_or_from_slice_get names k name x is in
    subst (λ (y : List ℕ). IsLess y name) here (subst (λ (y : List ℕ). IsLess (get_or names there.0 x) y) next (rising there.0 k x less within))
