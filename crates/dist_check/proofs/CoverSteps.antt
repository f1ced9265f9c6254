-- What is kept of a group's installations for a claim on challenges, one installation after another.
use Rattle.std.proofs.Common.{◌≡◌, ◌⊎◌, inl, inr, ℕ, ◌<◌, ◌↔◌, ◌&&◌, Bool, true, false, List, [], ◌∷◌, ◌++◌, Option, Some, None, filter, length, get_or}
use Rattle.std.proofs.Common.{refl, sym, subst, ◌∙◌, arith, length-append, if◌then◌else◌}
use Rattle.std.specs.List.{All, Any, Contains}
use Rattle.std.proofs.lemmas.Bool.{false≢true, and_parts, and_from, or_cases, or_left, or_right}
use Rattle.std.proofs.lemmas.List.{get_or_append_left, get_or_at}
use Rattle.std.proofs.lemmas.List.Elements.{All-nil, All-push}
use Rattle.std.proofs.lemmas.List.Quantifiers.{Any-push}
use Rattle.dist_base.specs.ListLaws.{any-cases, any-head, any-later}
use Rattle.dist_cert.specs.Rising.{is_among}
use Rattle.dist_cert.specs.ListLaws.{any-from, contains-cases, contains-later, from-any}
use Rattle.dist_check_group.specs.Layout.{LayoutView, non_packages, used}
use Rattle.dist_check_group.specs.Common.{narrowed}
use Rattle.dist_check_group.specs.Cover.{AreSame, CoverView, Gathers, used_with}
use Rattle.dist_check.specs.CoverPrivate.{IsCoverOf, IsUsedOf}

pub filter-has : (members xs : List ℕ) (q : ℕ) → Contains (filter (is_among members) xs) q ↔ (Contains xs q × Contains members q)
filter-has members [] q = ((λ h. absurd (omega (arith, h.1))), λ h. absurd (omega (arith, h.0.1)))
filter-has members (x ∷ xs) q = by (is_among members x) refl (filter-has members xs q)
  where
    by : (b : Bool) → is_among members x ≡ b → Contains (filter (is_among members) xs) q ↔ (Contains xs q × Contains members q)
        → Contains (if b then x ∷ filter (is_among members) xs else filter (is_among members) xs) q ↔ (Contains (x ∷ xs) q × Contains members q)
    by true is rest = (
      (λ h. elim (contains-cases x (filter (is_among members) xs) q h) [
        | inl here ↦ ((0, omega arith, here), subst (Contains members) here (from-any x members is))
        | inr later ↦ (contains-later x xs q (rest.0 later).0, (rest.0 later).1)
      ]),
      λ h. elim (contains-cases x xs q h.0) [
        | inl here ↦ (0, omega arith, here)
        | inr later ↦ contains-later x (filter (is_among members) xs) q (rest.1 (later, h.1))
      ],
    )
    by false is rest = (
      (λ h. (contains-later x xs q (rest.0 h).0, (rest.0 h).1)),
      λ h. elim (contains-cases x xs q h.0) [
        | inl here ↦ absurd (false≢true (sym is ∙ any-from x members (subst (Contains members) (sym here) h.1)))
        | inr later ↦ rest.1 (later, h.1)
      ],
    )

pub any-append : {X : Type 0} (P : X → Type 0) (xs : List X) (x : X) → Any P xs → Any P (xs ++ x ∷ [])
any-append P xs x any = (any.0, any.1, omega (arith, any.2, length-append xs (x ∷ [])), place (xs) any.0 any.1 any.2 ∙ any.3, any.4)
  where
    place : (ys : List _) (k : ℕ) (d : _) → k < length ys → get_or (ys ++ x ∷ []) k d ≡ get_or ys k d
    place ys k d within = get_or_append_left ys (x ∷ []) d k within

any-last : {X : Type 0} (P : X → Type 0) (xs : List X) (x : X) → Any P (xs ++ x ∷ []) → Any P xs ⊎ P x
any-last P [] x any = elim (any-cases P x [] any) [
  | inl here ↦ inr here
  | inr none ↦ absurd (omega (arith, none.2))
]
any-last P (y ∷ ys) x any = elim (any-cases P y (ys ++ x ∷ []) any) [
  | inl here ↦ inl (any-head P y ys here)
  | inr later ↦ elim (any-last P ys x later) [
    | inl earlier ↦ inl (any-later P y ys earlier)
    | inr here ↦ inr here
  ]
]

all-front : {X : Type 0} (P : X → Type 0) (xs : List X) (x : X) → All P (xs ++ x ∷ []) → All P xs
all-front P xs x all k d within = subst P (get_or_append_left xs (x ∷ []) d k within) (all k d (omega (arith, within, length-append xs (x ∷ []))))

all-last : {X : Type 0} (P : X → Type 0) (xs : List X) (x : X) → All P (xs ++ x ∷ []) → P x
all-last P xs x all = subst P (get_or_at xs x [] x (length xs) refl) (all (length xs) x (omega (arith, length-append xs (x ∷ []))))

pub cover-first : (layout : LayoutView) (variable : ℕ) → IsCoverOf layout [] variable (record { used = None; held = [] })
cover-first layout variable = record {
  used = All-nil (λ m. ¬ Contains m variable);
  held = λ v. ((λ e. absurd (false≢true e)), λ any. absurd (omega (arith, any.2)));
}

used-push : (layout : LayoutView) (all : List (List ℕ)) (p : ℕ) (members : List ℕ) (clusters : Option (List ℕ)) → IsUsedOf layout all p clusters
    → IsUsedOf layout (all ++ members ∷ []) p (used_with layout p members clusters)
used-push layout all p members clusters is = by (is_among members p) refl clusters is
  where
    by : (b : Bool) → is_among members p ≡ b → (c : Option (List ℕ)) → IsUsedOf layout all p c
        → IsUsedOf layout (all ++ members ∷ []) p (if b then Some (narrowed c (used layout members)) else c)
    by false absent None none = All-push (λ m. ¬ Contains m p) all members none (λ there. false≢true (sym absent ∙ any-from p members there))
    by false absent (Some c) h = (
      any-append (λ m. Contains m p) all members h.0,
      λ q. (
        (λ there. All-push (λ m. Contains m p → Contains (used layout m) q) all members ((h.1 q).0 there)
            (λ holds. absurd (false≢true (sym absent ∙ any-from p members holds)))),
        λ each. (h.1 q).1 (all-front (λ m. Contains m p → Contains (used layout m) q) all members each),
      ),
    )
    by true there None none = (
      Any-push (λ m. Contains m p) all members (from-any p members there),
      λ q. (
        (λ here. All-push (λ m. Contains m p → Contains (used layout m) q) all members (λ k d within holds. absurd (none k d within holds)) (λ holds. here)),
        λ each. all-last (λ m. Contains m p → Contains (used layout m) q) all members each (from-any p members there),
      ),
    )
    by true there (Some c) h = (
      any-append (λ m. Contains m p) all members h.0,
      λ q. (
        (λ here.
            let both = (filter-has (used layout members) c q).0 here in
            All-push (λ m. Contains m p → Contains (used layout m) q) all members ((h.1 q).0 both.0) (λ holds. both.1)),
        λ each. (filter-has (used layout members) c q).1 (
          (h.1 q).1 (all-front (λ m. Contains m p → Contains (used layout m) q) all members each),
          all-last (λ m. Contains m p → Contains (used layout m) q) all members each (from-any p members there),
        ),
      ),
    )

used-alike : (layout : LayoutView) (all : List (List ℕ)) (p : ℕ) (new old : Option (List ℕ)) → AreSame new old → IsUsedOf layout all p old
    → IsUsedOf layout all p new
used-alike layout all p None None same is = is
used-alike layout all p (Some new) (Some old) same is = (
  is.0,
  λ c. (
    (λ there. (is.1 c).0 (from-any c old (sym (same c) ∙ any-from c new there))),
    λ each. from-any c new (same c ∙ any-from c old ((is.1 c).1 each)),
  ),
)
used-alike layout all p None (Some old) same is = absurd same
used-alike layout all p (Some new) None same is = absurd same

-- one installation more
pub cover-push : (layout : LayoutView) (all : List (List ℕ)) (p : ℕ) (members : List ℕ) (old new : CoverView) → IsCoverOf layout all p old
    → Gathers layout p members old new → IsCoverOf layout (all ++ members ∷ []) p new
cover-push layout all p members old new is gathers =
    let P : ℕ → List ℕ → Type 0 = λ v m. Contains m p × Contains (non_packages layout m) v in
    record {
      used = used-alike layout (all ++ members ∷ []) p new.used (used_with layout p members old.used) gathers.used
          (used-push layout all p members old.used is.used);
      held = λ v. (
        (λ e. elim (or_cases (is_among old.held v) (is_among members p && is_among (non_packages layout members) v) (sym (gathers.held v) ∙ e)) [
          | inl earlier ↦ any-append (P v) all members ((is.held v).0 earlier)
          | inr here ↦
              let both = and_parts (is_among members p) (is_among (non_packages layout members) v) here in
              Any-push (P v) all members (from-any p members both.0, from-any v (non_packages layout members) both.1)
        ]),
        λ any. gathers.held v ∙ elim (any-last (P v) all members any) [
          | inl earlier ↦ or_left (is_among old.held v) (is_among members p && is_among (non_packages layout members) v) ((is.held v).1 earlier)
          | inr here ↦ or_right (is_among old.held v) (is_among members p && is_among (non_packages layout members) v)
              (and_from (is_among members p) (is_among (non_packages layout members) v) (any-from p members here.0)
              (any-from v (non_packages layout members) here.1))
        ],
      );
    }
