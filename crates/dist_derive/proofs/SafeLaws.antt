-- Safe clauses: resolution keeps them safe, and the variables outside a cone, all false, settle those that reach there.
use Rattle.std.proofs.Common.{◌≡◌, ◌≢◌, ℕ, zero, suc, ◌-◌, ◌⊎◌, ⊎_elim, inl, inr, ◌↔◌, ◌≤◌, Bool, true, false, not, cond, List, [], ◌∷◌, ◌++◌, length, map}
use Rattle.std.proofs.Common.{take, get_or}
use Rattle.std.proofs.Common.{refl, ap, sym, subst, ◌∙◌, arith}
use Rattle.std.specs.List.{All, AllPairs, Contains}
use Rattle.std.proofs.lemmas.Bool.{cases_Bool, cases_eq, true≢false}
use Rattle.std.proofs.lemmas.List.{take-append-le}
use Rattle.std.proofs.lemmas.List.Elements.{All-nil, All-cons, All-head, All-same, All-append, All-push, All-map, All-weaker, All-contains, All-contains_itself}
use Rattle.std.proofs.lemmas.List.Elements.{Contains-get_or}
use Rattle.std.proofs.lemmas.List.Elements.{Contains-append_left, Contains-append_right, Contains-append_cases}
use Rattle.dist_clause.specs.Formula.{Literal, literal, negation, IsClauseOver}
use Rattle.dist_clause.specs.ClauseList.{clause_at}
use Rattle.dist_derive.specs.ContainmentPrivate.{ContainsAll}
use Rattle.dist_derive.specs.Propagation.{IsFalse, IsUnset, AllFalse, IsPropagated, IsConsistent, IsSettled}
use Rattle.dist_derive.specs.Cone.{IsClosedUnder, InCone}
use Rattle.dist_derive.specs.Follows.{EndsFalse, Follows}
use Rattle.dist_derive.specs.New.{IsNew}
use Rattle.dist_derive.specs.Safe.{AreSafe, IsResolvent, AreSettledWithin}
use Rattle.dist_derive.proofs.LiteralLemmas.{same_or_not}
use Rattle.dist_derive.proofs.AssumeLemmas.{AllFalse-more, OthersFalse-more}
use Rattle.dist_derive.proofs.GrowingLemmas.{is_member, is_member-true, is_member-at}
use Rattle.dist_derive.proofs.ConeLaws.{cone_closed, negatives_or_outside}
use Rattle.dist_derive.proofs.SettledLaws.{true_settles, settled_new}

-- ---- one clause

abbrev pub IsClosedAtOne : (ℕ → Bool) → List Literal → Type 0
IsClosedAtOne has clause = All (λ l. l.positive ≡ false → has l.variable ≡ true) clause → All (λ l. has l.variable ≡ true) clause

pub closed_one : (has : ℕ → Bool) (clause : List Literal) → IsClosedAtOne has clause → IsClosedUnder has (clause ∷ [])
closed_one has clause h = All-cons (IsClosedAtOne has) clause [] h (All-nil (IsClosedAtOne has))

pub of_closed_one : (has : ℕ → Bool) (clause : List Literal) → IsClosedUnder has (clause ∷ []) → IsClosedAtOne has clause
of_closed_one has clause h = All-head (IsClosedAtOne has) clause [] h

-- ---- resolution

-- x is the positive literal of the two that are resolved
resolved : (has : ℕ → Bool) (one other rest : List Literal) (x y : Literal) → x.positive ≡ true → y.variable ≡ x.variable → Contains one x
    → All (λ m. m ≢ x → Contains rest m) one → All (λ m. m ≢ y → Contains rest m) other → IsClosedAtOne has one → IsClosedAtOne has other
    → All (λ l. l.positive ≡ false → has l.variable ≡ true) rest → All (λ l. has l.variable ≡ true) one × All (λ l. has l.variable ≡ true) other
resolved has one other rest x y positive same here from_one from_other one_safe other_safe negatives =
    let negative : (m : Literal) → Contains rest m → m.positive ≡ false → has m.variable ≡ true =
    λ m h. All-contains (λ l. l.positive ≡ false → has l.variable ≡ true) rest m negatives h in
    let all_one = one_safe (All-weaker (λ m. m ≢ x → Contains rest m) (λ l. l.positive ≡ false → has l.variable ≡ true)
    (λ m h e. negative m (h (λ is. true≢false (sym positive ∙ (sym (ap (λ (l : Literal). l.positive) is) ∙ e)))) e) one from_one) in (
      all_one,
      other_safe (All-weaker (λ m. m ≢ y → Contains rest m) (λ l. l.positive ≡ false → has l.variable ≡ true)
          (λ m h e. elim (same_or_not m y) [
            | inl is ↦ ap has (ap (λ (l : Literal). l.variable) is ∙ same) ∙ All-contains (λ l. has l.variable ≡ true) one x all_one here
            | inr apart ↦ negative m (h apart) e
          ]) other from_other),
    )

pub resolvent_closed : (has : ℕ → Bool) (one other rest : List Literal) (l : Literal) → IsResolvent one other l rest → IsClosedAtOne has one
    → IsClosedAtOne has other → IsClosedAtOne has rest
resolvent_closed has one other rest l r one_safe other_safe negatives =
    let both : All (λ m. has m.variable ≡ true) one × All (λ m. has m.variable ≡ true) other = elim (cases_Bool l.positive) [
      | inl positive ↦ resolved has one other rest l (negation l) positive refl r.in_one r.rest_of_one r.rest_of_other one_safe other_safe negatives
      | inr negative ↦
          let h = resolved has other one rest (negation l) l (ap not negative) refl r.in_other r.rest_of_other
          r.rest_of_one other_safe one_safe negatives in
          (h.1, h.0)
    ] in
    All-weaker (λ m. Contains one m ⊎ Contains other m) (λ m. has m.variable ≡ true) (λ m h. ⊎_elim
    (λ g. All-contains (λ x. has x.variable ≡ true) one m both.0 g) (λ g. All-contains (λ x. has x.variable ≡ true) other m both.1 g) h) rest r.no_more

pub resolvent_safe : (inputs : List (List Literal)) (one other resolvent : List Literal) (l : Literal) → AreSafe inputs (one ∷ []) → AreSafe inputs (other ∷ [])
    → IsResolvent one other l resolvent → AreSafe inputs (resolvent ∷ [])
resolvent_safe inputs one other resolvent l first second r = λ has closed. closed_one has resolvent
    (resolvent_closed has one other resolvent l r (of_closed_one has one (first has closed)) (of_closed_one has other (second has closed)))

-- ---- clauses one by one, and in another order

pub same_safe : (inputs : List (List Literal)) (clause other : List Literal) → ContainsAll clause other → ContainsAll other clause
    → AreSafe inputs (clause ∷ []) → AreSafe inputs (other ∷ [])
same_safe inputs clause other there back safe = λ has closed. closed_one has other (λ negatives.
    let all = of_closed_one has clause (safe has closed) (All-weaker (Contains other) (λ l. l.positive ≡ false → has l.variable ≡ true)
    (λ l h. All-contains (λ m. m.positive ≡ false → has m.variable ≡ true) other l negatives h) clause back) in
    All-weaker (Contains clause) (λ l. has l.variable ≡ true) (λ l h. All-contains (λ m. has m.variable ≡ true) clause l all h) other there)

pub each_safe : (inputs clauses : List (List Literal)) (clause : List Literal) → AreSafe inputs clauses → Contains clauses clause
    → AreSafe inputs (clause ∷ [])
each_safe inputs clauses clause safe here = λ has closed. closed_one has clause (All-contains (IsClosedAtOne has) clauses clause (safe has closed) here)

pub line_safe : (clauses : List (List Literal)) (inputs : ℕ) (line : List Literal) → inputs ≤ length clauses → AreSafe (take inputs clauses) clauses
    → AreSafe (take inputs clauses) (line ∷ []) → AreSafe (take inputs (clauses ++ line ∷ [])) (clauses ++ line ∷ [])
line_safe clauses inputs line within safe this =
    subst (λ ins. AreSafe ins (clauses ++ line ∷ [])) (sym (take-append-le inputs clauses (line ∷ []) within))
    (λ has closed. All-append (IsClosedAtOne has) clauses (line ∷ []) (safe has closed) (this has closed))

-- ---- what is settled

-- the variables up to n that are no members, false
abbrev pub outside : List ℕ → ℕ → List Literal
outside members zero = []
outside members (suc n) = cond (is_member members (suc n)) (outside members n) (literal (suc n) false ∷ outside members n)

abbrev pub IsOutside : List ℕ → Literal → Type 0
IsOutside members l = (l.positive ≡ false) × (is_member members l.variable ≡ false)

outside_next : (members : List ℕ) (n : ℕ) (b : Bool) → is_member members (suc n) ≡ b
    → outside members (suc n) ≡ cond b (outside members n) (literal (suc n) false ∷ outside members n)
outside_next members n b e = ap (λ x. cond x (outside members n) (literal (suc n) false ∷ outside members n)) e

all_outside : (members : List ℕ) (n : ℕ) → All (IsOutside members) (outside members n)
all_outside members zero = All-nil (IsOutside members)
all_outside members (suc n) = elim (cases_Bool (is_member members (suc n))) [
  | inl e ↦ All-same (IsOutside members) (outside members (suc n)) (outside members n) (outside_next members n true e) (all_outside members n)
  | inr e ↦ All-same (IsOutside members) (outside members (suc n)) (literal (suc n) false ∷ outside members n) (outside_next members n false e)
      (All-cons (IsOutside members) (literal (suc n) false) (outside members n) (refl, e) (all_outside members n))
]

outside_has : (members : List ℕ) (n v : ℕ) → 1 ≤ v → v ≤ n → is_member members v ≡ false → Contains (outside members n) (literal v false)
outside_has members zero v from to out = absurd (omega (arith, from, to))
outside_has members (suc n) v from to out = elim (cases_eq v (suc n)) [
  | inl same ↦ subst (λ ls. Contains ls (literal v false)) (sym (outside_next members n false (ap (is_member members) (sym same) ∙ out)))
      (0, omega arith, ap (λ x. literal x false) (sym same))
  | inr other ↦
      let h = outside_has members n v from (omega (arith, to, other)) out in
      elim (cases_Bool (is_member members (suc n))) [
        | inl e ↦ subst (λ ls. Contains ls (literal v false)) (sym (outside_next members n true e)) h
        | inr e ↦ subst (λ ls. Contains ls (literal v false)) (sym (outside_next members n false e)) (suc h.0, omega (arith, h.1), h.2)
      ]
]

module _ (n : ℕ) (clauses : List (List Literal)) (members : List ℕ) (trues : List Literal) (within : All (λ l. Contains members l.variable) trues) where
  abbrev more : List Literal
  more = trues ++ outside members n

  not_outside : (v : ℕ) → Contains members v → ¬ (is_member members v ≡ false)
  not_outside v h e = true≢false (sym (is_member-at members v h.0 h.1 h.2) ∙ e)

  member_of : (l : Literal) → Contains trues l → Contains members l.variable
  member_of l h = All-contains (λ m. Contains members m.variable) trues l within h

  outside_of : (l : Literal) → Contains (outside members n) l → IsOutside members l
  outside_of l h = All-contains (IsOutside members) (outside members n) l (all_outside members n) h

  -- of the members nothing more is true
  pub back : (l : Literal) → Contains members l.variable → Contains more l → Contains trues l
  back l here h = ⊎_elim (λ g. g) (λ g. absurd (not_outside l.variable here (outside_of l g).1)) (Contains-append_cases trues (outside members n) l h)

  more_consistent : IsConsistent trues → IsConsistent more
  more_consistent consistent l h false_too = ⊎_elim
      (λ g. consistent l g (back (negation l) (member_of l g) false_too))
      (λ g. ⊎_elim
      (λ f. not_outside l.variable (member_of (negation l) f) (outside_of l g).1)
      (λ f. true≢false (sym (ap not (outside_of l g).0) ∙ (outside_of (negation l) f).0))
      (Contains-append_cases trues (outside members n) (negation l) false_too))
      (Contains-append_cases trues (outside members n) l h)

  -- a clause within the set is settled as it was
  settled_inside : (clause : List Literal) → All (λ l. Contains members l.variable) clause → (¬ AllFalse trues clause) × IsPropagated trues clause
      → (¬ AllFalse more clause) × IsPropagated more clause
  settled_inside clause inside h = (
    λ all. h.0 (λ k d k_within. back (negation (get_or clause k d)) (inside k d k_within) (all k d k_within)),
    λ l here others. Contains-append_left trues (outside members n) l
        (h.1 l here (λ k d k_within apart. back (negation (get_or clause k d)) (inside k d k_within) (others k d k_within apart))),
  )

  -- one that has a negative literal outside is true by it
  settled_outside : IsConsistent trues → (clause : List Literal) (l : Literal) → IsClauseOver n clause → Contains clause l → IsOutside members l
      → (¬ AllFalse more clause) × IsPropagated more clause
  settled_outside consistent clause l over here out =
      let r = All-contains (λ m. (1 ≤ m.variable) × (m.variable ≤ n)) clause l over.in_range here in
      let is : literal l.variable false ≡ l = ap (λ b. literal l.variable b) (sym out.0) in
      true_settles more clause l (more_consistent consistent) here
      (subst (λ m. Contains more m) is (Contains-append_right trues (outside members n) (literal l.variable false) (outside_has members n l.variable r.0 r.1
      out.1)))

  settled_each : IsConsistent trues → (clause : List Literal) → IsClauseOver n clause → IsClosedAtOne (is_member members) clause
      → (All (λ l. Contains members l.variable) clause → (¬ AllFalse trues clause) × IsPropagated trues clause)
      → (¬ AllFalse more clause) × IsPropagated more clause
  settled_each consistent clause over closed inside = ⊎_elim
      (λ negatives.
      let all = All-weaker (λ l. is_member members l.variable ≡ true) (λ l. Contains members l.variable) (λ l h. is_member-true members l.variable h)
      clause (closed negatives) in
      settled_inside clause all (inside all))
      (λ x. settled_outside consistent clause x.0 over x.1 (x.2, x.3))
      (negatives_or_outside (is_member members) clause)

  pub settled_more : IsConsistent trues → All (IsClauseOver n) clauses → IsClosedUnder (is_member members) clauses → AreSettledWithin members clauses trues
      → IsSettled clauses more
  settled_more consistent over closed settled =
      let each : All (λ clause. (¬ AllFalse more clause) × IsPropagated more clause) clauses =
      λ k d k_within. settled_each consistent (get_or clauses k d) (over k d k_within) (closed k d k_within) (settled k d k_within) in
      record {
        consistent = more_consistent consistent;
        no_conflict = λ k d k_within. (each k d k_within).0;
        propagated = λ k d k_within. (each k d k_within).1;
      }

-- the cone's list of variables is closed
pub cone_members_closed : (inputs : List (List Literal)) (assumptions : List Literal) (cone : List ℕ)
    → ((v : ℕ) → Contains cone v ↔ InCone inputs assumptions v) → IsClosedUnder (is_member cone) inputs
cone_members_closed inputs assumptions cone exact = λ k d k_within negatives.
    let clause = get_or inputs k d in
    let in_cone = All-weaker (λ l. l.positive ≡ false → is_member cone l.variable ≡ true) (λ l. l.positive ≡ false → InCone inputs assumptions l.variable)
    (λ l h e. (exact l.variable).0 (is_member-true cone l.variable (h e))) clause negatives in
    All-weaker (λ l. InCone inputs assumptions l.variable) (λ l. is_member cone l.variable ≡ true)
    (λ l h. let g = (exact l.variable).1 h in is_member-at cone l.variable g.0 g.1 g.2) clause
    (cone_closed inputs assumptions clause (Contains-get_or inputs k d k_within) in_cone)

pub outside_settles : (n : ℕ) (inputs clauses : List (List Literal)) (assumptions : List Literal) (cone : List ℕ) (trues : List Literal)
    → ((v : ℕ) → Contains cone v ↔ InCone inputs assumptions v) → All (IsClauseOver n) clauses → AreSafe inputs clauses → IsConsistent trues
    → All (λ l. Contains cone l.variable) trues → AreSettledWithin cone clauses trues
    → (more : List Literal) × IsSettled clauses more × ContainsAll more trues × ((l : Literal) → Contains cone l.variable → Contains more l → Contains trues l)
outside_settles n inputs clauses assumptions cone trues exact over safe consistent within settled = (
  trues ++ outside cone n,
  settled_more n clauses cone trues within consistent over (safe (is_member cone) (cone_members_closed inputs assumptions cone exact)) settled,
  All-weaker (Contains trues) (Contains (trues ++ outside cone n)) (λ l h. Contains-append_left trues (outside cone n) l h) trues (All-contains_itself trues),
  back n clauses cone trues within,
)

-- ---- what follows

-- settled literals hold what hints make true, and make no clause false
ends_not : (clauses : List (List Literal)) (trues : List Literal) → IsSettled clauses trues → (some : List Literal) (hints : List ℕ)
    → ContainsAll trues some → ¬ EndsFalse clauses some hints
ends_not clauses trues settled some [] among h = h
ends_not clauses trues settled some (hint ∷ hints) among h =
    let here : Contains clauses (clause_at clauses hint) = Contains-get_or clauses (hint - 1) [] (omega (arith, h.0.0, h.0.1)) in
    ⊎_elim
    (λ x. All-contains (λ c. ¬ AllFalse trues c) clauses (clause_at clauses hint) settled.no_conflict here
    (AllFalse-more some trues (clause_at clauses hint) among x.0))
    (λ x. ends_not clauses trues settled (some ++ x.0 ∷ []) hints (All-push (Contains trues) some x.0 among
    (All-contains (IsPropagated trues) clauses (clause_at clauses hint) settled.propagated here x.0 x.1.member
    (OthersFalse-more some trues (clause_at clauses hint) x.0 among x.1.others))) x.2)
    h.1

pub follows_not_denied : (clauses : List (List Literal)) (clause : List Literal) (hints : List ℕ) (trues : List Literal) → Follows clauses clause hints
    → IsSettled clauses trues → ¬ AllFalse trues clause
follows_not_denied clauses clause hints trues follows settled all = ends_not clauses trues settled (map negation clause) hints
    (All-map (Contains trues) negation clause all) follows

-- ---- first points

pub point_new : (n : ℕ) (clauses : List (List Literal)) (inputs : ℕ) (assumptions : List Literal) (cone : List ℕ) (first : Literal)
    (rest trues : List Literal) → ((v : ℕ) → Contains cone v ↔ InCone (take inputs clauses) assumptions v) → All (IsClauseOver n) clauses
    → AreSafe (take inputs clauses) clauses → AllPairs (λ l m. l.variable ≢ m.variable) (first ∷ rest)
    → All (λ l. Contains cone l.variable) (first ∷ rest) → IsConsistent trues → All (λ l. Contains cone l.variable) trues
    → AreSettledWithin cone clauses trues → ContainsAll trues assumptions → AllFalse trues rest → IsUnset trues first
    → IsNew clauses inputs assumptions (first ∷ rest)
point_new n clauses inputs assumptions cone first rest trues exact over safe distinct inside consistent within settled assumed denied unset =
    let s = outside_settles n (take inputs clauses) clauses assumptions cone trues exact over safe consistent within settled in
    let first_in = All-head (λ l. Contains cone l.variable) first rest inside in
    settled_new clauses inputs assumptions first rest s.0 distinct
    (All-weaker (λ l. Contains cone l.variable) (λ l. InCone (take inputs clauses) assumptions l.variable) (λ l h. (exact l.variable).0 h) (first ∷ rest)
    inside)
    s.1 (All-weaker (Contains trues) (Contains s.0) (λ l h. All-contains (Contains s.0) trues l s.2 h) assumptions assumed)
    (All-weaker (IsFalse trues) (IsFalse s.0) (λ l h. All-contains (Contains s.0) trues (negation l) s.2 h) rest denied)
    (λ h. unset.0 (s.3 first first_in h), λ h. unset.1 (s.3 (negation first) first_in h))

pub point_follows_new : (n : ℕ) (clauses : List (List Literal)) (inputs : ℕ) (assumptions : List Literal) (cone : List ℕ) (first : Literal)
    (rest trues : List Literal) (hints : List ℕ) → ((v : ℕ) → Contains cone v ↔ InCone (take inputs clauses) assumptions v) → All (IsClauseOver n) clauses
    → AreSafe (take inputs clauses) clauses → AllPairs (λ l m. l.variable ≢ m.variable) (first ∷ rest)
    → All (λ l. Contains cone l.variable) (first ∷ rest) → IsConsistent trues → All (λ l. Contains cone l.variable) trues
    → AreSettledWithin cone clauses trues → ContainsAll trues assumptions → AllFalse trues rest → (¬ Contains trues first)
    → Follows clauses (first ∷ rest) hints → IsNew clauses inputs assumptions (first ∷ rest)
point_follows_new n clauses inputs assumptions cone first rest trues hints exact over safe distinct inside consistent within settled assumed denied not_true
    follows =
    let s = outside_settles n (take inputs clauses) clauses assumptions cone trues exact over safe consistent within settled in
    let more_denied = All-weaker (IsFalse trues) (IsFalse s.0) (λ l h. All-contains (Contains s.0) trues (negation l) s.2 h) rest denied in
    point_new n clauses inputs assumptions cone first rest trues exact over safe distinct inside consistent within settled assumed denied (
      not_true,
      λ h. follows_not_denied clauses (first ∷ rest) hints s.0 follows s.1
          (All-cons (IsFalse s.0) first rest (All-contains (Contains s.0) trues (negation first) s.2 h) more_denied),
    )
