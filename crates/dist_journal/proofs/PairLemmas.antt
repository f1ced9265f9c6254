-- Sets of clusters with packages, and their lists.
use Rattle.std.proofs.Common.{◌≡◌, ◌⊎◌, ◌↔◌, ℕ, zero, suc, ◌<◌, List, [], ◌∷◌, ◌++◌, Ordering, Less, Equal, Greater, length, get_or, map, refl, sym}
use Rattle.std.proofs.Common.{ap, subst, ◌∙◌, inl, inr, arith, nat_cmp, append_assoc}
use Rattle.std.specs.Prelude.{AllPairs, Contains}
use Rattle.std.specs.BTreeSet.{insert_key}
use Rattle.std.specs.List.Sorted.{IsStrictlySortedBy}
use Rattle.std.specs.Ordering.{MatchOrdering, match_ordering, ordering_then}
use Rattle.std.proofs.lemmas.Cmp.{ranked}
use Rattle.std.proofs.lemmas.List.{append-nil, get_or-map, length-map, map-append}
use Rattle.std.proofs.lemmas.Map.Keys.{Less-from_sorted}
use Rattle.dist_journal.specs.BrokenOrder.{StandsBefore}
use Rattle.dist_journal.specs.PairsPrivate.{Adds, pair_cmp, pair_of}
use Rattle.dist_journal.specs.declared.broken_list.Broken.{Broken}

abbrev Pair : Type 0
Pair = ℕ × ℕ

-- ---- the order

-- what an answer of the order says
abbrev pub Ranks : Pair → Pair → Ordering → Type 0
Ranks a b o = MatchOrdering o ((a.0 < b.0) ⊎ ((a.0 ≡ b.0) × (a.1 < b.1))) (a ≡ b) (Unit {0})

ranks-by : (a b : Pair) (first second : Ordering) → nat_cmp a.0 b.0 ≡ first → nat_cmp a.1 b.1 ≡ second → Ranks a b (ordering_then first second)
ranks-by a b Less second is next = inl (ranked a.0 b.0 Less (sym is))
ranks-by a b Greater second is next = tt
ranks-by a b Equal Less is next = inr (ranked a.0 b.0 Equal (sym is), ranked a.1 b.1 Less (sym next))
ranks-by a b Equal Greater is next = tt
ranks-by a b Equal Equal is next =
    let first : a.0 ≡ b.0 = ranked a.0 b.0 Equal (sym is) in
    let second : a.1 ≡ b.1 = ranked a.1 b.1 Equal (sym next) in
    ap (λ (n : ℕ). (n, a.1)) first ∙ ap (λ (n : ℕ). (b.0, n)) second

pub ranks : (a b : Pair) (o : Ordering) → pair_cmp a b ≡ o → Ranks a b o
ranks a b o is = subst (Ranks a b) is (ranks-by a b (nat_cmp a.0 b.0) (nat_cmp a.1 b.1) refl refl)

-- ---- one pair more in a set

contains-cases : (x v : Pair) (xs : List Pair) → Contains (x ∷ xs) v → (x ≡ v) ⊎ Contains xs v
contains-cases x v xs (zero, short, is) = inl is
contains-cases x v xs (suc k, short, is) = inr (k, omega (arith, short), is)

contains-later : (x v : Pair) (xs : List Pair) → Contains xs v → Contains (x ∷ xs) v
contains-later x v xs there = (suc there.0, omega (arith, there.1), there.2)

contains-here : (x v : Pair) (xs : List Pair) → x ≡ v → Contains (x ∷ xs) v
contains-here x v xs is = (0, omega arith, is)

inserted : (o : Ordering) (k x v : Pair) (xs rest : List Pair) → pair_cmp k x ≡ o → (Contains rest v ↔ (Contains xs v ⊎ (k ≡ v))) →
    Contains (match_ordering o (k ∷ x ∷ xs) (x ∷ xs) (x ∷ rest)) v ↔ (Contains (x ∷ xs) v ⊎ (k ≡ v))
inserted Less k x v xs rest is later = (
  (λ there. elim (contains-cases k v (x ∷ xs) there) [ inl h ↦ inr h | inr h ↦ inl h ]),
  λ either. elim either [ inl h ↦ contains-later k v (x ∷ xs) h | inr h ↦ contains-here k v (x ∷ xs) h ],
)
inserted Equal k x v xs rest is later = (
  (λ there. inl there),
  λ either. elim either [ inl h ↦ h | inr h ↦ contains-here x v xs (sym (ranks k x Equal is) ∙ h) ],
)
inserted Greater k x v xs rest is later = (
  (λ there. elim (contains-cases x v rest there) [
    | inl h ↦ inl (contains-here x v xs h)
    | inr h ↦ elim (later.0 h) [ inl g ↦ inl (contains-later x v xs g) | inr g ↦ inr g ]
  ]),
  λ either. elim either [
    | inl h ↦ elim (contains-cases x v xs h) [ inl g ↦ contains-here x v rest g | inr g ↦ contains-later x v rest (later.1 (inl g)) ]
    | inr h ↦ contains-later x v rest (later.1 (inr h))
  ],
)

pub adds-pair : (keys : List Pair) (k : Pair) → Adds keys (insert_key pair_cmp keys k) (λ pair. k ≡ pair)
adds-pair [] k v = (
  (λ there. elim (contains-cases k v [] there) [ inl h ↦ inr h | inr h ↦ inl h ]),
  λ either. elim either [ inl h ↦ absurd (omega (arith, h.1)) | inr h ↦ contains-here k v [] h ],
)
adds-pair (x ∷ keys) k v = inserted (pair_cmp k x) k x v keys (insert_key pair_cmp keys k) refl (adds-pair keys k v)

-- ---- the list of a set

pub pushed : (list : List Broken) (b : Broken) (rest keys : List Pair) → map pair_of list ++ pair_of b ∷ rest ≡ keys
    → map pair_of (list ++ b ∷ []) ++ rest ≡ keys
pushed list b rest keys is = ap (λ (l : List Pair). l ++ rest) (map-append pair_of list (b ∷ [])) ∙ append_assoc (map pair_of list) (pair_of b ∷ []) rest ∙ is

pub in-order : (list : List Broken) (keys : List Pair) → map pair_of list ≡ keys → IsStrictlySortedBy pair_cmp keys → AllPairs StandsBefore list
in-order list keys is sorted i j d less short =
    let all : length keys ≡ length list = ap length (sym is) ∙ length-map list pair_of in
    let at : (k : ℕ) → k < length list → get_or keys k (pair_of d) ≡ pair_of (get_or list k d) =
    λ k within. ap (λ (l : List Pair). get_or l k (pair_of d)) (sym is) ∙ get_or-map pair_of list k d (pair_of d) within in
    let below = ranks (get_or keys i (pair_of d)) (get_or keys j (pair_of d)) Less
    (Less-from_sorted pair_cmp keys i j (pair_of d) sorted less (omega (arith, all, short))) in
    subst (λ (p : Pair). (p.0 < (get_or list j d).cluster) ⊎ ((p.0 ≡ (get_or list j d).cluster) × (p.1 < (get_or list j d).package_)))
    (at i (omega (arith, less, short)))
    (subst (λ (q : Pair). ((get_or keys i (pair_of d)).0 < q.0) ⊎ (((get_or keys i (pair_of d)).0 ≡ q.0) × ((get_or keys i (pair_of d)).1 < q.1)))
    (at j short) below)

abbrev from-pair : Pair → Broken
from-pair pair = record { package_ = pair.1; cluster = pair.0 }

pub listed-pairs : (list : List Broken) (b : Broken) → Contains list b ↔ Contains (map pair_of list) (pair_of b)
listed-pairs [] b = ((λ there. absurd (omega (arith, there.1))), λ there. absurd (omega (arith, there.1)))
listed-pairs (x ∷ list) b =
    let more = listed-pairs list b in (
      (λ there. elim (broken-cases x b list there) [
        | inl is ↦ contains-here (pair_of x) (pair_of b) (map pair_of list) (ap pair_of is)
        | inr later ↦ contains-later (pair_of x) (pair_of b) (map pair_of list) (more.0 later)
      ]),
      λ there. elim (contains-cases (pair_of x) (pair_of b) (map pair_of list) there) [
        | inl is ↦ (0, omega arith, ap from-pair is)
        | inr later ↦ let l = more.1 later in (suc l.0, omega (arith, l.1), l.2)
      ],
    )
  where
    broken-cases : (y v : Broken) (xs : List Broken) → Contains (y ∷ xs) v → (y ≡ v) ⊎ Contains xs v
    broken-cases y v xs (zero, short, is) = inl is
    broken-cases y v xs (suc k, short, is) = inr (k, omega (arith, short), is)

pub all-listed : (list : List Broken) (rest keys : List Pair) → map pair_of list ++ rest ≡ keys → rest ≡ [] → map pair_of list ≡ keys
all-listed list rest keys is end = sym (ap (λ (l : List Pair). map pair_of list ++ l) end ∙ append-nil (map pair_of list)) ∙ is
