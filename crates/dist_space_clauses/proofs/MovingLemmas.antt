-- What is noted of packages that may match by new versions: at one name, at those of some entries, and of all of a repository.
use Rattle.std.proofs.Common.{◌≡◌, ◌≢◌, ◌⊎◌, ℕ, ◌+◌, ◌<◌, ◌≤◌, Bool, true, false, cond, List, [], ◌∷◌, ◌++◌, length, take, Option, Some, refl, sym, ap, subst}
use Rattle.std.proofs.Common.{◌∙◌, inl, inr, arith, nat_cmp, slice_get, unwrap_or}
use Rattle.std.specs.Prelude.{◌↔◌, Any, Contains}
use Rattle.std.specs.BTreeMap.{is_at}
use Rattle.std.specs.Cmp.Lexicographic.{slice_cmp}
use Rattle.std.specs.Map.{lookup}
use Rattle.std.proofs.lemmas.Bool.{cases_lt, false≢true}
use Rattle.std.proofs.lemmas.List.Elements.{Contains-append_left, Contains-push, Contains-push_cases}
use Rattle.std.proofs.lemmas.Map.Text.{is_eq-slice_cmp}
use Rattle.std.proofs.lemmas.Slice.Eq.{bytes_eq-Decides}
use Rattle.dist_base.specs.ListLaws.{at-has, has-at, within-from}
use Rattle.dist_relation.specs.declared.atom.Provide.{Provide}
use Rattle.dist_repo.specs.PackageList.{PackageList, IsPackageAnd}
use Rattle.dist_repo.specs.declared.package.Package.{Package}
use Rattle.dist_space_clauses.specs.Moving.{AreMovers, Entries, GoesAlong, IsMover, IsWith, Notes, numbers_at}
use Rattle.dist_space_clauses.proofs.Gathered.{any-first, any-none, any-take, any-take-back, any-whole}

-- ---- one number beside one name

abbrev At : List ℕ → List ℕ → Bool
At = λ name. is_at (slice_cmp nat_cmp name)

at-same : (name q : List ℕ) → At name q ≡ true → name ≡ q
at-same name q is = (bytes_eq-Decides name q).0 (sym (is_eq-slice_cmp name q) ∙ is)

at-other : (name q : List ℕ) → At name q ≡ false → name ≢ q
at-other name q is same = false≢true (sym is ∙ is_eq-slice_cmp name q ∙ (bytes_eq-Decides name q).1 same)

pub with-pushed : (list new : List ℕ) (v : ℕ) → new ≡ list ++ v ∷ [] → IsWith list v new
with-pushed list new v is x =
    let In : List ℕ → Type 0 = λ xs. Contains xs x in (
      (λ there. Contains-push_cases list v x (subst In is there)),
      λ either. subst In (sym is) (elim either [
        | inl h ↦ Contains-append_left list (v ∷ []) x h
        | inr h ↦ let P : ℕ → Type 0 = λ y. Contains (list ++ v ∷ []) y in subst P h (Contains-push list v)
      ]),
    )

noted-case : (b : Bool) (t n : Entries) (name q : List ℕ) (v : ℕ) (w : List ℕ) → At name q ≡ b →
    lookup (At q) n ≡ cond b (Some w) (lookup (At q) t) → IsWith (numbers_at t name) v w →
    (x : ℕ) → Contains (numbers_at n q) x ↔ (Contains (numbers_at t q) x ⊎ ((name ≡ q) × (v ≡ x)))
noted-case true t n name q v w is found adds x =
    let here : name ≡ q = at-same name q is in
    let now : numbers_at n q ≡ w = ap (λ (o : Option (List ℕ)). unwrap_or o []) found in
    let before : numbers_at t name ≡ numbers_at t q = ap (numbers_at t) here in
    let In : List ℕ → Type 0 = λ xs. Contains xs x in
    let iff = adds x in (
      (λ there. elim (iff.0 (subst In now there)) [
        | inl h ↦ inl (subst In before h)
        | inr h ↦ inr (here, h)
      ]),
      λ either. subst In (sym now) (iff.1 (elim either [
        | inl h ↦ inl (subst In (sym before) h)
        | inr h ↦ inr h.1
      ])),
    )
noted-case false t n name q v w is found adds x =
    let same : numbers_at n q ≡ numbers_at t q = ap (λ (o : Option (List ℕ)). unwrap_or o []) found in
    let In : List ℕ → Type 0 = λ xs. Contains xs x in (
      (λ there. inl (subst In same there)),
      λ either. elim either [
        | inl h ↦ subst In (sym same) h
        | inr h ↦ absurd (at-other name q is h.0)
      ],
    )

-- what the map has beside each name, after the numbers of one name were written
pub noted-updated : (t n : Entries) (name : List ℕ) (v : ℕ) (w : List ℕ) →
    ((q : List ℕ) → lookup (is_at (slice_cmp nat_cmp q)) n ≡ cond (is_at (slice_cmp nat_cmp name) q) (Some w) (lookup (is_at (slice_cmp nat_cmp q)) t)) →
    IsWith (numbers_at t name) v w → Notes t n (λ q x. (name ≡ q) × (v ≡ x))
noted-updated t n name v w updates adds q x = noted-case (At name q) t n name q v w refl (updates q) adds x

-- ---- several

pub notes-nothing : (a : Entries) (P : List ℕ → ℕ → Type 0) → ((q : List ℕ) (n : ℕ) → ¬ P q n) → Notes a a P
notes-nothing a P none q n = (
  (λ there. inl there),
  λ either. elim either [
    | inl h ↦ h
    | inr h ↦ absurd (none q n h)
  ],
)

pub notes-same : (a b : Entries) (P Q : List ℕ → ℕ → Type 0) → ((q : List ℕ) (n : ℕ) → P q n → Q q n) → ((q : List ℕ) (n : ℕ) → Q q n → P q n)
    → Notes a b P → Notes a b Q
notes-same a b P Q to from notes q n = (
  (λ there. elim ((notes q n).0 there) [
    | inl h ↦ inl h
    | inr h ↦ inr (to q n h)
  ]),
  λ either. (notes q n).1 (elim either [
    | inl h ↦ inl h
    | inr h ↦ inr (from q n h)
  ]),
)

pub notes-both : (a b c : Entries) (P Q : List ℕ → ℕ → Type 0) → Notes a b P → Notes b c Q → Notes a c (λ q n. P q n ⊎ Q q n)
notes-both a b c P Q first second q n = (
  (λ there. elim ((second q n).0 there) [
    | inl earlier ↦ elim ((first q n).0 earlier) [
      | inl h ↦ inl h
      | inr h ↦ inr (inl h)
    ]
    | inr h ↦ inr (inr h)
  ]),
  λ either. (second q n).1 (elim either [
    | inl h ↦ inl ((first q n).1 (inl h))
    | inr h ↦ elim h [
      | inl p ↦ inl ((first q n).1 (inr p))
      | inr p ↦ inr p
    ]
  ]),
)

-- an entry goes with its package, and has the name
abbrev pub IsAlong : Package → List ℕ → Provide → Type 0
IsAlong p q entry = GoesAlong p entry × (entry.name ≡ q)

-- one of the first entries does
abbrev pub IsOfFirst : Package → (count number : ℕ) → List ℕ → ℕ → Type 0
IsOfFirst p count number q n = Any (IsAlong p q) (take count p.provides) × (number ≡ n)

pub notes-start : (a : Entries) (p : Package) (number : ℕ) → Notes a a (IsOfFirst p 0 number)
notes-start a p number = notes-nothing a (IsOfFirst p 0 number) (λ q n both. any-none (IsAlong p q) p.provides both.0)

pub notes-more : (a b c : Entries) (p : Package) (k number : ℕ) (entry : Provide) → slice_get p.provides k ≡ Some entry → Notes a b (IsOfFirst p k number)
    → Notes b c (λ q n. IsAlong p q entry × (number ≡ n)) → Notes a c (IsOfFirst p (k + 1) number)
notes-more a b c p k number entry is first second =
    notes-same a c (λ q n. IsOfFirst p k number q n ⊎ (IsAlong p q entry × (number ≡ n))) (IsOfFirst p (k + 1) number)
    (λ q n either. elim either [
      | inl h ↦ (any-take-back (IsAlong p q) p.provides k entry is (inl h.0), h.1)
      | inr h ↦ (any-take-back (IsAlong p q) p.provides k entry is (inr h.0), h.1)
    ])
    (λ q n h. elim (any-take (IsAlong p q) p.provides k entry is h.0) [
      | inl g ↦ inl (g, h.1)
      | inr g ↦ inr (g, h.1)
    ])
    (notes-both a b c (IsOfFirst p k number) (λ q n. IsAlong p q entry × (number ≡ n)) first second)

pub notes-end : (a b : Entries) (p : Package) (k number : ℕ) → length p.provides ≤ k → Notes a b (IsOfFirst p k number)
    → Notes a b (λ q n. Any (IsAlong p q) p.provides × (number ≡ n))
notes-end a b p k number past notes =
    notes-same a b (IsOfFirst p k number) (λ q n. Any (IsAlong p q) p.provides × (number ≡ n))
    (λ q n h. (any-first (IsAlong p q) p.provides k h.0, h.1)) (λ q n h. (any-whole (IsAlong p q) p.provides k past h.0, h.1)) notes

-- the name of the package, and those of its entries
pub package-noted : (a b c : Entries) (p : Package) (number : ℕ) → Notes a b (λ q n. (p.name ≡ q) × (number ≡ n))
    → Notes b c (λ q n. Any (IsAlong p q) p.provides × (number ≡ n)) → Notes a c (λ q n. IsMover q p × (number ≡ n))
package-noted a b c p number first second =
    notes-same a c (λ q n. ((p.name ≡ q) × (number ≡ n)) ⊎ (Any (IsAlong p q) p.provides × (number ≡ n))) (λ q n. IsMover q p × (number ≡ n))
    (λ q n either. elim either [
      | inl h ↦ (inl h.0, h.1)
      | inr h ↦ (inr h.0, h.1)
    ])
    (λ q n h. elim h.0 [
      | inl g ↦ inl (g, h.1)
      | inr g ↦ inr (g, h.1)
    ])
    (notes-both a b c (λ q n. (p.name ≡ q) × (number ≡ n)) (λ q n. Any (IsAlong p q) p.provides × (number ≡ n)) first second)

-- ---- all of a repository

-- those of the first packages
abbrev pub AreUpTo : PackageList → ℕ → Entries → Type 0
AreUpTo r count entries = (name : List ℕ) (number : ℕ) → Contains (numbers_at entries name) number
    ↔ ((number < count) × IsPackageAnd r.packages number (IsMover name))

pub none-noted : (r : PackageList) → AreUpTo r 0 []
none-noted r name number = ((λ there. absurd (omega (arith, there.1))), λ both. absurd (omega (arith, both.0)))

pub package-more : (r : PackageList) (count : ℕ) (p : Package) (a b : Entries) → slice_get r.packages count ≡ Some p → AreUpTo r count a
    → Notes a b (λ q n. IsMover q p × (count ≡ n)) → AreUpTo r (count + 1) b
package-more r count p a b is before notes name number = (
  (λ there. elim ((notes name number).0 there) [
    | inl h ↦ let both = (before name number).0 h in (omega (arith, both.0), both.1)
    | inr h ↦ (
      omega (arith, h.1),
      subst (λ (n : ℕ). IsPackageAnd r.packages n (IsMover name)) h.1 (at-has (IsMover name) r.packages count p is h.0),
    )
  ]),
  λ both. (notes name number).1 (elim (cases_lt number count) [
    | inl less ↦ inl ((before name number).1 (less, both.1))
    | inr most ↦ let same : number ≡ count = omega (arith, most, both.0) in
        inr (has-at (IsMover name) r.packages count p is (subst (λ (n : ℕ). IsPackageAnd r.packages n (IsMover name)) same both.1), sym same)
  ]),
)

pub all-noted : (r : PackageList) (count : ℕ) (entries : Entries) → length r.packages ≤ count → AreUpTo r count entries → AreMovers r entries
all-noted r count entries past are name number = (
  (λ there. ((are name number).0 there).1),
  λ mover. (are name number).1 (omega (arith, past, within-from (IsMover name) r.packages number mover), mover),
)
