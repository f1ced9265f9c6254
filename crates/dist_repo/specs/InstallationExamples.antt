-- Worked examples: a package that depends on another one, its installations and its strong dependency; and the newest
-- of two versions.
use Rattle.std.specs.Prelude.{◌≡◌, ◌≢◌, ℕ, zero, suc, ◌<◌, false, List, [], ◌∷◌, None, All, AllPairs, Any, Contains}
use Rattle.std.specs.Prelude.{length, slice_index_or, codes, refl}
use Rattle.std.proofs.Common.{inl, inr, lit<, sym, subst, ap, ◌∙◌, arith}
use Rattle.std.proofs.lemmas.List.Elements.{All-cons, All-contains}
use Rattle.std.proofs.lemmas.List.Kept.{AllPairs-cons}
use Rattle.std.specs.declared.cmp.Ordering.TheVariants.{Less, Equal, Greater}
use Rattle.dist_relation.specs.declared.atom.Atom.{Atom}
use Rattle.dist_relation.specs.declared.atom.Qualifier.TheVariants.{Plain}
use Rattle.dist_repo.specs.Conflict.{AreInConflict}
use Rattle.dist_repo.specs.Healthy.{IsMet}
use Rattle.dist_repo.specs.Match.{Matches, MatchesByEntry}
use Rattle.dist_version.specs.Order.{version_cmp, part_cmp, weights_of}
use Rattle.dist_version.specs.Spelling.{epoch_of, epoch_digits, after_epoch, upstream_of, revision_of}
use Rattle.dist_repo.specs.Order.{IsFlat, IsNewest}
use Rattle.dist_repo.specs.PackageList.{PackageList}
use Rattle.dist_repo.specs.Strong.{IsInstallation, StronglyDepends}
use Rattle.dist_repo.specs.declared.package.Package.{Package}

-- a package that depends on some items, and has no conflicts and no Provides
abbrev needs : List ℕ → List (List Atom) → Package
needs name items = record {
  name = name;
  version = codes "1";
  source = name;
  source_version = codes "1";
  depends = items;
  conflicts = [];
  provides = [];
  essential = false;
}

abbrev on_b : Atom
on_b = record { name = codes "b"; qualifier = Plain; bound = None }

-- a depends on b
abbrev a : Package
a = needs (codes "a") ((on_b ∷ []) ∷ [])

abbrev b : Package
b = needs (codes "b") []

abbrev archive : PackageList
archive = record { architecture = None; packages = a ∷ b ∷ [] }

all_of_none : {X : Type 0} (P : X → Type 0) → All P []
all_of_none P k d h = absurd (omega (arith, h))

pairs_of_none : {X : Type 0} (R : X → X → Type 0) → AllPairs R []
pairs_of_none R i j d first within = absurd (omega (arith, within))

none_in_nothing : {X : Type 0} (P : X → Type 0) → ¬ Any P []
none_in_nothing P h = omega (arith, h.2)

-- an element of one thing, and of two
of_one : {X : Type 0} (x y : X) → Contains (x ∷ []) y → x ≡ y
of_one x y h = at h.0 h.1 h.2
  where
    at : (k : ℕ) → k < length (x ∷ []) → slice_index_or (x ∷ []) k y ≡ y → x ≡ y
    at zero within e = e
    at (suc k) within e = absurd (omega (arith, within))

a_is_not_b : ¬ (◌≡◌ {A = List ℕ} (codes "a") (codes "b"))
a_is_not_b e = let codes_differ : ◌≡◌ {A = ℕ} 97 98 = ap (λ (s : List ℕ). slice_index_or s 0 0) e in
    omega (arith, codes_differ)

-- b alone meets the dependency
b-matches : Matches None on_b b
b-matches = record { usable = tt; matched = inl (record { name = refl; bound = tt }) }

a-matches_not : ¬ Matches None on_b a
a-matches_not matches = elim matches.matched [
  | inl named ↦ a_is_not_b named.name
  | inr entry ↦ none_in_nothing (MatchesByEntry None on_b) entry
]

never_in_conflict : (p q : Package) → p.conflicts ≡ [] → q.conflicts ≡ [] → ¬ AreInConflict None p q
never_in_conflict p q none_of_p none_of_q conflict = elim conflict.matched [
  | inl by_p ↦ none_in_nothing (λ atom. Matches None atom q)
      (subst (λ atoms. Any (λ atom. Matches None atom q) atoms) none_of_p by_p)
  | inr by_q ↦ none_in_nothing (λ atom. Matches None atom p)
      (subst (λ atoms. Any (λ atom. Matches None atom p) atoms) none_of_q by_q)
]

b_meets_it : IsMet None (a ∷ b ∷ []) (on_b ∷ [])
b_meets_it = (0, on_b, lit< tt, refl, (1, b, lit< tt, refl, b-matches))

-- Both together are healthy.
both_are_healthy : IsInstallation false archive (a ∷ b ∷ [])
both_are_healthy = record {
  chosen = of_both (Contains (a ∷ b ∷ [])) (0, lit< tt, refl) (1, lit< tt, refl);
  one_of_a_name = pair_of_both (λ p q. p.name ≢ q.name) a_is_not_b;
  met = of_both (λ p. All (IsMet None (a ∷ b ∷ [])) p.depends)
      (All-cons (IsMet None (a ∷ b ∷ [])) (on_b ∷ []) [] b_meets_it (all_of_none (IsMet None (a ∷ b ∷ []))))
      (all_of_none (IsMet None (a ∷ b ∷ [])));
  no_conflict = pair_of_both (λ p q. ¬ AreInConflict None p q) (never_in_conflict a b refl refl);
  has_required = all_of_none (λ name. Any (λ (p : Package). p.name ≡ name) (a ∷ b ∷ []));
}
  where
    of_both : (P : Package → Type 0) → P a → P b → All P (a ∷ b ∷ [])
    of_both P of_a of_b = All-cons P a (b ∷ []) of_a (All-cons P b [] of_b (all_of_none P))

    pair_of_both : (R : Package → Package → Type 0) → R a b → AllPairs R (a ∷ b ∷ [])
    pair_of_both R related = AllPairs-cons R a (b ∷ []) (All-cons (R a) b [] related (all_of_none (R a)))
        (AllPairs-cons R b [] (all_of_none (R b)) (pairs_of_none R))

-- a alone is not: nothing meets its dependency.
a_alone_is_not_healthy : ¬ IsInstallation false archive (a ∷ [])
a_alone_is_not_healthy healthy =
    let item : IsMet None (a ∷ []) (on_b ∷ []) = healthy.met 0 a (lit< tt) 0 [] (lit< tt) in
    let atom : on_b ≡ item.1 = of_one on_b item.1 (item.0, item.2, item.3) in
    let matched : Any (Matches None on_b) (a ∷ []) = subst (λ t. Any (Matches None t) (a ∷ [])) (sym atom) item.4 in
    let is : a ≡ matched.1 = of_one a matched.1 (matched.0, matched.2, matched.3) in
    a-matches_not (subst (Matches None on_b) (sym is) matched.4)

-- Every healthy installation that holds a holds b.
a_strongly_depends_on_b : StronglyDepends false archive a b
a_strongly_depends_on_b = record {
  installable = record { members = a ∷ b ∷ []; healthy = both_are_healthy; holds = (0, lit< tt, refl) };
  always = λ members healthy holds.
      let items = All-contains (λ p. All (IsMet None members) p.depends) members a healthy.met holds in
      let item : IsMet None members (on_b ∷ []) = items 0 [] (lit< tt) in
      let atom : on_b ≡ item.1 = of_one on_b item.1 (item.0, item.2, item.3) in
      let matched : Any (Matches None on_b) members = subst (λ t. Any (Matches None t) members) (sym atom) item.4 in
      let there : Contains members matched.1 = (matched.0, matched.2, matched.3) in
      let chosen = All-contains (Contains (a ∷ b ∷ [])) members matched.1 healthy.chosen there in
      subst (Contains members) (sym (is_b matched.1 matched.4 chosen.0 chosen.1 chosen.2)) there;
}
  where
    is_b : (q : Package) → Matches None on_b q → (k : ℕ) → k < length (a ∷ b ∷ []) → slice_index_or (a ∷ b ∷ []) k q ≡ q
        → b ≡ q
    is_b q matches zero within e = absurd (a-matches_not (subst (Matches None on_b) (sym e) matches))
    is_b q matches (suc k) within e = of_one b q (k, omega (arith, within), e)

-- There is one version of each name.
archive_is_flat : IsFlat archive.packages
archive_is_flat = both_are_healthy.one_of_a_name

-- Of two versions of a name the greater one is the newest: 1.10, and not 1.9.
abbrev version_of_b : List ℕ → Package
version_of_b version = record {
  name = codes "b";
  version = version;
  source = codes "b";
  source_version = version;
  depends = [];
  conflicts = [];
  provides = [];
  essential = false;
}

abbrev two_versions : List Package
two_versions = version_of_b (codes "1.10") ∷ version_of_b (codes "1.9") ∷ []

equal_to_itself : version_cmp (codes "1.10") (codes "1.10") ≡ Equal
unfolding version_cmp part_cmp weights_of epoch_of epoch_digits after_epoch upstream_of revision_of
equal_to_itself = refl

above_the_other : version_cmp (codes "1.10") (codes "1.9") ≡ Greater
unfolding version_cmp part_cmp weights_of epoch_of epoch_digits after_epoch upstream_of revision_of
above_the_other = refl

greater_is_newest : IsNewest two_versions (version_of_b (codes "1.10"))
greater_is_newest = record {
  there = (0, lit< tt, refl);
  newest = All-cons IsNotBelow (version_of_b (codes "1.10")) (version_of_b (codes "1.9") ∷ [])
      (λ _ less. let wrong : Equal ≡ Less = sym equal_to_itself ∙ less in cc)
      (All-cons IsNotBelow (version_of_b (codes "1.9")) []
      (λ _ less. let wrong : Greater ≡ Less = sym above_the_other ∙ less in cc)
      (all_of_none IsNotBelow));
}
  where
    IsNotBelow : Package → Type 0
    IsNotBelow q = q.name ≡ codes "b" → version_cmp (codes "1.10") q.version ≢ Less

lesser_is_not : ¬ IsNewest two_versions (version_of_b (codes "1.9"))
unfolding version_cmp part_cmp weights_of epoch_of epoch_digits after_epoch upstream_of revision_of
lesser_is_not newest = newest.newest 0 (version_of_b (codes "1.10")) (lit< tt) refl refl
