-- The meanings of a space, as they are made, are all of them in order.
use Rattle.std.proofs.Common.{◌≡◌, ℕ, zero, suc, ◌+◌, ◌<◌, Bool, true, false, List, [], ◌∷◌, ◌++◌, Option, Ordering, Less, nat_cmp, length, get_or, map, refl}
use Rattle.std.proofs.Common.{sym, ap, subst, zero-add, ◌∙◌, inl, inr, arith, slice_get}
use Rattle.std.specs.Prelude.{AllPairs, Contains, IsSomeAnd, slice_index, if◌then◌else◌}
use Rattle.std.specs.List.{flat_map}
use Rattle.std.specs.List.Sorted.{IsStrictlyIncreasing}
use Rattle.std.proofs.lemmas.Bool.{false≢true}
use Rattle.std.proofs.lemmas.List.Elements.{Contains-append_cases, Contains-append_left, Contains-append_right, Contains-get_or}
use Rattle.std.specs.Ordering.{MatchOrdering}
use Rattle.std.proofs.lemmas.Cmp.{ranked}
use Rattle.std.proofs.lemmas.List.FromFn.{get_or-range_with_len, length-range_with_len}
use Rattle.std.proofs.lemmas.Map.Keys.{Less-from_sorted, sorted_from_strictly_increasing}
use Rattle.std.proofs.lemmas.Option.{slice_get-get_or, slice_get_within}
use Rattle.dist_base.specs.ListLaws.{at-has, here-at}
use Rattle.dist_relation.specs.declared.atom.Provide.{Provide}
use Rattle.dist_repo.specs.Match.{IsUsable}
use Rattle.dist_repo.specs.declared.package.Package.{Package}
use Rattle.dist_space.specs.Usable.{is_usable}
use Rattle.dist_space.specs.NumberingPrivate.{below, class_part, cluster_part, fresh_part, meanings_of, member_part, provided_by, usable_from}
use Rattle.dist_space.specs.Space.{AreMeaningsOf, IsFrame, IsMeaning, SpaceView, StandsBefore, cluster_classes, fresh_classes, key_of, member_classes}
use Rattle.dist_space.specs.declared.meaning.Meaning.{Meaning}
use Rattle.dist_space.specs.declared.meaning.Meaning.TheVariants.{Now, Present, At, New, Kept, Fresh}
use Rattle.dist_space.specs.KeyLaws.{IsLess, less-cmp}
use Rattle.dist_space.specs.RisingLaws.{StandApart, below-in, contains-cons, contains-first, contains-later, flat-in, in-below, in-flat, in-map, map-in}
use Rattle.dist_space.specs.RisingLaws.{pairs-append, pairs-below, pairs-cons, pairs-flat, pairs-map, pairs-none}
use Rattle.dist_space.specs.ClusterLaws.{has-cluster, in-package, placed-in}
use Rattle.dist_space.specs.UsableLaws.{is-usable, usable-is}

-- ---- usable entries

-- the entry at a place is usable
abbrev pub IsUsableAt : Option (List ℕ) → List Provide → ℕ → Type 0
IsUsableAt architecture entries j = IsSomeAnd (slice_get entries j) (λ entry. IsUsable architecture entry.qualifier)

module _ (architecture : Option (List ℕ)) where
  abbrev Chosen : Bool → ℕ → List ℕ → List ℕ
  Chosen b place rest = if b then place ∷ rest else rest

  abbrev IsFrom : ℕ → List Provide → ℕ → Type 0
  IsFrom place entries k = (j : ℕ) × (k ≡ place + j) × IsUsableAt architecture entries j

  next-from : (place : ℕ) (entry : Provide) (entries : List Provide) (k : ℕ) → IsFrom (place + 1) entries k → IsFrom place (entry ∷ entries) k
  next-from place entry entries k from = (suc from.0, omega (arith, from.1), from.2)

  in-chosen : (b : Bool) (place : ℕ) (entry : Provide) (entries : List Provide) (rest : List ℕ) (k : ℕ) → is_usable architecture entry.qualifier ≡ b
      → (Contains rest k → IsFrom (place + 1) entries k) → Contains (Chosen b place rest) k
      → IsFrom place (entry ∷ entries) k
  in-chosen false place entry entries rest k is from there = next-from place entry entries k (from there)
  in-chosen true place entry entries rest k is from there = elim (contains-cons place k rest there) [
    | inl same ↦ (0, omega (arith, same), is-usable architecture entry.qualifier is)
    | inr later ↦ next-from place entry entries k (from later)
  ]

  pub usable-from : (place : ℕ) (entries : List Provide) (k : ℕ) → Contains (usable_from architecture place entries) k → IsFrom place entries k
  usable-from place [] k there = absurd (omega (arith, there.1))
  usable-from place (entry ∷ entries) k there = in-chosen (is_usable architecture entry.qualifier) place entry entries
      (usable_from architecture (place + 1) entries) k refl (usable-from (place + 1) entries k) there

  chosen-later : (b : Bool) (place k : ℕ) (rest : List ℕ) → Contains rest k → Contains (Chosen b place rest) k
  chosen-later true place k rest there = contains-later place k rest there
  chosen-later false place k rest there = there

  chosen-first : (b : Bool) (place : ℕ) (rest : List ℕ) → b ≡ true → Contains (Chosen b place rest) place
  chosen-first true place rest is = contains-first place rest
  chosen-first false place rest is = absurd (false≢true is)

  pub from-usable : (place : ℕ) (entries : List Provide) (j : ℕ) → IsUsableAt architecture entries j
      → Contains (usable_from architecture place entries) (place + j)
  from-usable place [] j here = absurd here
  from-usable place (entry ∷ entries) zero here =
      let there = chosen-first (is_usable architecture entry.qualifier) place (usable_from architecture (place + 1) entries)
      (usable-is architecture entry.qualifier here) in
      let same : place ≡ place + 0 = omega arith in subst (λ (k : ℕ). Contains (usable_from architecture place (entry ∷ entries)) k) same there
  from-usable place (entry ∷ entries) (suc j) here =
      let there = from-usable (place + 1) entries j here in
      let same : place + 1 + j ≡ place + suc j = omega arith in
      chosen-later (is_usable architecture entry.qualifier) place (place + suc j) (usable_from architecture (place + 1) entries)
      (subst (λ (k : ℕ). Contains (usable_from architecture (place + 1) entries) k) same there)

  rising-chosen : (b : Bool) (place : ℕ) (rest : List ℕ) → ((k : ℕ) → Contains rest k → place < k) → AllPairs (λ (x y : ℕ). x < y) rest
      → AllPairs (λ (x y : ℕ). x < y) (Chosen b place rest)
  rising-chosen true place rest above pairs = pairs-cons (λ (x y : ℕ). x < y) place rest above pairs
  rising-chosen false place rest above pairs = pairs

  pub usable-rises : (place : ℕ) (entries : List Provide) → AllPairs (λ (x y : ℕ). x < y) (usable_from architecture place entries)
  usable-rises place [] = pairs-none (λ (x y : ℕ). x < y)
  usable-rises place (entry ∷ entries) =
      rising-chosen (is_usable architecture entry.qualifier) place (usable_from architecture (place + 1) entries)
      (λ k there. let from = usable-from (place + 1) entries k there in omega (arith, from.1)) (usable-rises (place + 1) entries)

-- ---- the meanings of a frame

module _ (s : SpaceView) (frame : IsFrame s) where
  abbrev Before : Meaning → Meaning → Type 0
  Before a b = StandsBefore s a b

  by-key : (a b : Meaning) (x y : List ℕ) → key_of s a ≡ x → key_of s b ≡ y → IsLess x y → Before a b
  by-key a b x y is_x is_y less =
      less-cmp (key_of s a) (key_of s b) (subst (λ (z : List ℕ). IsLess z (key_of s b)) (sym is_x) (subst (λ (z : List ℕ). IsLess x z) (sym is_y) less))

  -- how the keys of parts begin
  record Begins (front : List ℕ) (m : Meaning) : Type 0 where
    rest : List ℕ
    is : key_of s m ≡ front ++ rest

  cluster-of-member : (c r : ℕ) → c < length s.clusters.members → Contains (get_or s.clusters.members c []) r → slice_index s.cluster_of r ≡ c
  cluster-of-member c r short there =
      placed-in s frame c r (at-has (λ (cluster : List ℕ). Contains cluster r) s.clusters.members c (get_or s.clusters.members c [])
      (slice_get-get_or s.clusters.members c [] short) there)

  entries_of : ℕ → List Provide
  entries_of r = provided_by (slice_get s.repository.packages r)

  -- of a member
  member-begins : (c k r : ℕ) (m : Meaning) → slice_index s.cluster_of r ≡ c → Contains (member_part s k r) m → Begins (2 ∷ c ∷ k ∷ r ∷ []) m
  member-begins c k r m is there = elim (contains-cons (New r k) m
      (map (λ j. Kept r k j) (usable_from s.repository.architecture 0 (provided_by (slice_get s.repository.packages r)))) there) [
        | inl same ↦ record { rest = []; is = ap (key_of s) (sym same) ∙ ap (λ (x : ℕ). 2 ∷ x ∷ k ∷ r ∷ []) is }
        | inr later ↦
            let from = in-map (λ j. Kept r k j) (usable_from s.repository.architecture 0 (provided_by (slice_get s.repository.packages r))) m later in
            record { rest = from.source ∷ []; is = ap (key_of s) (sym from.gives) ∙ ap (λ (x : ℕ). 2 ∷ x ∷ k ∷ r ∷ from.source ∷ []) is }
      ]

  member-rises : (k r : ℕ) → AllPairs Before (member_part s k r)
  member-rises k r =
      let places = usable_from s.repository.architecture 0 (provided_by (slice_get s.repository.packages r)) in
      let c = slice_index s.cluster_of r in
      pairs-cons Before (New r k) (map (λ j. Kept r k j) places)
      (λ m there. let from = in-map (λ j. Kept r k j) places m there in
      by-key (New r k) m (2 ∷ c ∷ k ∷ r ∷ []) (2 ∷ c ∷ k ∷ r ∷ from.source ∷ []) refl (ap (key_of s) (sym from.gives))
      (inr (refl, inr (refl, inr (refl, inr (refl, tt))))))
      (pairs-map Before (λ j. Kept r k j) places (kept-rises places
      (usable-rises s.repository.architecture 0 (provided_by (slice_get s.repository.packages r)))))
    where
      kept-rises : (places : List ℕ) → AllPairs (λ (x y : ℕ). x < y) places → AllPairs (λ (a b : ℕ). Before (Kept r k a) (Kept r k b)) places
      kept-rises places pairs i j d less short =
          by-key (Kept r k (get_or places i d)) (Kept r k (get_or places j d)) (2 ∷ slice_index s.cluster_of r ∷ k ∷ r ∷ get_or places i d ∷ [])
          (2 ∷ slice_index s.cluster_of r ∷ k ∷ r ∷ get_or places j d ∷ []) refl refl
          (inr (refl, inr (refl, inr (refl, inr (refl, inl (pairs i j d less short))))))

  -- of a class
  class-begins : (c k : ℕ) (m : Meaning) → c < length s.clusters.members → Contains (class_part s c k) m → Begins (2 ∷ c ∷ k ∷ []) m
  class-begins c k m short there = elim (contains-cons (At c k) m (flat_map (member_part s k) (get_or s.clusters.members c [])) there) [
    | inl same ↦ record { rest = []; is = ap (key_of s) (sym same) }
    | inr later ↦
        let from = in-flat (member_part s k) (get_or s.clusters.members c []) m later in
        let begins = member-begins c k from.source m (cluster-of-member c from.source short from.there) from.gives in
        record { rest = from.source ∷ begins.rest; is = begins.is }
  ]

  apart-by : (a b : Meaning) (front : List ℕ) (x y : ℕ) → Begins (front ++ x ∷ []) a → Begins (front ++ y ∷ []) b
      → ((rest other : List ℕ) → IsLess ((front ++ x ∷ []) ++ rest) ((front ++ y ∷ []) ++ other)) → Before a b
  apart-by a b front x y first second less = by-key a b ((front ++ x ∷ []) ++ first.rest) ((front ++ y ∷ []) ++ second.rest) first.is second.is
      (less first.rest second.rest)

  members-apart : (c k : ℕ) → c < length s.clusters.members → AllPairs (StandApart Before (member_part s k)) (get_or s.clusters.members c [])
  members-apart c k short i j d less inside p q here there =
      let members = get_or s.clusters.members c [] in
      let rising : IsStrictlyIncreasing members = frame.clusters.partition.rising c [] short in
      let order = Less-from_sorted nat_cmp members i j d (sorted_from_strictly_increasing members rising) less inside in
      let below_is : get_or members i d < get_or members j d = cmp-nat (get_or members i d) (get_or members j d) order in
      let first = member-begins c k (get_or members i d) p (cluster-of-member c (get_or members i d) short
      (Contains-get_or members i d (omega (arith, less, inside)))) here in
      let second = member-begins c k (get_or members j d) q (cluster-of-member c (get_or members j d) short (Contains-get_or members j d inside)) there in
      apart-by p q (2 ∷ c ∷ k ∷ []) (get_or members i d) (get_or members j d) first second (λ rest other. inr (refl, inr (refl, inr (refl, inl below_is))))
    where
      cmp-nat : (x y : ℕ) → nat_cmp x y ≡ Less → x < y
      cmp-nat x y is = subst (λ (o : Ordering). MatchOrdering o (x < y) (x ≡ y) (y < x)) is (ranked x y (nat_cmp x y) refl)

  class-rises : (c k : ℕ) → c < length s.clusters.members → AllPairs Before (class_part s c k)
  class-rises c k short =
      let members = get_or s.clusters.members c [] in
      pairs-cons Before (At c k) (flat_map (member_part s k) members)
      (λ m there. let from = in-flat (member_part s k) members m there in
      let begins = member-begins c k from.source m (cluster-of-member c from.source short from.there) from.gives in
      by-key (At c k) m (2 ∷ c ∷ k ∷ []) (2 ∷ c ∷ k ∷ from.source ∷ begins.rest) refl begins.is (inr (refl, inr (refl, inr (refl, tt)))))
      (pairs-flat Before (member_part s k) members (λ r there. member-rises k r) (members-apart c k short))

  -- of a cluster
  cluster-begins : (c : ℕ) (m : Meaning) → c < length s.clusters.members → Contains (cluster_part s c) m → Begins (2 ∷ c ∷ []) m
  cluster-begins c m short there =
      let from = in-flat (class_part s c) (below (length (cluster_classes s c))) m there in
      let begins = class-begins c from.source m short from.gives in
      record { rest = from.source ∷ begins.rest; is = begins.is }

  cluster-rises : (c : ℕ) → c < length s.clusters.members → AllPairs Before (cluster_part s c)
  cluster-rises c short =
      pairs-flat Before (class_part s c) (below (length (cluster_classes s c))) (λ k there. class-rises c k short)
      (pairs-below (StandApart Before (class_part s c)) (length (cluster_classes s c))
      (λ i j less p q here there. apart-by p q (2 ∷ c ∷ []) i j (class-begins c i p short here) (class-begins c j q short there)
      (λ rest other. inr (refl, inr (refl, inl less)))))

  -- of all clusters
  clusters-rise : AllPairs Before (flat_map (cluster_part s) (below (length s.clusters.members)))
  clusters-rise =
      pairs-flat Before (cluster_part s) (below (length s.clusters.members)) (λ c there. cluster-rises c (in-below (length s.clusters.members) c there))
      (λ i j d less inside p q here there.
      let n = length s.clusters.members in
      let short : j < n = omega (arith, inside, length-range_with_len 0 n) in
      let first = get_or-range_with_len 0 n i d (omega (arith, less, short)) ∙ zero-add i in
      let second = get_or-range_with_len 0 n j d short ∙ zero-add j in
      let p_in : Contains (cluster_part s i) p = subst (λ (x : ℕ). Contains (cluster_part s x) p) first here in
      let q_in : Contains (cluster_part s j) q = subst (λ (x : ℕ). Contains (cluster_part s x) q) second there in
      apart-by p q (2 ∷ []) i j (cluster-begins i p (omega (arith, less, short)) p_in) (cluster-begins j q short q_in) (λ rest other. inr (refl, inl less)))

  in-clusters : (m : Meaning) → Contains (flat_map (cluster_part s) (below (length s.clusters.members))) m → Begins (2 ∷ []) m
  in-clusters m there =
      let from = in-flat (cluster_part s) (below (length s.clusters.members)) m there in
      let begins = cluster-begins from.source m (in-below (length s.clusters.members) from.source from.there) from.gives in
      record { rest = from.source ∷ begins.rest; is = begins.is }

  -- of a new name
  fresh-begins : (x : ℕ) (m : Meaning) → Contains (fresh_part s x) m → Begins (3 ∷ x ∷ []) m
  fresh-begins x m there =
      let from = in-map (λ k. Fresh x k) (below (length (fresh_classes s x))) m there in
      record { rest = from.source ∷ []; is = ap (key_of s) (sym from.gives) }

  fresh-rises : (x : ℕ) → AllPairs Before (fresh_part s x)
  fresh-rises x =
      pairs-map Before (λ k. Fresh x k) (below (length (fresh_classes s x)))
      (pairs-below (λ i j. Before (Fresh x i) (Fresh x j)) (length (fresh_classes s x))
      (λ i j less. by-key (Fresh x i) (Fresh x j) (3 ∷ x ∷ i ∷ []) (3 ∷ x ∷ j ∷ []) refl refl (inr (refl, inr (refl, inl less)))))

  names-rise : AllPairs Before (flat_map (fresh_part s) (below (length s.names)))
  names-rise =
      pairs-flat Before (fresh_part s) (below (length s.names)) (λ x there. fresh-rises x)
      (pairs-below (StandApart Before (fresh_part s)) (length s.names)
      (λ i j less p q here there. apart-by p q (3 ∷ []) i j (fresh-begins i p here) (fresh-begins j q there) (λ rest other. inr (refl, inl less))))

  in-names : (m : Meaning) → Contains (flat_map (fresh_part s) (below (length s.names))) m → Begins (3 ∷ []) m
  in-names m there =
      let from = in-flat (fresh_part s) (below (length s.names)) m there in
      let begins = fresh-begins from.source m from.gives in
      record { rest = from.source ∷ begins.rest; is = begins.is }

  -- of the packages as they are
  abbrev Packages : List Meaning
  Packages = map (λ r. Present r) (below (length s.repository.packages))

  packages-begin : (m : Meaning) → Contains (map (λ r. Present r) (below (length s.repository.packages))) m → Begins (1 ∷ []) m
  packages-begin m there =
      let from = in-map (λ r. Present r) (below (length s.repository.packages)) m there in
      record { rest = from.source ∷ []; is = ap (key_of s) (sym from.gives) }

  packages-rise : AllPairs Before (map (λ r. Present r) (below (length s.repository.packages)))
  packages-rise =
      pairs-map Before (λ r. Present r) (below (length s.repository.packages))
      (pairs-below (λ i j. Before (Present i) (Present j)) (length s.repository.packages)
      (λ i j less. by-key (Present i) (Present j) (1 ∷ i ∷ []) (1 ∷ j ∷ []) refl refl (inr (refl, inl less))))

  starts-before : (a b : Meaning) (x y : ℕ) → x < y → Begins (x ∷ []) a → Begins (y ∷ []) b → Before a b
  starts-before a b x y less first second = by-key a b (x ∷ first.rest) (y ∷ second.rest) first.is second.is (inl less)

  meanings-rise : AllPairs Before (meanings_of s)
  meanings-rise =
      let clusters = flat_map (cluster_part s) (below (length s.clusters.members)) in
      let names = flat_map (fresh_part s) (below (length s.names)) in
      let packages = map (λ r. Present r) (below (length s.repository.packages)) in
      let later : (a : Meaning) → Contains (clusters ++ names) a → (x : ℕ) → x < 2 → (b : Meaning) → Begins (x ∷ []) b → Before b a =
      λ a there x less b begins. elim (Contains-append_cases clusters names a there) [
        | inl here ↦ starts-before b a x 2 less begins (in-clusters a here)
        | inr here ↦ starts-before b a x 3 (omega (arith, less)) begins (in-names a here)
      ] in
      let now : Begins (0 ∷ []) Now = record { rest = []; is = refl } in
      pairs-cons Before Now (packages ++ (clusters ++ names))
      (λ m there. elim (Contains-append_cases packages (clusters ++ names) m there) [
        | inl here ↦ starts-before Now m 0 1 (omega arith) now (packages-begin m here)
        | inr here ↦ later m here 0 (omega arith) Now now
      ])
      (pairs-append Before packages (clusters ++ names) packages-rise
      (pairs-append Before clusters names clusters-rise names-rise
      (λ a b here there. starts-before a b 2 3 (omega arith) (in-clusters a here) (in-names b there)))
      (λ a b here there. later b there 1 (omega arith) a (packages-begin a here)))

  -- ---- exactly these

  member-is : (c k r : ℕ) (m : Meaning) → c < length s.clusters.members → k < length (cluster_classes s c) → Contains (get_or s.clusters.members c []) r
      → Contains (member_part s k r) m → IsMeaning s m
  member-is c k r m short inside member there =
      let is = cluster-of-member c r short member in
      let here : k < length (member_classes s r) = subst (λ (x : ℕ). k < length (cluster_classes s x)) (sym is) inside in
      let p = in-package s frame c r short member in
      let within = slice_get_within s.repository.packages r p.package_is p.is in
      let entries = usable_from s.repository.architecture 0 (provided_by (slice_get s.repository.packages r)) in
      elim (contains-cons (New r k) m (map (λ j. Kept r k j) entries) there) [
        | inl same ↦ subst (IsMeaning s) same (within, here)
        | inr later ↦
            let from = in-map (λ j. Kept r k j) (usable_from s.repository.architecture 0 (provided_by (slice_get s.repository.packages r))) m later in
            let usable = usable-from s.repository.architecture 0 (provided_by (slice_get s.repository.packages r)) from.source from.there in
            let place : usable.0 ≡ from.source = omega (arith, usable.1) in
            let At : List Provide → Type 0 = λ entries. IsUsableAt s.repository.architecture entries from.source in
            let at : IsUsableAt s.repository.architecture (provided_by (slice_get s.repository.packages r)) from.source =
            subst (λ (x : ℕ). IsUsableAt s.repository.architecture (provided_by (slice_get s.repository.packages r)) x) place usable.2 in
            let own : IsUsableAt s.repository.architecture p.package_is.provides from.source = subst At (ap provided_by p.is) at in
            subst (IsMeaning s) from.gives
            (at-has (λ (q : Package). IsUsableAt s.repository.architecture q.provides from.source) s.repository.packages r p.package_is p.is own, here)
      ]

  class-is : (c k : ℕ) (m : Meaning) → c < length s.clusters.members → k < length (cluster_classes s c) → Contains (class_part s c k) m → IsMeaning s m
  class-is c k m short inside there = elim (contains-cons (At c k) m (flat_map (member_part s k) (get_or s.clusters.members c [])) there) [
    | inl same ↦ subst (IsMeaning s) same inside
    | inr later ↦ let from = in-flat (member_part s k) (get_or s.clusters.members c []) m later in
        member-is c k from.source m short inside from.there from.gives
  ]

  is-meaning : (m : Meaning) → Contains (meanings_of s) m → IsMeaning s m
  is-meaning m there =
      let clusters = flat_map (cluster_part s) (below (length s.clusters.members)) in
      let names = flat_map (fresh_part s) (below (length s.names)) in
      let packages = map (λ r. Present r) (below (length s.repository.packages)) in
      elim (contains-cons Now m (packages ++ (clusters ++ names)) there) [
        | inl same ↦ subst (IsMeaning s) same tt
        | inr rest ↦ elim (Contains-append_cases packages (clusters ++ names) m rest) [
          | inl here ↦
              let from = in-map (λ r. Present r) (below (length s.repository.packages)) m here in
              subst (IsMeaning s) from.gives (in-below (length s.repository.packages) from.source from.there)
          | inr more ↦ elim (Contains-append_cases clusters names m more) [
            | inl here ↦
                let from = in-flat (cluster_part s) (below (length s.clusters.members)) m here in
                let class = in-flat (class_part s from.source) (below (length (cluster_classes s from.source))) m from.gives in
                class-is from.source class.source m (in-below (length s.clusters.members) from.source from.there)
                (in-below (length (cluster_classes s from.source)) class.source class.there) class.gives
            | inr here ↦
                let from = in-flat (fresh_part s) (below (length s.names)) m here in
                let class = in-map (λ k. Fresh from.source k) (below (length (fresh_classes s from.source))) m from.gives in
                subst (IsMeaning s) class.gives (in-below (length (fresh_classes s from.source)) class.source class.there)
          ]
        ]
      ]

  -- a place in a list that is not empty
  within-lists : {X : Type 0} (xss : List (List X)) (c k : ℕ) → k < length (get_or xss c []) → c < length xss
  within-lists [] c k short = absurd (omega (arith, short))
  within-lists (xs ∷ xss) zero k short = omega arith
  within-lists (xs ∷ xss) (suc c) k short = omega (arith, within-lists xss c k short)

  in-packages : (m : Meaning) → Contains (map (λ r. Present r) (below (length s.repository.packages))) m → Contains (meanings_of s) m
  in-packages m there =
      let clusters = flat_map (cluster_part s) (below (length s.clusters.members)) in
      let names = flat_map (fresh_part s) (below (length s.names)) in
      let packages = map (λ r. Present r) (below (length s.repository.packages)) in
      contains-later Now m (packages ++ (clusters ++ names)) (Contains-append_left packages (clusters ++ names) m there)

  in-class : (c k : ℕ) (m : Meaning) → k < length (cluster_classes s c) → Contains (class_part s c k) m → Contains (meanings_of s) m
  in-class c k m inside there =
      let clusters = flat_map (cluster_part s) (below (length s.clusters.members)) in
      let names = flat_map (fresh_part s) (below (length s.names)) in
      let packages = map (λ r. Present r) (below (length s.repository.packages)) in
      let short : c < length s.clusters.members = omega (arith, within-lists s.classes c k inside, frame.classes_beside) in
      contains-later Now m (packages ++ (clusters ++ names)) (Contains-append_right packages (clusters ++ names) m (Contains-append_left clusters names m
      (flat-in (cluster_part s) (below (length s.clusters.members)) c m (below-in (length s.clusters.members) c short)
      (flat-in (class_part s c) (below (length (cluster_classes s c))) k m (below-in (length (cluster_classes s c)) k inside) there))))

  in-member : (r k : ℕ) (m : Meaning) → r < length s.repository.packages → k < length (member_classes s r) → Contains (member_part s k r) m
      → Contains (meanings_of s) m
  in-member r k m within inside there =
      let c = slice_index s.cluster_of r in
      let has = has-cluster s frame r within in
      in-class c k m inside (contains-later (At c k) m (flat_map (member_part s k) (get_or s.clusters.members c []))
      (flat-in (member_part s k) (get_or s.clusters.members c []) r m has.there there))

  meaning-in : (m : Meaning) → IsMeaning s m → Contains (meanings_of s) m
  meaning-in Now is = contains-first Now (map (λ r. Present r) (below (length s.repository.packages))
      ++ (flat_map (cluster_part s) (below (length s.clusters.members)) ++ flat_map (fresh_part s) (below (length s.names))))
  meaning-in (Present r) is = in-packages (Present r) (map-in (λ r. Present r) (below (length s.repository.packages)) r
      (below-in (length s.repository.packages) r is))
  meaning-in (At c k) is = in-class c k (At c k) is (contains-first (At c k) (flat_map (member_part s k) (get_or s.clusters.members c [])))
  meaning-in (New r k) is =
      in-member r k (New r k) is.0 is.1 (contains-first (New r k)
      (map (λ j. Kept r k j) (usable_from s.repository.architecture 0 (provided_by (slice_get s.repository.packages r)))))
  meaning-in (Kept r k j) is =
      let p = here-at (λ (q : Package). IsUsableAt s.repository.architecture q.provides j) s.repository.packages r is.0 in
      let places = usable_from s.repository.architecture 0 (provided_by (slice_get s.repository.packages r)) in
      let own : IsUsableAt s.repository.architecture (provided_by (slice_get s.repository.packages r)) j =
      subst (λ (entries : List Provide). IsUsableAt s.repository.architecture entries j) (sym (ap provided_by p.is)) p.holds in
      let there : Contains places j = subst (λ (x : ℕ). Contains places x) (zero-add j)
      (from-usable s.repository.architecture 0 (provided_by (slice_get s.repository.packages r)) j own) in
      in-member r k (Kept r k j) (slice_get_within s.repository.packages r p.element p.is) is.1
      (contains-later (New r k) (Kept r k j) (map (λ i. Kept r k i) places) (map-in (λ i. Kept r k i) places j there))
  meaning-in (Fresh x k) is =
      let clusters = flat_map (cluster_part s) (below (length s.clusters.members)) in
      let names = flat_map (fresh_part s) (below (length s.names)) in
      let packages = map (λ r. Present r) (below (length s.repository.packages)) in
      let short : x < length s.names = omega (arith, within-lists s.name_classes x k is, frame.name_classes_beside) in
      contains-later Now (Fresh x k) (packages ++ (clusters ++ names))
      (Contains-append_right packages (clusters ++ names) (Fresh x k) (Contains-append_right clusters names (Fresh x k)
      (flat-in (fresh_part s) (below (length s.names)) x (Fresh x k) (below-in (length s.names) x short)
      (map-in (λ i. Fresh x i) (below (length (fresh_classes s x))) k (below-in (length (fresh_classes s x)) k is)))))

  pub numbered : AreMeaningsOf s (λ m. Unit {0}) (meanings_of s)
  numbered = record { rising = meanings-rise; exact = λ m. (λ there. (is-meaning m there, tt), λ h. meaning-in m h.0) }
