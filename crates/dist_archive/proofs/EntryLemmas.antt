-- Packages in an ordered map by their names.
use Rattle.std.proofs.Common.{◌≡◌, ◌≢◌, ◌⊎◌, ◌↔◌, ℕ, Bool, true, false, List, [], ◌∷◌, Option, Some, None, get_or}
use Rattle.std.proofs.Common.{map, cond, refl, sym, ap, subst, ◌∙◌, inl, inr, arith, slice_get, nat_cmp, Ordering, Less, Equal, Greater}
use Rattle.std.specs.Prelude.{All, Any, Contains, IsTrue, is_some}
use Rattle.std.specs.BTreeMap.{insert_entry, is_at}
use Rattle.std.specs.Cmp.Lexicographic.{slice_cmp}
use Rattle.std.specs.List.Sorted.{IsStrictlySortedBy}
use Rattle.std.specs.Map.{keys_of, lookup, remove_entry}
use Rattle.std.specs.Option.{option_map}
use Rattle.std.specs.Ordering.{is_eq, match_ordering}
use Rattle.std.proofs.lemmas.Bool.{false≢true}
use Rattle.std.proofs.lemmas.Cmp.{nat_list_cmp_total, tied_itself}
use Rattle.std.proofs.lemmas.List.{length-map}
use Rattle.std.proofs.lemmas.List.Elements.{All-contains, All-from_recursion}
use Rattle.std.proofs.lemmas.Map.{none_passes_from_lookup}
use Rattle.std.proofs.lemmas.Map.Entries.{length-keys_of, place_from_lookup}
use Rattle.std.proofs.lemmas.Map.Keys.{Less-from_sorted}
use Rattle.std.proofs.lemmas.Map.Lookups.{exact_bytes}
use Rattle.std.proofs.lemmas.Option.{get_or_from_slice_get, slice_get-map, slice_get_within}
use Rattle.dist_base.specs.ListLaws.{all-contained, any-cases, any-contained, any-head, any-later, contains-at, element-at, found-at, place-of}
use Rattle.dist_repo.specs.Order.{IsFlat}
use Rattle.dist_repo.specs.declared.package.Package.{Package}
use Rattle.dist_archive.specs.Archive.{IsHeldAs}
use Rattle.dist_archive.specs.Steps.{HasExactly, IsHeld}
use Rattle.dist_archive.proofs.FutureLemmas.{one-named}

-- ---- lists in general

-- what is in a list that was made element by element
pub from-map : {X Y : Type 0} (f : X → Y) (xs : List X) (y : Y) → Contains (map f xs) y → Any (λ x. f x ≡ y) xs
from-map {X} f xs y there =
    let at = place-of (map f xs) y there in
    let here = element-at xs at.place (omega (arith, slice_get_within (map f xs) at.place y at.is, length-map xs f)) in
    let is : Some (f here.element) ≡ Some y = sym (slice_get-map f xs at.place ∙ ap (option_map f) here.is) ∙ at.is in
    any-contained (λ (x : X). f x ≡ y) xs here.element (contains-at xs at.place here.element here.is) (let same : f here.element ≡ y = cc in same)

pub to-map : {X Y : Type 0} (f : X → Y) (xs : List X) (y : Y) → Any (λ x. f x ≡ y) xs → Contains (map f xs) y
to-map {X} f xs y any =
    let at = found-at (λ (x : X). f x ≡ y) xs any in
    contains-at (map f xs) at.place y (slice_get-map f xs at.place ∙ ap (option_map f) at.is ∙ ap (λ z. Some z) at.holds)

pub equal-from : (o : Ordering) → is_eq o ≡ true → o ≡ Equal
equal-from Less is = absurd (false≢true is)
equal-from Equal is = refl
equal-from Greater is = absurd (false≢true is)

module _ {K X : Type 0} where
  -- ---- one entry more, and one less

  pub insert-cases : (cmp : K → K → Ordering) (P : K × X → Type 0) (es : List (K × X)) (k : K) (v : X) → lookup (is_at (cmp k)) es ≡ None
      → Any P (insert_entry cmp es k v) ↔ (Any P es ⊎ P (k, v))
  insert-cases cmp P [] k v absent = (
    (λ any. elim (any-cases P (k, v) [] any) [
      | inl here ↦ inr here
      | inr later ↦ inl later
    ]),
    λ either. elim either [
      | inl none ↦ absurd (omega (arith, none.2))
      | inr here ↦ any-head P (k, v) [] here
    ],
  )
  insert-cases cmp P (e ∷ es) k v absent = by (λ rest. insert-cases cmp P es k v rest) (cmp k e.0) refl
    where
      by : (lookup (is_at (cmp k)) es ≡ None → Any P (insert_entry cmp es k v) ↔ (Any P es ⊎ P (k, v))) → (o : Ordering) → cmp k e.0 ≡ o
          → Any P (insert_entry cmp (e ∷ es) k v) ↔ (Any P (e ∷ es) ⊎ P (k, v))
      by tail Less is =
          let whole : insert_entry cmp (e ∷ es) k v ≡ (k, v) ∷ e ∷ es =
          ap (λ (o : Ordering). match_ordering o ((k, v) ∷ e ∷ es) ((e.0, v) ∷ es) (e ∷ insert_entry cmp es k v)) is in (
            (λ any. elim (any-cases P (k, v) (e ∷ es) (subst (λ (l : List (K × X)). Any P l) whole any)) [
              | inl here ↦ inr here
              | inr later ↦ inl later
            ]),
            λ either. subst (λ (l : List (K × X)). Any P l) (sym whole) (elim either [
              | inl later ↦ any-later P (k, v) (e ∷ es) later
              | inr here ↦ any-head P (k, v) (e ∷ es) here
            ]),
          )
      by tail Equal is = absurd (let found : ◌≡◌ {A = Option X} (Some e.1) None =
          sym (ap (λ (o : Ordering). cond (is_eq o) (Some e.1) (lookup (is_at (cmp k)) es)) is) ∙ absent in cc)
      by tail Greater is =
          let whole : insert_entry cmp (e ∷ es) k v ≡ e ∷ insert_entry cmp es k v =
          ap (λ (o : Ordering). match_ordering o ((k, v) ∷ e ∷ es) ((e.0, v) ∷ es) (e ∷ insert_entry cmp es k v)) is in
          let rest : lookup (is_at (cmp k)) es ≡ None = sym (ap (λ (o : Ordering). cond (is_eq o) (Some e.1) (lookup (is_at (cmp k)) es)) is) ∙ absent in
          let more = tail rest in (
            (λ any. elim (any-cases P e (insert_entry cmp es k v) (subst (λ (l : List (K × X)). Any P l) whole any)) [
              | inl here ↦ inl (any-head P e es here)
              | inr later ↦ elim (more.0 later) [
                | inl there ↦ inl (any-later P e es there)
                | inr new ↦ inr new
              ]
            ]),
            λ either. subst (λ (l : List (K × X)). Any P l) (sym whole) (elim either [
              | inl any ↦ elim (any-cases P e es any) [
                | inl here ↦ any-head P e (insert_entry cmp es k v) here
                | inr later ↦ any-later P e (insert_entry cmp es k v) (more.1 (inl later))
              ]
              | inr new ↦ any-later P e (insert_entry cmp es k v) (more.1 (inr new))
            ]),
          )

  pub remove-from : (test : K → Bool) (P : K × X → Type 0) (es : List (K × X)) → Any P (remove_entry test es) → Any P es
  remove-from test P [] any = any
  remove-from test P (e ∷ es) any = by (λ later. remove-from test P es later) (test e.0) refl
    where
      by : (Any P (remove_entry test es) → Any P es) → (b : Bool) → test e.0 ≡ b → Any P (e ∷ es)
      by tail true is = any-later P e es (subst (λ (l : List (K × X)). Any P l) (ap (λ (b : Bool). cond b es (e ∷ remove_entry test es)) is) any)
      by tail false is = elim (any-cases P e (remove_entry test es)
          (subst (λ (l : List (K × X)). Any P l) (ap (λ (b : Bool). cond b es (e ∷ remove_entry test es)) is) any)) [
            | inl here ↦ any-head P e es here
            | inr later ↦ any-later P e es (tail later)
          ]

  pub remove-to : (test : K → Bool) (P : K × X → Type 0) (es : List (K × X)) → ((e : K × X) → P e → test e.0 ≡ false) → Any P es
      → Any P (remove_entry test es)
  remove-to test P [] fails any = any
  remove-to test P (e ∷ es) fails any = by (λ later. remove-to test P es fails later) (test e.0) refl (any-cases P e es any)
    where
      whole : (b : Bool) → test e.0 ≡ b → remove_entry test (e ∷ es) ≡ cond b es (e ∷ remove_entry test es)
      whole b is = ap (λ (b : Bool). cond b es (e ∷ remove_entry test es)) is

      by : (Any P es → Any P (remove_entry test es)) → (b : Bool) → test e.0 ≡ b → P e ⊎ Any P es → Any P (remove_entry test (e ∷ es))
      by tail true is (inl here) = absurd (false≢true (sym (fails e here) ∙ is))
      by tail true is (inr later) = subst (λ (l : List (K × X)). Any P l) (sym (whole true is)) later
      by tail false is (inl here) = subst (λ (l : List (K × X)). Any P l) (sym (whole false is)) (any-head P e (remove_entry test es) here)
      by tail false is (inr later) =
          subst (λ (l : List (K × X)). Any P l) (sym (whole false is)) (any-later P e (remove_entry test es) (tail later))

  -- ---- packages beside the keys of their names

  module _ (name_of : K → List ℕ) (package_of : X → Package) where
    abbrev pub packages_in : List (K × X) → List Package
    packages_in es = map (λ e. package_of e.1) es

    abbrev pub AreNamed : List (K × X) → Type 0
    AreNamed es = All (λ e. (package_of e.1).name ≡ name_of e.0) es

    abbrev pub key_order : K → K → Ordering
    key_order a b = slice_cmp nat_cmp (name_of a) (name_of b)

    abbrev pub at_name : List ℕ → K → Ordering
    at_name name k = slice_cmp nat_cmp name (name_of k)

    named-at : (es : List (K × X)) (i : ℕ) (e : K × X) → AreNamed es → slice_get es i ≡ Some e → (package_of e.1).name ≡ name_of e.0
    named-at es i e named is = All-contains (λ (x : K × X). (package_of x.1).name ≡ name_of x.0) es e named (contains-at es i e is)

    pub entries-flat : (es : List (K × X)) → AreNamed es → IsStrictlySortedBy key_order (keys_of es) → IsFlat (packages_in es)
    entries-flat es named sorted i j d less short =
        let count = length-map es (λ (e : K × X). package_of e.1) in
        let a = element-at es i (omega (arith, less, short, count)) in
        let b = element-at es j (omega (arith, short, count)) in
        let keys = length-keys_of es in
        let below : key_order (get_or (keys_of es) i a.element.0) (get_or (keys_of es) j a.element.0) ≡ Less =
        Less-from_sorted key_order (keys_of es) i j a.element.0 sorted less (omega (arith, short, count, keys)) in
        let first : get_or (keys_of es) i a.element.0 ≡ a.element.0 = get_or_from_slice_get (keys_of es) i a.element.0 a.element.0
        (slice_get-map (λ (e : K × X). e.0) es i ∙ ap (option_map (λ (e : K × X). e.0)) a.is) in
        let second : get_or (keys_of es) j a.element.0 ≡ b.element.0 = get_or_from_slice_get (keys_of es) j b.element.0 a.element.0
        (slice_get-map (λ (e : K × X). e.0) es j ∙ ap (option_map (λ (e : K × X). e.0)) b.is) in
        let p : get_or (packages_in es) i d ≡ package_of a.element.1 = get_or_from_slice_get (packages_in es) i (package_of a.element.1) d
        (slice_get-map (λ (e : K × X). package_of e.1) es i ∙ ap (option_map (λ (e : K × X). package_of e.1)) a.is) in
        let q : get_or (packages_in es) j d ≡ package_of b.element.1 = get_or_from_slice_get (packages_in es) j (package_of b.element.1) d
        (slice_get-map (λ (e : K × X). package_of e.1) es j ∙ ap (option_map (λ (e : K × X). package_of e.1)) b.is) in
        λ same.
        let names : name_of a.element.0 ≡ name_of b.element.0 =
        sym (named-at es i a.element named a.is) ∙ ap (λ (x : Package). x.name) (sym p) ∙ same ∙ ap (λ (x : Package). x.name) q
        ∙ named-at es j b.element named b.is in
        let less_keys : key_order a.element.0 b.element.0 ≡ Less =
        subst (λ (k : K). key_order a.element.0 k ≡ Less) second (subst (λ (k : K). key_order k (get_or (keys_of es) j a.element.0) ≡ Less) first below) in
        let tied : slice_cmp nat_cmp (name_of a.element.0) (name_of b.element.0) ≡ Equal =
        subst (λ (x : List ℕ). slice_cmp nat_cmp (name_of a.element.0) x ≡ Equal) names (tied_itself nat_list_cmp_total (name_of a.element.0)) in
        let no : Less ≡ Equal = sym less_keys ∙ tied in cc

    pub entry-found : (es : List (K × X)) (name : List ℕ) (v : X) → AreNamed es → lookup (is_at (at_name name)) es ≡ Some v
        → IsHeldAs (packages_in es) name (package_of v)
    entry-found es name v named is =
        let at = place_from_lookup (is_at (at_name name)) es v is in
        let k : K = at.1 in
        let entry : slice_get es at.0 ≡ Some (k, v) = at.2 in
        let same : name ≡ name_of k = exact_bytes name (name_of k) (equal-from (at_name name k) at.3) in (
          contains-at (packages_in es) at.0 (package_of v)
              (slice_get-map (λ (e : K × X). package_of e.1) es at.0 ∙ ap (option_map (λ (e : K × X). package_of e.1)) entry),
          named-at es at.0 (k, v) named entry ∙ sym same,
        )

    -- where none is found, none is held
    none-at : (es : List (K × X)) (name : List ℕ) → lookup (is_at (at_name name)) es ≡ None → (e : K × X) → Contains es e → is_at (at_name name) e.0 ≡ false
    none-at es name is e there =
        All-contains (λ (x : K × X). is_at (at_name name) x.0 ≡ false) es e
        (All-from_recursion (λ (x : K × X). is_at (at_name name) x.0 ≡ false) es (none_passes_from_lookup (is_at (at_name name)) es is)) there

    at-itself : (name : List ℕ) (k : K) → name ≡ name_of k → is_at (at_name name) k ≡ true
    at-itself name k same =
        ap is_eq (subst (λ (x : List ℕ). slice_cmp nat_cmp name x ≡ Equal) same (tied_itself nat_list_cmp_total name))

    -- the entry of a package that is held
    entry-of : (es : List (K × X)) (p : Package) → AreNamed es → Contains (packages_in es) p
        → (e : K × X) × Contains es e × (package_of e.1 ≡ p) × (p.name ≡ name_of e.0)
    entry-of es p named there =
        let at = found-at (λ (e : K × X). package_of e.1 ≡ p) es (from-map (λ (e : K × X). package_of e.1) es p there) in (
          at.element,
          contains-at es at.place at.element at.is,
          at.holds,
          sym (ap (λ (x : Package). x.name) at.holds) ∙ named-at es at.place at.element named at.is,
        )

    pub none-held : (es : List (K × X)) (name : List ℕ) → AreNamed es → lookup (is_at (at_name name)) es ≡ None → ¬ IsHeld (packages_in es) name
    none-held es name named is held =
        let at = found-at (λ (n : Package). n.name ≡ name) (packages_in es) held in
        let e = entry-of es at.element named (contains-at (packages_in es) at.place at.element at.is) in
        false≢true (sym (none-at es name is e.0 e.1) ∙ at-itself name e.0.0 (sym at.holds ∙ e.3))

    pub absent-entry : (es : List (K × X)) (name : List ℕ) → AreNamed es → ¬ IsHeld (packages_in es) name → lookup (is_at (at_name name)) es ≡ None
    absent-entry es name named unheld = by (lookup (is_at (at_name name)) es) refl
      where
        by : (o : Option X) → lookup (is_at (at_name name)) es ≡ o → lookup (is_at (at_name name)) es ≡ None
        by None is = is
        by (Some v) is =
            let found = entry-found es name v named is in
            absurd (unheld (any-contained (λ (n : Package). n.name ≡ name) (packages_in es) (package_of v) found.0 found.1))

    -- the one package of a name
    pub only-found : (es : List (K × X)) (name : List ℕ) (v : X) → AreNamed es → IsFlat (packages_in es)
        → lookup (is_at (at_name name)) es ≡ Some v → (p : Package) → (Some (package_of v) ≡ Some p) ↔ IsHeldAs (packages_in es) name p
    only-found es name v named flat is p =
        let found = entry-found es name v named is in (
          (λ same. let here : package_of v ≡ p = cc in subst (λ (x : Package). IsHeldAs (packages_in es) name x) here found),
          λ held. ap (λ (x : Package). Some x) (one-named (packages_in es) (package_of v) p flat found.0 held.0 (found.1 ∙ sym held.1)),
        )

    pub none-found : (es : List (K × X)) (name : List ℕ) → AreNamed es → lookup (is_at (at_name name)) es ≡ None
        → (p : Package) → (None ≡ Some p) ↔ IsHeldAs (packages_in es) name p
    none-found es name named is p = (
      (λ same. absurd (let no-one : None ≡ Some p = same in cc)),
      λ held. absurd (none-held es name named is (any-contained (λ (n : Package). n.name ≡ name) (packages_in es) p held.0 held.1)),
    )

    pub inserted-named : (es : List (K × X)) (k : K) (v : X) → AreNamed es → (package_of v).name ≡ name_of k → lookup (is_at (key_order k)) es ≡ None
        → AreNamed (insert_entry key_order es k v)
    inserted-named es k v named name absent =
        all-contained (λ (e : K × X). (package_of e.1).name ≡ name_of e.0) (insert_entry key_order es k v)
        (λ e there. elim ((insert-cases key_order (λ (x : K × X). x ≡ e) es k v absent).0
        (any-contained (λ (x : K × X). x ≡ e) (insert_entry key_order es k v) e there refl)) [
          | inl any ↦
              let at = found-at (λ (x : K × X). x ≡ e) es any in
              named-at es at.place e named (at.is ∙ ap (λ (x : K × X). Some x) at.holds)
          | inr is ↦ subst (λ (x : K × X). (package_of x.1).name ≡ name_of x.0) is name
        ])

    pub inserted-exactly : (es : List (K × X)) (k : K) (v : X) → AreNamed es → (package_of v).name ≡ name_of k → lookup (is_at (key_order k)) es ≡ None
        → IsStrictlySortedBy key_order (keys_of (insert_entry key_order es k v))
        → HasExactly (packages_in (insert_entry key_order es k v)) (λ n. Contains (packages_in es) n ⊎ (package_of v ≡ n))
    inserted-exactly es k v named name absent sorted = record {
      one_of_a_name = entries-flat (insert_entry key_order es k v) (inserted-named es k v named name absent) sorted;
      exact = λ n.
          let both = insert-cases key_order (λ (e : K × X). package_of e.1 ≡ n) es k v absent in (
            (λ there. elim (both.0 (from-map (λ (e : K × X). package_of e.1) (insert_entry key_order es k v) n there)) [
              | inl any ↦ inl (to-map (λ (e : K × X). package_of e.1) es n any)
              | inr new ↦ inr new
            ]),
            λ either. to-map (λ (e : K × X). package_of e.1) (insert_entry key_order es k v) n (both.1 (elim either [
              | inl there ↦ inl (from-map (λ (e : K × X). package_of e.1) es n there)
              | inr new ↦ inr new
            ])),
          );
    }

    pub removed-named : (es : List (K × X)) (test : K → Bool) → AreNamed es → AreNamed (remove_entry test es)
    removed-named es test named =
        all-contained (λ (e : K × X). (package_of e.1).name ≡ name_of e.0) (remove_entry test es)
        (λ e there.
        let at = found-at (λ (x : K × X). x ≡ e) es (remove-from test (λ (x : K × X). x ≡ e) es
        (any-contained (λ (x : K × X). x ≡ e) (remove_entry test es) e there refl)) in
        named-at es at.place e named (at.is ∙ ap (λ (x : K × X). Some x) at.holds))

    fails-elsewhere : (name : List ℕ) (k : K) → name_of k ≢ name → is_at (at_name name) k ≡ false
    fails-elsewhere name k apart = by (is_at (at_name name) k) refl
      where
        by : (b : Bool) → is_at (at_name name) k ≡ b → is_at (at_name name) k ≡ false
        by false is = is
        by true is = absurd (apart (sym (exact_bytes name (name_of k) (equal-from (at_name name k) is))))

    pub removed-exactly : (es : List (K × X)) (name : List ℕ) → AreNamed es
        → lookup (is_at (at_name name)) (remove_entry (is_at (at_name name)) es) ≡ None
        → IsStrictlySortedBy key_order (keys_of (remove_entry (is_at (at_name name)) es))
        → HasExactly (packages_in (remove_entry (is_at (at_name name)) es)) (λ n. Contains (packages_in es) n × (n.name ≢ name))
    removed-exactly es name named gone sorted =
        let left = remove_entry (is_at (at_name name)) es in
        let still = removed-named es (is_at (at_name name)) named in record {
          one_of_a_name = entries-flat left still sorted;
          exact = λ n. (
            (λ there. (
              to-map (λ (e : K × X). package_of e.1) es n (remove-from (is_at (at_name name)) (λ (e : K × X). package_of e.1 ≡ n) es
                  (from-map (λ (e : K × X). package_of e.1) left n there)),
              λ same. none-held left name still gone (any-contained (λ (x : Package). x.name ≡ name) (packages_in left) n there same),
            )),
            λ held.
                let e = entry-of es n named held.0 in
                let Same : K × X → Type 0 = λ x. x ≡ e.0 in
                let stays = remove-to (is_at (at_name name)) Same es
                (λ x same. subst (λ (y : K × X). is_at (at_name name) y.0 ≡ false) (sym same) (fails-elsewhere name e.0.0 (λ is. held.1 (e.3 ∙ is))))
                (any-contained Same es e.0 e.1 refl) in
                let at = found-at Same left stays in
                to-map (λ (x : K × X). package_of x.1) left n (any-contained (λ (x : K × X). package_of x.1 ≡ n) left at.element
                (contains-at left at.place at.element at.is) (ap (λ (x : K × X). package_of x.1) at.holds ∙ e.2)),
          );
        }

    -- what a copy of a package leaves, where it is inserted under its name
    pub record IsInserted (es new : List (K × X)) (p : Package) : Type 0 where
      pub named : AreNamed new
      pub exactly : HasExactly (packages_in new) (λ n. Contains (packages_in es) n ⊎ (p ≡ n))

    pub absent-key : (es : List (K × X)) (k : K) (p : Package) → AreNamed es → name_of k ≡ p.name → ¬ IsHeld (packages_in es) p.name
        → lookup (is_at (key_order k)) es ≡ None
    absent-key es k p named name unheld = absent-entry es (name_of k) named (subst (λ (x : List ℕ). ¬ IsHeld (packages_in es) x) (sym name) unheld)

    pub inserted : (es new : List (K × X)) (k : K) (v : X) (p : Package) → AreNamed es → name_of k ≡ p.name → package_of v ≡ p
        → ¬ IsHeld (packages_in es) p.name → new ≡ insert_entry key_order es k v → IsStrictlySortedBy key_order (keys_of new) → IsInserted es new p
    inserted es new k v p named name is unheld made sorted =
        let absent = absent-key es k p named name unheld in
        let own : (package_of v).name ≡ name_of k = ap (λ (x : Package). x.name) is ∙ sym name in
        let rises : IsStrictlySortedBy key_order (keys_of (insert_entry key_order es k v)) =
        subst (λ (l : List (K × X)). IsStrictlySortedBy key_order (keys_of l)) made sorted in
        let Left : Package → Type 0 = λ q. HasExactly (packages_in (insert_entry key_order es k v)) (λ n. Contains (packages_in es) n ⊎ (q ≡ n)) in
        subst (λ (l : List (K × X)). IsInserted es l p) (sym made) (record {
          named = inserted-named es k v named own absent;
          exactly = subst Left is (inserted-exactly es k v named own absent rises);
        })

    -- what is left, where the package of a name is removed
    pub record IsRemoved (es new : List (K × X)) (name : List ℕ) : Type 0 where
      pub named : AreNamed new
      pub exactly : HasExactly (packages_in new) (λ n. Contains (packages_in es) n × (n.name ≢ name))

    pub removed : (es new : List (K × X)) (name : List ℕ) → AreNamed es → new ≡ remove_entry (is_at (at_name name)) es
        → lookup (is_at (at_name name)) new ≡ None → IsStrictlySortedBy key_order (keys_of new) → IsRemoved es new name
    removed es new name named made gone sorted =
        let none : lookup (is_at (at_name name)) (remove_entry (is_at (at_name name)) es) ≡ None =
        subst (λ (l : List (K × X)). lookup (is_at (at_name name)) l ≡ None) made gone in
        let rises : IsStrictlySortedBy key_order (keys_of (remove_entry (is_at (at_name name)) es)) =
        subst (λ (l : List (K × X)). IsStrictlySortedBy key_order (keys_of l)) made sorted in
        subst (λ (l : List (K × X)). IsRemoved es l name) (sym made) (record {
          named = removed-named es (is_at (at_name name)) named;
          exactly = removed-exactly es name named none rises;
        })

    pub held-where-found : (es : List (K × X)) (name : List ℕ) → AreNamed es
        → IsTrue (is_some (lookup (is_at (at_name name)) es)) ↔ IsHeld (packages_in es) name
    held-where-found es name named = by (lookup (is_at (at_name name)) es) refl
      where
        by : (o : Option X) → lookup (is_at (at_name name)) es ≡ o → IsTrue (is_some o) ↔ IsHeld (packages_in es) name
        by None is = ((λ no. absurd (false≢true no)), λ held. absurd (none-held es name named is held))
        by (Some v) is = (
          (λ yes.
              let found = entry-found es name v named is in
              any-contained (λ (n : Package). n.name ≡ name) (packages_in es) (package_of v) found.0 found.1),
          λ held. refl,
        )
