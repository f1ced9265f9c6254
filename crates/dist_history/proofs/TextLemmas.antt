-- Names and lines that are written one after another, and the member by which a cluster goes.
use Rattle.std.proofs.Common.{◌≡◌, ℕ, ◌+◌, ◌<◌, ◌≤◌, List, [], ◌∷◌, ◌++◌, append-nil, append_assoc, codes, length, get_or, take, Some}
use Rattle.std.proofs.Common.{arith, sym, ap, ◌∙◌, slice_get, subst}
use Rattle.std.specs.Prelude.{◌==◌, Bool, Contains, if◌then◌else◌}
use Rattle.std.specs.List.{flat_map, join_by}
use Rattle.std.proofs.lemmas.List.{flat_map_more, length-take-le, take_all, take_more}
use Rattle.std.proofs.lemmas.List.Elements.{All-contains}
use Rattle.std.proofs.lemmas.Option.{get_or_from_slice_get, slice_get_within}
use Rattle.std.proofs.Math.Dec.{eqb-suc-zero}
use Rattle.dist_base.specs.ListLaws.{contains-at, element-at}
use Rattle.dist_cluster.specs.Top.{ClusterList}
use Rattle.dist_repo.specs.declared.package.Package.{Package}
use Rattle.dist_space.specs.ClusterLaws.{in-package}
use Rattle.dist_space.specs.Space.{IsFrame, SpaceView}
use Rattle.dist_archive.specs.declared.step.Step.{Step}
use Rattle.dist_history.specs.PlanText.{names_text, plan_text, step_text}

-- the first items with one more
pub take-next : {X : Type 0} (xs : List X) (k : ℕ) (x : X) → slice_get xs k ≡ Some x → take (k + 1) xs ≡ take k xs ++ x ∷ []
take-next xs k x is =
    let here : get_or xs k x ≡ x = get_or_from_slice_get xs k x x is in
    take_more xs k x (slice_get_within xs k x is) ∙ ap (λ y. take k xs ++ y ∷ []) here

-- ---- names

-- what stands before an item: a separator, but before the first
abbrev pub gap : List ℕ → (before : ℕ) → List ℕ
gap sep before = if before == 0 then [] else sep

joined-next : {X : Type 0} (f : X → List ℕ) (sep : List ℕ) (xs : List X) (x : X)
    → join_by f sep (xs ++ x ∷ []) ≡ join_by f sep xs ++ (gap sep (length xs) ++ f x)
joined-next f sep [] x = append-nil (f x)
joined-next f sep (y ∷ ys) x =
    sym (flat_map_more (λ z. sep ++ f z) (f y) ys x)
    ∙ ap (λ (b : Bool). (f y ++ flat_map (λ z. sep ++ f z) ys) ++ ((if b then [] else sep) ++ f x)) (sym (eqb-suc-zero (length ys)))

pub names-more : (packages : List Package) (k : ℕ) (p : Package) (bs old new : List ℕ) → slice_get packages k ≡ Some p
    → old ≡ bs ++ names_text (take k packages) → new ≡ old ++ (gap (codes ", ") k ++ p.name) → new ≡ bs ++ names_text (take (k + 1) packages)
names-more packages k p bs old new is so_far more =
    let short = slice_get_within packages k p is in
    let count : length (take k packages) ≡ k = length-take-le k packages (omega (arith, short)) in
    let front : List ℕ = names_text (take k packages) in
    let joined : front ++ (gap (codes ", ") k ++ p.name) ≡ names_text (take (k + 1) packages) =
    ap (λ (n : ℕ). front ++ (gap (codes ", ") n ++ p.name)) (sym count)
    ∙ sym (joined-next (λ (q : Package). q.name) (codes ", ") (take k packages) p)
    ∙ ap (λ (list : List Package). names_text list) (sym (take-next packages k p is)) in
    more ∙ ap (λ (t : List ℕ). t ++ (gap (codes ", ") k ++ p.name)) so_far ∙ append_assoc bs front (gap (codes ", ") k ++ p.name)
    ∙ ap (λ (t : List ℕ). bs ++ t) joined

pub names-all : (packages : List Package) (k : ℕ) (bs new : List ℕ) → length packages ≤ k → new ≡ bs ++ names_text (take k packages)
    → new ≡ bs ++ names_text packages
names-all packages k bs new past so_far = so_far ∙ ap (λ (list : List Package). bs ++ names_text list) (take_all k packages past)

-- ---- steps

pub steps-more : (s : SpaceView) (steps : List Step) (k : ℕ) (step : Step) (old new : List ℕ) → slice_get steps k ≡ Some step
    → old ≡ plan_text s (take k steps) → new ≡ old ++ step_text s step → new ≡ plan_text s (take (k + 1) steps)
steps-more s steps k step old new is so_far more =
    more ∙ ap (λ (t : List ℕ). t ++ step_text s step) so_far ∙ flat_map_more (step_text s) [] (take k steps) step
    ∙ ap (λ (list : List Step). plan_text s list) (sym (take-next steps k step is))

pub steps-all : (s : SpaceView) (steps : List Step) (k : ℕ) (new : List ℕ) → length steps ≤ k → new ≡ plan_text s (take k steps) → new ≡ plan_text s steps
steps-all s steps k new past so_far = so_far ∙ ap (λ (list : List Step). plan_text s list) (take_all k steps past)

-- ---- a cluster

module _ (s : SpaceView) (frame : IsFrame s) (clusters : ClusterList) (same : clusters ≡ s.clusters) (cluster : ℕ) (members : List ℕ)
    (are : slice_get clusters.members cluster ≡ Some members) where
  own : slice_get s.clusters.members cluster ≡ Some members
  own = subst (λ (c : ClusterList). slice_get c.members cluster ≡ Some members) same are

  pub some-members : 0 < length members
  some-members =
      All-contains (λ (l : List ℕ). 0 < length l) s.clusters.members members frame.clusters.partition.some
      (contains-at s.clusters.members cluster members own)

  pub first-within : get_or members 0 0 < length s.repository.packages
  first-within =
      let short = slice_get_within s.clusters.members cluster members own in
      let list : get_or s.clusters.members cluster [] ≡ members = get_or_from_slice_get s.clusters.members cluster members [] own in
      let at = element-at members 0 some-members in
      let there : Contains (get_or s.clusters.members cluster []) at.element =
      subst (λ (l : List ℕ). Contains l at.element) (sym list) (contains-at members 0 at.element at.is) in
      let of = in-package s frame cluster at.element short there in
      let within = slice_get_within s.repository.packages at.element of.package_is of.is in
      let first : get_or members 0 0 ≡ at.element = get_or_from_slice_get members 0 at.element 0 at.is in
      subst (λ (n : ℕ). n < length s.repository.packages) (sym first) within
