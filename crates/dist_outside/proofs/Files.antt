-- Files that grow by one piece after another.
use Rattle.std.proofs.Common.{◌≡◌, ℕ, Bool, true, false, cond, List, [], ◌++◌, Option, Some, None, refl, ap, sym, ◌∙◌, append_assoc}
use Rattle.std.proofs.lemmas.List.{append-nil}
use Rattle.std.proofs.lemmas.Cmp.{nat_list_cmp_total}
use Rattle.std.specs.Ordering.{nat_cmp, is_eq}
use Rattle.std.specs.Cmp.Lexicographic.{slice_cmp}
use Rattle.std.specs.FinMap.{get, insert, same_map, get-insert, get_tied, nat_cmp-IsAntisymmetric, slice_cmp-IsAntisymmetric}
use Rattle.std.specs.Cmp.{eq_by_cmp_equiv}
use Rattle.std.specs.declared.cmp.Ordering.{Ordering}
use Rattle.std.specs.declared.cmp.Ordering.TheVariants.{Less, Equal, Greater}
use Rattle.dist_outside.specs.Files.{Files, Mode, Idle, Reading, Writing, appended_to, with_more}

cond_twice : (b : Bool) (u v w : Option (List ℕ)) → cond b u (cond b v w) ≡ cond b u w
cond_twice true u v w = refl
cond_twice false u v w = refl

-- two maps of files that answer alike are equal
same_files : (m n : Files) → ((q : List ℕ) → get m q ≡ get n q) → m ≡ n
same_files m n is = same_map nat_list_cmp_total (slice_cmp-IsAntisymmetric nat_cmp-IsAntisymmetric) m n is

-- the later of two files of a name counts
pub insert-insert : (files : Files) (name x y : List ℕ) → insert (insert files name x) name y ≡ insert files name y
insert-insert files name x y = same_files _ _ (λ q.
    get-insert nat_list_cmp_total (insert files name x) name y q
    ∙ ap (cond (is_eq (slice_cmp nat_cmp q name)) (Some y)) (get-insert nat_list_cmp_total files name x q)
    ∙ cond_twice (is_eq (slice_cmp nat_cmp q name)) (Some y) (Some x) (get files q)
    ∙ sym (get-insert nat_list_cmp_total files name y q))

lookup-same : (files : Files) (name x q : List ℕ) (r : Ordering) → slice_cmp nat_cmp q name ≡ r → get files name ≡ Some x
    → cond (is_eq r) (Some x) (get files q) ≡ get files q
lookup-same files name x q Less e h = refl
lookup-same files name x q Equal e h = sym h ∙ get_tied nat_list_cmp_total files q name e
lookup-same files name x q Greater e h = refl

-- a file that has these bytes already
pub insert-same : (files : Files) (name x : List ℕ) → get files name ≡ Some x → insert files name x ≡ files
insert-same files name x h = same_files _ _ (λ q.
    get-insert nat_list_cmp_total files name x q ∙ lookup-same files name x q (slice_cmp nat_cmp q name) refl h)

-- what a file just put there has
pub get-insert_same : (files : Files) (name x : List ℕ) → get (insert files name x) name ≡ Some x
get-insert_same files name x = get-insert nat_list_cmp_total files name x name
    ∙ ap (λ same. cond same (Some x) (get files name)) ((eq_by_cmp_equiv nat_list_cmp_total).refl name)

appended-nothing : (files : Files) (name : List ℕ) (had : Option (List ℕ)) → get files name ≡ had → appended_to files name had [] ≡ files
appended-nothing files name None h = refl
appended-nothing files name (Some bytes) h = ap (insert files name) (append-nil bytes) ∙ insert-same files name bytes h

pub with_more_nothing : (told : Option Files) (mode : Mode) → with_more told mode [] ≡ told
with_more_nothing None mode = refl
with_more_nothing (Some files) Idle = refl
with_more_nothing (Some files) (Reading at) = refl
with_more_nothing (Some files) (Writing None) = refl
with_more_nothing (Some files) (Writing (Some name)) = ap Some (appended-nothing files name (get files name) refl)

appended-appended : (files : Files) (name s t : List ℕ) (had : Option (List ℕ)) → get files name ≡ had
    → appended_to (appended_to files name had s) name (get (appended_to files name had s) name) t ≡ appended_to files name had (s ++ t)
appended-appended files name s t None h = ap (λ found. appended_to files name found t) h
appended-appended files name s t (Some bytes) h =
    ap (λ found. appended_to (insert files name (bytes ++ s)) name found t) (get-insert_same files name (bytes ++ s))
    ∙ insert-insert files name (bytes ++ s) ((bytes ++ s) ++ t)
    ∙ ap (insert files name) (append_assoc bytes s t)

pub with_more-with_more : (told : Option Files) (mode : Mode) (s t : List ℕ) → with_more (with_more told mode s) mode t ≡ with_more told mode (s ++ t)
with_more-with_more None mode s t = refl
with_more-with_more (Some files) Idle s t = refl
with_more-with_more (Some files) (Reading at) s t = refl
with_more-with_more (Some files) (Writing None) s t = refl
with_more-with_more (Some files) (Writing (Some name)) s t = ap Some (appended-appended files name s t (get files name) refl)
