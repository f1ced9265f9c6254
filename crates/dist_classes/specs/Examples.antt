-- Worked examples: a library with two bounds on it, a provided interface that moves with its package, and a name that
-- nobody has.
use Rattle.std.proofs.Common.{◌≡◌, ℕ, zero, suc, ap, sym, subst, ◌∙◌, true, false, List, [], ◌∷◌, None, Some, lit<, inl}
use Rattle.std.proofs.Common.{inr, refl, arith}
use Rattle.std.specs.Prelude.{Any, Contains, ◌⊎◌, codes, slice_index}
use Rattle.std.proofs.lemmas.Cmp.{nat_list_cmp_total}
use Rattle.std.proofs.lemmas.Map.Keys.{sorted_from_all_adjacent}
use Rattle.dist_version.specs.Between.{above_text}
use Rattle.dist_version.specs.Order.{version_cmp, part_cmp, weights_of}
use Rattle.dist_version.specs.Faults.{fault_of}
use Rattle.dist_version.specs.Spelling.{epoch_of, epoch_digits, after_epoch, upstream_of, revision_of, IsVersion}
use Rattle.dist_version.specs.TextLaws.{version_from_no_fault}
use Rattle.dist_relation.specs.declared.atom.Atom.{Atom}
use Rattle.dist_relation.specs.declared.atom.Op.TheVariants.{Lt}
use Rattle.dist_relation.specs.declared.atom.Provide.{Provide}
use Rattle.dist_relation.specs.declared.atom.Qualifier.TheVariants.{Plain}
use Rattle.dist_repo.specs.PackageList.{PackageList}
use Rattle.dist_repo.specs.declared.package.Package.{Package}
use Rattle.dist_classes.specs.Atoms.{IsBoundOn}
use Rattle.dist_classes.specs.ClassList.{IsOfClass, class_text, classes_above, classes_of_all, example_text}
use Rattle.dist_classes.specs.Cuts.{IsClusterCut, IsNameOfCluster, RisesFrom}
use Rattle.dist_classes.specs.Atoms.{IsDependencyAtom}
use Rattle.dist_classes.specs.NewNames.{AreNewNames, IsNewName}
use Rattle.dist_classes.specs.NewVersion.{AreCarried, IsAt, IsMoving, IsOfNewName}
use Rattle.dist_classes.specs.declared.class_value.Class.TheVariants.{Point, Between, Above, Below}
use Rattle.dist_repo.specs.Providers.{IsEntryOf, IsProvider}

-- ---- classes between cuts

-- the versions above 1.0-1, where bounds name 2.0 and 3
above_example : classes_above (codes "1.0-1") (codes "2.0" ∷ codes "3" ∷ [])
    ≡ Between (codes "1.0-1") (codes "2.0") ∷ Point (codes "2.0") ∷ Between (codes "2.0") (codes "3")
    ∷ Point (codes "3") ∷ Above (codes "3") ∷ []
above_example = refl

-- all versions, where a bound names 1
all_example : classes_of_all (codes "1" ∷ []) ≡ Below (codes "1") ∷ Point (codes "1") ∷ Above (codes "1") ∷ []
all_example = refl

rising_example : RisesFrom (codes "1.0-1") (codes "2.0" ∷ codes "3" ∷ [])
unfolding version_cmp part_cmp weights_of epoch_of epoch_digits after_epoch upstream_of revision_of
rising_example = (refl, (refl, tt))

-- 2.0-0 is of the class of 2.0, and 2 lies between
point_example : IsOfClass (Point (codes "2.0")) (codes "2.0-0")
unfolding version_cmp part_cmp weights_of epoch_of epoch_digits after_epoch upstream_of revision_of
point_example = refl

between_example : IsOfClass (Between (codes "1.0-1") (codes "2.0")) (codes "2.0~rc1")
unfolding version_cmp part_cmp weights_of epoch_of epoch_digits after_epoch upstream_of revision_of
between_example = (refl, refl)

-- ---- texts

between_text : class_text (Between (codes "1.0-1") (codes "2.0")) ≡ codes ">> 1.0-1, << 2.0"
between_text = refl

above_text_example : example_text (Between (codes "1.0-1") (codes "2.0")) ≡ codes "1.0-1A~~~"
unfolding above_text after_epoch upstream_of revision_of
above_text_example = refl

between_letters : example_text (Between (codes "1") (codes "1-0A")) ≡ codes "1-0A~~~~"
unfolding above_text after_epoch upstream_of revision_of
between_letters = refl

below_text_example : example_text (Below (codes "1")) ≡ codes "~~"
below_text_example = refl

-- ---- a repository of two packages

abbrev below_two : Atom
below_two = record { name = codes "libx"; qualifier = Plain; bound = Some (record { op = Lt; version = codes "2" }) }

abbrev on_foo : Atom
on_foo = record { name = codes "foo"; qualifier = Plain; bound = None }

abbrev interface : Provide
interface = record { name = codes "abi"; qualifier = Plain; version = Some (codes "1.0-0") }

abbrev library : Package
library = record {
  name = codes "libx";
  version = codes "1.0";
  source = codes "libx";
  source_version = codes "1.0";
  depends = [];
  conflicts = [];
  provides = interface ∷ [];
  essential = false;
}

abbrev program : Package
program = record {
  name = codes "p";
  version = codes "1";
  source = codes "p";
  source_version = codes "1";
  depends = (below_two ∷ []) ∷ (on_foo ∷ []) ∷ [];
  conflicts = [];
  provides = [];
  essential = false;
}

abbrev repository : PackageList
repository = record { architecture = None; packages = library ∷ program ∷ [] }

-- the bound cuts the versions of the library's cluster at 2
bound_example : IsBoundOn repository (IsNameOfCluster repository (0 ∷ [])) (codes "2")
bound_example = record {
  atom = below_two;
  is_atom = record {
    usable = tt;
    there = inl
        (1, program, lit< tt, refl, (0, below_two ∷ [], lit< tt, refl, (0, lit< tt, refl)));
  };
  allowed = (0, 0, lit< tt, refl, inl refl);
  bound = refl;
}

cut_example : IsClusterCut repository (0 ∷ []) (codes "1.0") (codes "2")
unfolding version_cmp part_cmp weights_of epoch_of epoch_digits after_epoch upstream_of revision_of
cut_example = (refl, bound_example)

-- the interface is provided at the library's own version, so it moves with it
moving_example : IsMoving None library interface
unfolding version_cmp part_cmp weights_of epoch_of epoch_digits after_epoch upstream_of revision_of
moving_example = (tt, refl)

at_two : IsAt (record { name = codes "abi"; qualifier = Plain; version = Some (codes "2") }) (codes "2")
unfolding version_cmp part_cmp weights_of epoch_of epoch_digits after_epoch upstream_of revision_of
at_two = refl

two_is_version : IsVersion (codes "2")
unfolding fault_of epoch_digits after_epoch upstream_of revision_of
two_is_version = version_from_no_fault (codes "2") refl

carried_example : AreCarried (codes "1.0") (codes "2") (true ∷ []) (interface ∷ [])
    (record { name = codes "abi"; qualifier = Plain; version = Some (codes "2") } ∷ [])
carried_example = (
  record { name = codes "abi"; qualifier = Plain; version = Some (codes "2") },
  [],
  refl,
  record {
    name = refl;
    qualifier = refl;
    moved = λ _. at_two;
    spelled = λ _. two_is_version;
    stays = λ other. absurd (other moving_example.1);
  },
  refl,
)

-- it may be left out
left_out_example : AreCarried (codes "1.0") (codes "2") (false ∷ []) (interface ∷ []) []
left_out_example = refl

abbrev first_byte : List ℕ → ℕ
first_byte name = slice_index name 0

no_entry : ¬ Any (IsEntryOf None (codes "foo")) library.provides
no_entry (zero, entry, short, is, holds) =
    absurd (let named : codes "abi" ≡ codes "foo" = ap (λ (e : Provide). e.name) is ∙ holds.1 in
    let first : 97 ≡ 102 = ap first_byte named in omega arith)
no_entry (suc k, entry, short, is, holds) = absurd (omega arith)

not_library : ¬ IsProvider None (codes "foo") library
not_library (inl named) = absurd (let first : 108 ≡ 102 = ap first_byte named in omega arith)
not_library (inr any) = no_entry any

not_program : ¬ IsProvider None (codes "foo") program
not_program (inl named) = absurd (let first : 112 ≡ 102 = ap first_byte named in omega arith)
not_program (inr any) = absurd (omega (arith, any.2))

no_foo : ¬ Any (λ p. IsProvider None (codes "foo") p) repository.packages
no_foo (zero, p, short, is, holds) = let P : Package → Type 0 = IsProvider None (codes "foo") in
    not_library (subst P (sym is) holds)
no_foo (suc zero, p, short, is, holds) = let P : Package → Type 0 = IsProvider None (codes "foo") in
    not_program (subst P (sym is) holds)
no_foo (suc (suc k), p, short, is, holds) = absurd (omega arith)

-- nobody has or provides foo
new_name_example : IsNewName repository (codes "foo")
new_name_example = record {
  atom = on_foo;
  usable = tt;
  there = (1, program, lit< tt, refl, (1, on_foo ∷ [], lit< tt, refl, (0, lit< tt, refl)));
  named = refl;
  unprovided = no_foo;
}

only_one : (a atom : Atom) → Contains (a ∷ []) atom → a ≡ atom
only_one a atom (zero, short, is) = is
only_one a atom (suc k, short, is) = absurd (omega arith)

item_cases : (atom : Atom) → Any (λ item. Contains item atom) program.depends → (below_two ≡ atom) ⊎ (on_foo ≡ atom)
item_cases atom (zero, item, short, is, there) = let In : List Atom → Type 0 = λ list. Contains list atom in
    inl (only_one below_two atom (subst In (sym is) there))
item_cases atom (suc zero, item, short, is, there) = let In : List Atom → Type 0 = λ list. Contains list atom in
    inr (only_one on_foo atom (subst In (sym is) there))
item_cases atom (suc (suc k), item, short, is, there) = absurd (omega arith)

-- an atom of an item is one of the two
dependency_cases : (atom : Atom) → IsDependencyAtom repository.packages atom → (below_two ≡ atom) ⊎ (on_foo ≡ atom)
dependency_cases atom (zero, p, short, is, any) =
    let Has : Package → Type 0 = λ q. Any (λ item. Contains item atom) q.depends in let none = subst Has (sym is) any in
    absurd (omega (arith, none.2))
dependency_cases atom (suc zero, p, short, is, any) = let Has : Package
    → Type 0 = λ q. Any (λ item. Contains item atom) q.depends in item_cases atom (subst Has (sym is) any)
dependency_cases atom (suc (suc k), p, short, is, any) = absurd (omega arith)

-- the library has its own name
has_libx : Any (λ p. IsProvider None (codes "libx") p) repository.packages
has_libx = (0, library, lit< tt, refl, inl refl)

foo_alone : (name : List ℕ) → IsNewName repository name → codes "foo" ≡ name
foo_alone name new = elim (dependency_cases new.atom new.there) [
  | inl h ↦
      let named : codes "libx" ≡ name = ap (λ (a : Atom). a.name) h ∙ new.named in
      let Has : List ℕ → Type 0 = λ n. Any (λ p. IsProvider None n p) repository.packages in
      absurd (new.unprovided (subst Has named has_libx))
  | inr h ↦ ap (λ (a : Atom). a.name) h ∙ new.named
]

-- it is the only new name
new_names_example : AreNewNames repository (codes "foo" ∷ [])
new_names_example = record {
  rising = sorted_from_all_adjacent nat_list_cmp_total (codes "foo" ∷ []) [] (λ k short. absurd (omega arith));
  exact = λ name. (
    (λ there. let New : List ℕ → Type 0 = IsNewName repository in subst New (named name there) new_name_example),
    λ new. (0, lit< tt, foo_alone name new),
  );
}
  where
    named : (name : List ℕ) → Contains (codes "foo" ∷ []) name → codes "foo" ≡ name
    named name (zero, short, is) = is
    named name (suc k, short, is) = absurd (omega arith)

-- a package of the new name, which may depend on anything
abbrev invented : Package
invented = record {
  name = codes "foo";
  version = codes "1-0A";
  source = codes "foo";
  source_version = codes "1-0A";
  depends = (below_two ∷ []) ∷ [];
  conflicts = [];
  provides = [];
  essential = false;
}

invented_is_version : IsVersion (codes "1-0A")
unfolding fault_of epoch_digits after_epoch upstream_of revision_of
invented_is_version = version_from_no_fault (codes "1-0A") refl

of_new_name_example : IsOfNewName (codes "foo") invented
of_new_name_example = record { name = refl; version = invented_is_version; provides = refl }
