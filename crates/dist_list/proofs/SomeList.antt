-- Each text names a set or has a first bad line.
use Rattle.std.proofs.Common.{◌≡◌, ℕ, ◌+◌, Bool, false, List, [], ◌∷◌, ◌++◌, length, replicate, inl, inr, refl, sym, subst, ◌∙◌, arith, append_assoc}
use Rattle.std.proofs.Common.{append-nil}
use Rattle.std.proofs.lemmas.List.{length-replicate}
use Rattle.std.proofs.lemmas.List.Elements.{All-replicate}
use Rattle.dist_control.specs.Lines.{lines}
use Rattle.dist_repo.specs.Order.{IsInOrder}
use Rattle.dist_repo.specs.Providers.{IsPackageAt}
use Rattle.dist_repo.specs.declared.package.Package.{Package}
use Rattle.dist_list.specs.PackageSet.{IsBadAt, NameSet, Names, NamesSet}
use Rattle.dist_list.proofs.Lists.{Names-within, blank_more, named_more, none_yet}
use Rattle.dist_list.proofs.NamedLemmas.{one-place}

-- a line names one package at most, of packages in their order
one-package : (packages : List Package) (line : List ℕ) (n m : ℕ) → IsInOrder packages → Names packages line n → Names packages line m → m ≡ n
one-package packages line n m order first second =
    let same_name : second.name ≡ first.name = let a = first.spelled in let b = second.spelled in cc in
    let same_version : second.version ≡ first.version = let a = first.spelled in let b = second.spelled in cc in
    one-place packages first.name first.version n m order first.found
    (subst (λ (v : List ℕ). IsPackageAt packages m first.name v) same_version
    (subst (λ (x : List ℕ). IsPackageAt packages m x second.version) same_name second.found))

module _ (packages : List Package) (text : List ℕ) (order : IsInOrder packages) (none : (members : List Bool) → ¬ NamesSet packages text members)
    (never : (number : ℕ) → ¬ IsBadAt packages text number) where
  from : (done rest : List (List ℕ)) (members : List Bool) → lines text ≡ done ++ rest → NameSet packages done members → ⊥
  from done [] members all set =
      none members (subst (λ (ls : List (List ℕ)). NameSet packages ls members) (sym (all ∙ append-nil done)) set)
  from done (line ∷ rest) members all set =
      let more : lines text ≡ (done ++ line ∷ []) ++ rest = all ∙ sym (append_assoc done (line ∷ []) rest) in
      never (length done + 1) (record {
        before = done;
        line = line;
        after = rest;
        split = all;
        each_before = set.each;
        bad = λ is. elim is [
          | inl blank ↦ from (done ++ line ∷ []) rest members more (blank_more packages done line members set blank)
          | inr (number, names) ↦
              let one_each = set.one_each in
              from (done ++ line ∷ []) rest _ more (named_more packages done line number members set names
              (λ other also. one-package packages line number other order names also)
              (omega (arith, one_each, Names-within packages line number names)))
        ];
        place = refl;
      })

pub some-list : (packages : List Package) (text : List ℕ) → IsInOrder packages → ((members : List Bool) → ¬ NamesSet packages text members)
    → ¬ ((number : ℕ) → ¬ IsBadAt packages text number)
some-list packages text order none never =
    let start = replicate (length packages) false in
    from packages text order none never [] (lines text) start refl
    (none_yet packages start (length-replicate (length packages) false) (All-replicate (λ member. member ≡ false) (length packages) false refl))
