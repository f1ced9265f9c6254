-- Packages in order: those of one name stand together.
use Rattle.std.proofs.Common.{◌≡◌, ◌≢◌, ℕ, ◌<◌, ◌≤◌, List, length, get_or, nat_cmp, Ordering, Less, Equal, Greater, refl, sym, ap, ◌∙◌, arith, inl, inr, Some}
use Rattle.std.proofs.Common.{slice_get, is_eq, true, not}
use Rattle.std.specs.Prelude.{bytes_eq}
use Rattle.std.specs.Cmp.Lexicographic.{slice_cmp}
use Rattle.std.specs.Ordering.{ordering_then, ordering_reverse}
use Rattle.std.proofs.lemmas.Bool.{cases_lt, false≢true}
use Rattle.std.proofs.lemmas.Cmp.{nat_list_cmp_total}
use Rattle.std.proofs.lemmas.Map.Text.{is_eq-slice_cmp}
use Rattle.std.proofs.lemmas.Option.{get_or_from_slice_get}
use Rattle.std.proofs.lemmas.Slice.Eq.{bytes_eq-Decides}
use Rattle.dist_repo.specs.Order.{IsInOrder}
use Rattle.dist_repo.specs.declared.package.Package.{Package}

pub same_names : (a b : List ℕ) → slice_cmp nat_cmp a b ≡ Equal → a ≡ b
same_names a b is = (bytes_eq-Decides a b).0 (sym (is_eq-slice_cmp a b) ∙ ap is_eq is)

-- names that a comparison of bytes tells apart
pub names-apart : (a b : List ℕ) → true ≡ not (bytes_eq a b) → a ≢ b
names-apart a b apart same = false≢true (sym (apart ∙ ap not ((bytes_eq-Decides a b).1 same)))

pub then-less : (a b : Ordering) → ordering_then a b ≡ Less → a ≢ Greater
then-less Less b is e = cc
then-less Equal b is e = cc
then-less Greater b is e = cc

-- a name between two equal names is equal to them
between-equal : (a b c : List ℕ) → slice_cmp nat_cmp a b ≢ Greater → slice_cmp nat_cmp b c ≢ Greater → a ≡ c → slice_cmp nat_cmp b c ≡ Equal
between-equal a b c first second same = decide (slice_cmp nat_cmp b c) refl
  where
    turned : slice_cmp nat_cmp a b ≡ ordering_reverse (slice_cmp nat_cmp b c)
    turned = nat_list_cmp_total.antisymm a b ∙ ap (λ x. ordering_reverse (slice_cmp nat_cmp b x)) same

    decide : (o : Ordering) → slice_cmp nat_cmp b c ≡ o → slice_cmp nat_cmp b c ≡ Equal
    decide Less is = absurd (first (turned ∙ ap ordering_reverse is))
    decide Equal is = is
    decide Greater is = absurd (second is)

-- a package between two of one name has it too
pub between-named : (packages : List Package) (first second later : ℕ) (p q z : Package) → IsInOrder packages → first < second → second ≤ later
    → later < length packages
    → slice_get packages first ≡ Some p → slice_get packages second ≡ Some q → slice_get packages later ≡ Some z → p.name ≡ z.name → q.name ≡ z.name
between-named packages first second later p q z ordered before past within is_p is_q is_z same =
    elim (cases_lt second later) [
      | inl h ↦
          let a = get_or_from_slice_get packages first p p is_p in
          let b = get_or_from_slice_get packages second q p is_q in
          let c = get_or_from_slice_get packages later z p is_z in
          let cmp = slice_cmp nat_cmp in
          let ab : cmp (get_or packages first p).name (get_or packages second p).name ≢ Greater =
          then-less _ _ (ordered first second p before (omega (arith, h, within))) in
          let bc : cmp (get_or packages second p).name (get_or packages later p).name ≢ Greater = then-less _ _ (ordered second later p h within) in
          let ac : (get_or packages first p).name ≡ (get_or packages later p).name = ap (λ (x : Package). x.name) a ∙ same
          ∙ ap (λ (x : Package). x.name) (sym c) in
          let bc-same = same_names _ _ (between-equal _ _ _ ab bc ac) in
          ap (λ (x : Package). x.name) (sym b) ∙ bc-same ∙ ap (λ (x : Package). x.name) c
      | inr h ↦ let here : second ≡ later = omega arith in
          let b = get_or_from_slice_get packages second q q is_q in
          let c = get_or_from_slice_get packages later z q is_z in
          ap (λ (x : Package). x.name) (sym b ∙ ap (λ (n : ℕ). get_or packages n q) here ∙ c)
    ]
