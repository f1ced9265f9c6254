-- What an archive keeps, from its start on.
use Rattle.std.proofs.Common.{◌≡◌, ℕ, zero, suc, ◌+◌, ◌<◌, ◌^◌, List, [], ◌++◌, Some, length, replicate, sym, ap, subst, ◌∙◌, slice_get, arith}
use Rattle.std.specs.Prelude.{All}
use Rattle.std.proofs.lemmas.List.{append-nil, length-append, length-replicate}
use Rattle.std.proofs.lemmas.List.Elements.{All-nil}
use Rattle.dist_repo.specs.Order.{IsFlat}
use Rattle.dist_repo.specs.declared.package.Package.{Package}
use Rattle.dist_space.specs.Space.{IsSpace, SpaceView}
use Rattle.dist_future.specs.Future.{IsFuture, IsTaken}
use Rattle.dist_archive.specs.SlotsPrivate.{IsKept, filled_count, slot_package, standing}
use Rattle.dist_archive.specs.declared.slots.Slot.{Slot}
use Rattle.dist_archive.specs.declared.slots.Slot.TheVariants.{Kept}
use Rattle.dist_archive.proofs.FutureLemmas.{today-future}
use Rattle.dist_archive.proofs.HeldLemmas.{standing-kept, standing-length}

kept-slot : (n k : ℕ) (slot : Slot) → slice_get (replicate n Kept) k ≡ Some slot → slot ≡ Kept
kept-slot zero k slot is = cc
kept-slot (suc n) zero slot is = let same : Kept ≡ slot = cc in sym same
kept-slot (suc n) (suc k) slot is = kept-slot n k slot is

pub all-held : (packages : List Package) (slots : List Slot) (names : List Package) → slots ≡ replicate (length packages) Kept → names ≡ []
    → standing packages slots ++ names ≡ packages
all-held packages slots names all none =
    ap (λ (x : List Slot). standing packages x ++ names) all ∙ ap (λ (x : List Package). standing packages (replicate (length packages) Kept) ++ x) none
    ∙ append-nil (standing packages (replicate (length packages) Kept)) ∙ standing-kept packages

pub kept-first : (s : SpaceView) (slots : List Slot) (names : List Package) → IsSpace s → length s.repository.packages < 2 ^ 32
    → slots ≡ replicate (length s.repository.packages) Kept → names ≡ [] → IsKept s slots names
kept-first s slots names space few all none =
    let whole = all-held s.repository.packages slots names all none in record {
      space = space;
      beside = ap (λ (x : List Slot). length x) all ∙ length-replicate (length s.repository.packages) Kept;
      named = λ k p slot n own is holds.
          let kept = kept-slot (length s.repository.packages) k slot (ap (λ (x : List Slot). slice_get x k) (sym all) ∙ is) in
          let same : Some p ≡ Some n = sym (ap (slot_package p) kept) ∙ holds in
          let one : p ≡ n = cc in sym (ap (λ (x : Package). x.name) one);
      flat = subst (λ (x : List Package). IsFlat x) (sym none) (λ i j d less short. absurd (omega (arith, short)));
      untaken = subst (λ (x : List Package). All (λ n. ¬ IsTaken s.repository n.name) x) (sym none) (All-nil (λ (n : Package). ¬ IsTaken s.repository n.name));
      future = subst (λ (x : List Package). IsFuture s.repository x) (sym whole) (today-future s space);
      few = subst (λ (x : List Package). length x < 2 ^ 32) (sym whole) few;
    }

pub held-length : (s : SpaceView) (slots : List Slot) (names : List Package) → IsKept s slots names
    → length (standing s.repository.packages slots ++ names) ≡ filled_count slots + length names
held-length s slots names kept =
    let first = standing-length s.repository.packages slots kept.beside in
    let all = length-append (standing s.repository.packages slots) names in
    omega (arith, first, all)
