-- What removals and packages of new names leave.
use Rattle.std.proofs.Common.{◌≡◌, ◌≢◌, ◌⊎◌, ◌↔◌, ℕ, zero, suc, ◌+◌, ◌<◌, ◌^◌, Bool, true, false, List, [], ◌∷◌, ◌++◌, Some, None}
use Rattle.std.proofs.Common.{length, set, refl, sym, ap, subst, ◌∙◌, slice_get, arith, inl, inr}
use Rattle.std.specs.Prelude.{All, Contains}
use Rattle.std.proofs.lemmas.Bool.{cases_eq, false≢true}
use Rattle.std.proofs.lemmas.List.{length-append, length-set}
use Rattle.std.proofs.lemmas.List.Elements.{All-contains, Contains-append_cases, Contains-append_left, Contains-append_right}
use Rattle.std.proofs.lemmas.Option.{slice_get_within}
use Rattle.dist_base.specs.ListLaws.{all-contained, any-contained, contains-at, found-at, same-at}
use Rattle.dist_repo.specs.Order.{IsFlat}
use Rattle.dist_repo.specs.declared.package.Package.{Package}
use Rattle.dist_space.specs.ClusterLaws.{names-apart}
use Rattle.dist_space.specs.Space.{SpaceView}
use Rattle.dist_future.specs.Future.{IsFuture, IsTaken}
use Rattle.dist_archive.specs.BringingPrivate.{IsFree}
use Rattle.dist_archive.specs.SlotsPrivate.{IsKept, is_filled, slot_package, standing}
use Rattle.dist_archive.specs.Steps.{BringsName, HasExactly, IsHeld, Removes}
use Rattle.dist_archive.specs.declared.slots.Slot.{Slot}
use Rattle.dist_archive.specs.declared.slots.Slot.TheVariants.{Kept, Gone, New}
use Rattle.dist_archive.proofs.FutureLemmas.{name-future, removal-future}
use Rattle.dist_archive.proofs.HeldLemmas.{AreNamed, flat-within, from-slot, held-flat, in-slot, name-untaken, stands, stands-from, standing-taken}

-- ---- one slot

pub set-same : {X : Type 0} (xs : List X) (k : ℕ) (v : X) → k < length xs → slice_get (set xs k v) k ≡ Some v
set-same [] k v short = absurd (omega (arith, short))
set-same (x ∷ xs) zero v short = refl
set-same (x ∷ xs) (suc k) v short = set-same xs k v (omega (arith, short))

pub set-other : {X : Type 0} (xs : List X) (k j : ℕ) (v : X) → j ≢ k → slice_get (set xs k v) j ≡ slice_get xs j
set-other [] k j v apart = refl
set-other (x ∷ xs) zero zero v apart = absurd (apart refl)
set-other (x ∷ xs) zero (suc j) v apart = refl
set-other (x ∷ xs) (suc k) zero v apart = refl
set-other (x ∷ xs) (suc k) (suc j) v apart = set-other xs k j v (λ same. apart (ap suc same))

-- what a slot holds
pub record Filled (p : Package) (slot : Slot) : Type 0 where
  pub held : Package
  pub is : slot_package p slot ≡ Some held

pub slot-filled : (p : Package) (slot : Slot) → is_filled slot ≡ true → Filled p slot
slot-filled p Kept is = record { held = p; is = refl }
slot-filled p Gone is = absurd (false≢true is)
slot-filled p (New copy) is = record { held = copy.value; is = refl }

pub slot-empty : (p : Package) (slot : Slot) → is_filled slot ≡ false → slot_package p slot ≡ None
slot-empty p Kept is = absurd (false≢true (sym is))
slot-empty p Gone is = refl
slot-empty p (New copy) is = absurd (false≢true (sym is))

-- ---- steps

-- a step leaves these slots and new names
pub record IsChanged (s : SpaceView) (slots : List Slot) (names : List Package) (Made : List Package → Type 0) : Type 0 where
  pub still : IsKept s slots names
  pub made : Made (standing s.repository.packages slots ++ names)

module _ (s : SpaceView) (slots : List Slot) (names : List Package) (kept : IsKept s slots names) where
  abbrev all : List Package
  all = standing s.repository.packages slots ++ names

  taken : (k : ℕ) (p : Package) (name : List ℕ) → slice_get s.repository.packages k ≡ Some p → p.name ≡ name → IsTaken s.repository name
  taken k p name own is = any-contained (λ (q : Package). q.name ≡ name) s.repository.packages p (contains-at s.repository.packages k p own) is

  -- what is held of the name of a package, by its slot
  pub held-in-slot : (number : ℕ) (p : Package) (was : Slot) → slice_get s.repository.packages number ≡ Some p → slice_get slots number ≡ Some was
      → (is_filled was ≡ true) ↔ IsHeld all p.name
  held-in-slot number p was own is = (
    (λ filled.
        let at = slot-filled p was filled in
        let there = from-slot s.repository space_flat slots names kept.named kept.untaken number p at.held was own is at.is in
        any-contained (λ (n : Package). n.name ≡ p.name) all at.held there.0 there.1),
    λ held. by (is_filled was) refl held,
  )
    where
      space_flat : IsFlat s.repository.packages
      space_flat = kept.space.frame.flat

      by : (b : Bool) → is_filled was ≡ b → IsHeld all p.name → is_filled was ≡ true
      by true filled held = filled
      by false empty held =
          let at = found-at (λ (n : Package). n.name ≡ p.name) all held in
          let there = in-slot s.repository space_flat slots names kept.named kept.untaken number p at.element was own is
          (contains-at all at.place at.element at.is, at.holds) in
          absurd (let no-one : None ≡ Some at.element = sym (slot-empty p was empty) ∙ there in cc)

  module _ (number : ℕ) (p : Package) (was : Slot) (own : slice_get s.repository.packages number ≡ Some p)
      (is : slice_get slots number ≡ Some was) (filled : is_filled was ≡ true) where
    abbrev left : List Slot
    left = set slots number Gone

    gone : (k : ℕ) (q : Package) (slot : Slot) (n : Package) → k ≡ number → slice_get left k ≡ Some slot → slot_package q slot ≡ Some n → ⊥
    gone k q slot n same at holds =
        let here : Some Gone ≡ Some slot = sym (set-same slots number Gone (slice_get_within slots number was is))
        ∙ ap (slice_get left) (sym same) ∙ at in
        let one : Gone ≡ slot = cc in
        let no-one : None ≡ Some n = ap (slot_package q) one ∙ holds in cc

    left-named : AreNamed s.repository.packages left
    left-named k q slot n own_q at holds = elim (cases_eq k number) [
      | inl same ↦ absurd (gone k q slot n same at holds)
      | inr other ↦ kept.named k q slot n own_q (sym (set-other slots number k Gone other) ∙ at) holds
    ]

    left-exactly : HasExactly (standing s.repository.packages left ++ names) (λ n. Contains all n × (n.name ≢ p.name))
    left-exactly = record {
      one_of_a_name = held-flat s.repository kept.space.frame.flat left names left-named kept.untaken kept.flat;
      exact = λ n. (
        (λ there. elim (Contains-append_cases (standing s.repository.packages left) names n there) [
          | inl stood ↦
              let at = stands-from s.repository.packages left n stood in
              let name : n.name ≡ at.own.name = left-named at.number at.own at.slot n at.is_own at.is_slot at.holds in
              elim (cases_eq at.number number) [
                | inl same ↦ absurd (gone at.number at.own at.slot n same at.is_slot at.holds)
                | inr other ↦ (
                  Contains-append_left (standing s.repository.packages slots) names n (stands s.repository.packages slots at.number at.own at.slot n
                      at.is_own (sym (set-other slots number at.number Gone other) ∙ at.is_slot) at.holds),
                  λ same. other (names-apart s.repository.packages at.number number at.own p kept.space.frame.flat at.is_own own (sym name ∙ same)),
                )
              ]
          | inr new ↦ (
            Contains-append_right (standing s.repository.packages slots) names n new,
            λ same. name-untaken s.repository kept.space.frame.flat slots names kept.named kept.untaken n new
                (taken number p n.name own (sym same)),
          )
        ]),
        λ held. elim (Contains-append_cases (standing s.repository.packages slots) names n held.0) [
          | inl stood ↦
              let at = stands-from s.repository.packages slots n stood in
              let name : n.name ≡ at.own.name = kept.named at.number at.own at.slot n at.is_own at.is_slot at.holds in
              elim (cases_eq at.number number) [
                | inl same ↦
                    let one : at.own ≡ p = same-at s.repository.packages number at.own p
                    (subst (λ (i : ℕ). slice_get s.repository.packages i ≡ Some at.own) same at.is_own) own in
                    absurd (held.1 (name ∙ ap (λ (x : Package). x.name) one))
                | inr other ↦ Contains-append_left (standing s.repository.packages left) names n (stands s.repository.packages left at.number at.own
                    at.slot n at.is_own (set-other slots number at.number Gone other ∙ at.is_slot) at.holds)
              ]
          | inr new ↦ Contains-append_right (standing s.repository.packages left) names n new
        ],
      );
    }

    pub own-removed : IsChanged s left names (Removes p.name all)
    own-removed =
        let removes : Removes p.name all (standing s.repository.packages left ++ names) = record {
          there = (held-in-slot number p was own is).0 filled;
          made = left-exactly;
        } in
        let fewer = flat-within (standing s.repository.packages left ++ names) all left-exactly.one_of_a_name
        (λ n there. ((left-exactly.exact n).0 there).0) in
        record {
          still = record {
            space = kept.space;
            beside = length-set slots number Gone ∙ kept.beside;
            named = left-named;
            flat = kept.flat;
            untaken = kept.untaken;
            future = removal-future s.repository p.name all (standing s.repository.packages left ++ names) kept.future removes;
            few = omega (arith, fewer, kept.few);
          };
          made = removes;
        }

  -- ---- new names

  -- what is held of a name that is no package's
  pub held-new : (name : List ℕ) → ¬ IsTaken s.repository name → IsHeld all name ↔ IsHeld names name
  held-new name free = (
    (λ held.
        let at = found-at (λ (n : Package). n.name ≡ name) all held in
        elim (Contains-append_cases (standing s.repository.packages slots) names at.element (contains-at all at.place at.element at.is)) [
          | inl stood ↦ absurd (free (subst (λ (x : List ℕ). IsTaken s.repository x) at.holds (standing-taken s.repository kept.space.frame.flat slots names
              kept.named kept.untaken at.element (stands-from s.repository.packages slots at.element stood))))
          | inr new ↦ any-contained (λ (n : Package). n.name ≡ name) names at.element new at.holds
        ]),
    λ held.
        let at = found-at (λ (n : Package). n.name ≡ name) names held in
        any-contained (λ (n : Package). n.name ≡ name) all at.element
        (Contains-append_right (standing s.repository.packages slots) names at.element (contains-at names at.place at.element at.is)) at.holds,
  )

  -- what stands in slots stays, and new names are these now
  pub names-changed : (others : List Package) (Made : List Package → Type 0) → IsFlat others → All (λ n. ¬ IsTaken s.repository n.name) others
      → Made (standing s.repository.packages slots ++ others)
      → (Made (standing s.repository.packages slots ++ others) → IsFuture s.repository (standing s.repository.packages slots ++ others))
      → length (standing s.repository.packages slots ++ others) < 2 ^ 32 → IsChanged s slots others Made
  names-changed others Made flat untaken made future few = record {
    still = record {
      space = kept.space;
      beside = kept.beside;
      named = kept.named;
      flat = flat;
      untaken = untaken;
      future = future made;
      few = few;
    };
    made = made;
  }

  pub new-removed : (name : List ℕ) (others : List Package) → ¬ IsTaken s.repository name → IsHeld names name
      → HasExactly others (λ n. Contains names n × (n.name ≢ name)) → IsChanged s slots others (Removes name all)
  new-removed name others free held exactly =
      let untaken : All (λ n. ¬ IsTaken s.repository n.name) others = all-contained (λ (n : Package). ¬ IsTaken s.repository n.name) others
      (λ n there. All-contains (λ (x : Package). ¬ IsTaken s.repository x.name) names n kept.untaken ((exactly.exact n).0 there).0) in
      let rest : List Package = standing s.repository.packages slots ++ others in
      let made : HasExactly rest (λ n. Contains all n × (n.name ≢ name)) = record {
        one_of_a_name = held-flat s.repository kept.space.frame.flat slots others kept.named untaken exactly.one_of_a_name;
        exact = λ n. (
          (λ there. elim (Contains-append_cases (standing s.repository.packages slots) others n there) [
            | inl stood ↦ (
              Contains-append_left (standing s.repository.packages slots) names n stood,
              λ same. free (subst (λ (x : List ℕ). IsTaken s.repository x) same (standing-taken s.repository kept.space.frame.flat slots names
                  kept.named kept.untaken n (stands-from s.repository.packages slots n stood))),
            )
            | inr new ↦
                let both = (exactly.exact n).0 new in
                (Contains-append_right (standing s.repository.packages slots) names n both.0, both.1)
          ]),
          λ there. elim (Contains-append_cases (standing s.repository.packages slots) names n there.0) [
            | inl stood ↦ Contains-append_left (standing s.repository.packages slots) others n stood
            | inr new ↦ Contains-append_right (standing s.repository.packages slots) others n ((exactly.exact n).1 (new, there.1))
          ],
        );
      } in
      let fewer = flat-within rest all made.one_of_a_name (λ n there. ((made.exact n).0 there).0) in
      names-changed others (Removes name all) exactly.one_of_a_name untaken (record { there = (held-new name free).1 held; made = made })
      (λ removes. removal-future s.repository name all rest kept.future removes) (omega (arith, fewer, kept.few))

  pub new-come : (p : Package) (others : List Package) → IsFree s.repository all p → HasExactly others (λ n. Contains names n ⊎ (p ≡ n))
      → length others ≡ length names + 1 → length all + 1 < 4294967295 → IsChanged s slots others (BringsName s.repository p all)
  new-come p others free exactly one_more few =
      let untaken : All (λ n. ¬ IsTaken s.repository n.name) others = all-contained (λ (n : Package). ¬ IsTaken s.repository n.name) others
      (λ n there. elim ((exactly.exact n).0 there) [
        | inl here ↦ All-contains (λ (x : Package). ¬ IsTaken s.repository x.name) names n kept.untaken here
        | inr is ↦ subst (λ (x : Package). ¬ IsTaken s.repository x.name) is free.untaken
      ]) in
      let rest : List Package = standing s.repository.packages slots ++ others in
      let made : HasExactly rest (λ n. Contains all n ⊎ (p ≡ n)) = record {
        one_of_a_name = held-flat s.repository kept.space.frame.flat slots others kept.named untaken exactly.one_of_a_name;
        exact = λ n. (
          (λ there. elim (Contains-append_cases (standing s.repository.packages slots) others n there) [
            | inl stood ↦ inl (Contains-append_left (standing s.repository.packages slots) names n stood)
            | inr new ↦ elim ((exactly.exact n).0 new) [
              | inl here ↦ inl (Contains-append_right (standing s.repository.packages slots) names n here)
              | inr is ↦ inr is
            ]
          ]),
          λ either. elim either [
            | inl held ↦ elim (Contains-append_cases (standing s.repository.packages slots) names n held) [
              | inl stood ↦ Contains-append_left (standing s.repository.packages slots) others n stood
              | inr new ↦ Contains-append_right (standing s.repository.packages slots) others n ((exactly.exact n).1 (inl new))
            ]
            | inr is ↦ Contains-append_right (standing s.repository.packages slots) others n ((exactly.exact n).1 (inr is))
          ],
        );
      } in
      let first = length-append (standing s.repository.packages slots) others in
      let second = length-append (standing s.repository.packages slots) names in
      names-changed others (BringsName s.repository p all) exactly.one_of_a_name untaken (record {
        untaken = free.untaken;
        unheld = free.unheld;
        unprovided = free.unprovided;
        of_new_name = record { name = refl; version = free.version; provides = free.provides };
        made = made;
      }) (λ brings. name-future s.repository p all rest kept.future brings) (omega (arith, first, second, one_more, few))
