-- The first entry that fits may be taken each time: what is carried at all is carried so.
use Rattle.std.proofs.Common.{◌≡◌, ◌↔◌, ℕ, zero, suc, ◌+◌, true, false, List, [], ◌∷◌, Some, drop, length}
use Rattle.std.proofs.Common.{◌≤◌, ◌-◌, arith, refl, sym, ap, subst, ◌∙◌, inl, inr, slice_get, add-one, add-zero}
use Rattle.std.proofs.lemmas.Bool.{cases_lt}
use Rattle.std.proofs.lemmas.List.{length-drop}
use Rattle.dist_base.specs.ListLaws.{element-at}
use Rattle.dist_relation.specs.declared.atom.Provide.{Provide}
use Rattle.dist_classes.specs.NewVersion.{AreCarried, IsCarried}
use Rattle.dist_archive.specs.CarriedPrivate.{CanCarry, IsCarriedFrom, IsVersionCarried}

-- the rest of a list behind a place
pub drop-at : {X : Type 0} (xs : List X) (k : ℕ) (x : X) → slice_get xs k ≡ Some x → drop k xs ≡ x ∷ drop (k + 1) xs
drop-at [] k x is = cc
drop-at (y ∷ xs) zero x is = let same : y ≡ x = cc in ap (λ z. z ∷ xs) same
drop-at (y ∷ xs) (suc k) x is = rw add-one (let rest = drop-at xs k x is in rw add-one at rest)

pub drop-past : {X : Type 0} (xs : List X) (k : ℕ) → length xs ≤ k → drop k xs ≡ []
drop-past [] zero past = refl
drop-past [] (suc k) past = refl
drop-past (x ∷ xs) zero past = absurd (omega (arith, past))
drop-past (x ∷ xs) (suc k) past = drop-past xs k (omega (arith, past))

module _ (old new : List ℕ) where
  pub nothing-carried : (entries : List Provide) → CanCarry old new entries []
  nothing-carried [] = ([], refl)
  nothing-carried (e ∷ entries) = let rest = nothing-carried entries in (false ∷ rest.0, rest.1)

  pub left-out : (e : Provide) (entries carried : List Provide) → CanCarry old new entries carried → CanCarry old new (e ∷ entries) carried
  left-out e entries carried rest = (false ∷ rest.0, rest.1)

  pub of-none : (carried : List Provide) → CanCarry old new [] carried → carried ≡ []
  of-none carried ([], is) = is
  of-none carried (true ∷ kept, is) = absurd is
  of-none carried (false ∷ kept, is) = absurd is

  pub fewer : (entries : List Provide) (c : Provide) (carried : List Provide) → CanCarry old new entries (c ∷ carried) → CanCarry old new entries carried
  fewer [] c carried can = absurd (let no = of-none (c ∷ carried) can in cc)
  fewer (e ∷ entries) c carried ([], is) = absurd is
  fewer (e ∷ entries) c carried (true ∷ kept, is) =
      let same : is.1 ≡ carried = let whole = is.2 in cc in
      (false ∷ kept, subst (λ (rest : List Provide). AreCarried old new kept entries rest) same is.4)
  fewer (e ∷ entries) c carried (false ∷ kept, is) =
      let rest = fewer entries c carried (kept, is) in (false ∷ rest.0, rest.1)

  pub taken : (e : Provide) (entries : List Provide) (c : Provide) (carried : List Provide) → IsCarried old new e c
      → CanCarry old new (e ∷ entries) (c ∷ carried) ↔ CanCarry old new entries carried
  taken e entries c carried fits = (
    by,
    λ rest. (true ∷ rest.0, (c, carried, refl, fits, rest.1)),
  )
    where
      by : CanCarry old new (e ∷ entries) (c ∷ carried) → CanCarry old new entries carried
      by ([], is) = absurd is
      by (true ∷ kept, is) =
          let same : is.1 ≡ carried = let whole = is.2 in cc in
          (kept, subst (λ (rest : List Provide). AreCarried old new kept entries rest) same is.4)
      by (false ∷ kept, is) = fewer entries c carried (kept, is)

  pub passed : (e : Provide) (entries : List Provide) (c : Provide) (carried : List Provide) → ¬ IsCarried old new e c
      → CanCarry old new (e ∷ entries) (c ∷ carried) ↔ CanCarry old new entries (c ∷ carried)
  passed e entries c carried differs = (by, left-out e entries (c ∷ carried))
    where
      by : CanCarry old new (e ∷ entries) (c ∷ carried) → CanCarry old new entries (c ∷ carried)
      by ([], is) = absurd is
      by (true ∷ kept, is) =
          let same : is.0 ≡ c = let whole = is.2 in cc in
          absurd (differs (subst (λ (x : Provide). IsCarried old new e x) same is.3))
      by (false ∷ kept, is) = (kept, is)

  pub version-carried : (e c : Provide) → (c.name ≡ e.name) × (c.qualifier ≡ e.qualifier) → IsVersionCarried old new e c → IsCarried old new e c
  version-carried e c alike version = record {
    name = alike.0;
    qualifier = alike.1;
    moved = version.moved;
    spelled = version.spelled;
    stays = version.stays;
  }

  -- ---- by places

  pub place-past : (entry : Provide) (carried : List Provide) (place : ℕ) → length carried ≤ place → (entries : List Provide)
      → CanCarry old new (entry ∷ entries) (drop place carried) ↔ CanCarry old new entries (drop place carried)
  place-past entry carried place past entries =
      let Both : List Provide → Type 0 = λ rest. CanCarry old new (entry ∷ entries) rest ↔ CanCarry old new entries rest in
      subst Both (sym (drop-past carried place past)) (λ can. nothing-carried entries, λ can. nothing-carried (entry ∷ entries))

  pub place-passed : (entry : Provide) (carried : List Provide) (place : ℕ) (c : Provide) → slice_get carried place ≡ Some c → ¬ IsCarried old new entry c
      → (entries : List Provide) → CanCarry old new (entry ∷ entries) (drop place carried) ↔ CanCarry old new entries (drop place carried)
  place-passed entry carried place c is differs entries =
      let Both : List Provide → Type 0 = λ rest. CanCarry old new (entry ∷ entries) rest ↔ CanCarry old new entries rest in
      subst Both (sym (drop-at carried place c is)) (passed entry entries c (drop (place + 1) carried) differs)

  pub place-taken : (entry : Provide) (carried : List Provide) (place : ℕ) (c : Provide) → slice_get carried place ≡ Some c → IsCarried old new entry c
      → (entries : List Provide) → CanCarry old new (entry ∷ entries) (drop place carried) ↔ CanCarry old new entries (drop (place + 1) carried)
  place-taken entry carried place c is fits entries =
      let Both : List Provide → Type 0 = λ rest. CanCarry old new (entry ∷ entries) rest ↔ CanCarry old new entries (drop (place + 1) carried) in
      subst Both (sym (drop-at carried place c is)) (taken entry entries c (drop (place + 1) carried) fits)

  pub next-entry : (entries carried : List Provide) (number place next : ℕ) (entry : Provide) → slice_get entries number ≡ Some entry
      → (CanCarry old new (drop number entries) (drop place carried) ↔ CanCarry old new entries carried)
      → ((rest : List Provide) → CanCarry old new (entry ∷ rest) (drop place carried) ↔ CanCarry old new rest (drop next carried))
      → CanCarry old new (drop (number + 1) entries) (drop next carried) ↔ CanCarry old new entries carried
  next-entry entries carried number place next entry is before step =
      let whole = drop-at entries number entry is in
      let turn = step (drop (number + 1) entries) in
      let Can : List Provide → Type 0 = λ rest. CanCarry old new rest (drop place carried) in (
        (λ can. before.0 (subst Can (sym whole) (turn.1 can))),
        λ can. turn.0 (subst Can whole (before.1 can)),
      )

  pub all-entries : (entries carried : List Provide) (number place : ℕ) → length entries ≤ number → place ≤ length carried
      → (CanCarry old new (drop number entries) (drop place carried) ↔ CanCarry old new entries carried)
      → (place ≡ length carried) ↔ CanCarry old new entries carried
  all-entries entries carried number place past within same = (
    (λ at. same.0 (subst (λ (rest : List Provide). CanCarry old new (drop number entries) rest)
        (sym (drop-past carried place (omega (arith, at)))) (nothing-carried (drop number entries)))),
    λ can.
        let left : drop place carried ≡ [] = of-none (drop place carried) (subst (λ (rest : List Provide). CanCarry old new rest (drop place carried))
        (drop-past entries number past) (same.1 can)) in
        let none : length carried - place ≡ 0 = sym (length-drop place carried) ∙ ap (λ (rest : List Provide). length rest) left in
        omega (arith, none, within),
  )

  -- ---- by guesses

  skipped : (entries carried : List Provide) (d n : ℕ) → CanCarry old new (drop (n + d) entries) carried → CanCarry old new (drop n entries) carried
  skipped entries carried zero n can = rw add-zero at can
  skipped entries carried (suc d) n can =
      let one : n + suc d ≡ (n + d) + 1 = omega arith in
      let later : CanCarry old new (drop ((n + d) + 1) entries) carried = subst (λ k. CanCarry old new (drop k entries) carried) one can in
      skipped entries carried d n (elim (cases_lt (n + d) (length entries)) [
        | inl short ↦
            let at = element-at entries (n + d) short in
            subst (λ (l : List Provide). CanCarry old new l carried) (sym (drop-at entries (n + d) at.element at.is))
            (left-out at.element (drop ((n + d) + 1) entries) carried later)
        | inr past ↦
            subst (λ (l : List Provide). CanCarry old new l carried) (drop-past entries ((n + d) + 1) (omega (arith, past)) ∙ sym (drop-past entries (n + d)
            past)) later
      ])

  pub found-more : (entries carried : List Provide) (number from behind : ℕ) (c : Provide) → slice_get carried number ≡ Some c
      → IsCarriedFrom old new entries c from behind
      → (CanCarry old new (drop from entries) (drop number carried) → CanCarry old new entries carried)
      → CanCarry old new (drop behind entries) (drop (number + 1) carried) → CanCarry old new entries carried
  found-more entries carried number from behind c is found before can =
      let rest : CanCarry old new (drop (found.place + 1) entries) (drop (number + 1) carried) =
      subst (λ k. CanCarry old new (drop k entries) (drop (number + 1) carried)) found.next can in
      let here : CanCarry old new (drop found.place entries) (drop number carried) =
      subst (λ (l : List Provide). CanCarry old new l (drop number carried)) (sym (drop-at entries found.place found.entry found.is))
      (subst (λ (l : List Provide). CanCarry old new (found.entry ∷ drop (found.place + 1) entries) l) (sym (drop-at carried number c is))
      ((taken found.entry (drop (found.place + 1) entries) c (drop (number + 1) carried) found.fits).1 rest)) in
      let gap : from + (found.place - from) ≡ found.place = omega (arith, found.later) in
      before (skipped entries (drop number carried) (found.place - from) from
      (subst (λ k. CanCarry old new (drop k entries) (drop number carried)) (sym gap) here))

  pub all-found : (entries carried : List Provide) (number from : ℕ) → length carried ≤ number
      → (CanCarry old new (drop from entries) (drop number carried) → CanCarry old new entries carried) → CanCarry old new entries carried
  all-found entries carried number from past before =
      before (subst (λ (l : List Provide). CanCarry old new (drop from entries) l) (sym (drop-past carried number past)) (nothing-carried (drop from entries)))
