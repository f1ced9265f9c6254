-- One more piece behind joined ones.
use Rattle.std.proofs.Common.{◌≡◌, ℕ, ◌<◌, List, [], ◌∷◌, ◌++◌, append_assoc, append-nil, length, refl, ap, sym, ◌∙◌, arith}
use Rattle.std.specs.List.{flat_map, join_by}
use Rattle.std.proofs.lemmas.List.Concat.{flat_map-append}

module _ {X : Type 0} (f : X → List ℕ) (between : List ℕ) where
  join-first : (xs : List X) (x : X) → length xs ≡ 0 → join_by f between (xs ++ x ∷ []) ≡ f x
  join-first [] x none = append-nil (f x)
  join-first (y ∷ xs) x none = absurd (omega arith)

  join-more : (xs : List X) (x : X) → 0 < length xs → join_by f between (xs ++ x ∷ []) ≡ join_by f between xs ++ (between ++ f x)
  join-more [] x some = absurd (omega arith)
  join-more (y ∷ xs) x some =
      ap (λ (t : List ℕ). f y ++ t) (
      flat_map-append (λ z. between ++ f z) xs (x ∷ [])
      ∙ ap (λ (t : List ℕ). flat_map (λ z. between ++ f z) xs ++ t) (append-nil (between ++ f x))
      ) ∙ sym (append_assoc (f y) (flat_map (λ z. between ++ f z) xs) (between ++ f x))

  join-none : (xs : List X) → length xs ≡ 0 → join_by f between xs ≡ []
  join-none [] none = refl
  join-none (x ∷ xs) none = absurd (omega arith)

  -- one more, behind what was added before it
  pub joined-first : (old text new : List ℕ) (xs : List X) (x : X) → length xs ≡ 0 → text ≡ old ++ join_by f between xs → new ≡ text ++ f x →
      new ≡ old ++ join_by f between (xs ++ x ∷ [])
  joined-first old text new xs x none before here =
      here
      ∙ ap (λ (t : List ℕ). t ++ f x) (before ∙ ap (λ (t : List ℕ). old ++ t) (join-none xs none) ∙ append-nil old)
      ∙ ap (λ (t : List ℕ). old ++ t) (sym (join-first xs x none))

  pub joined-more : (old text mid new : List ℕ) (xs : List X) (x : X) → 0 < length xs → text ≡ old ++ join_by f between xs → mid ≡ text ++ between
      → new ≡ mid ++ f x →
      new ≡ old ++ join_by f between (xs ++ x ∷ [])
  joined-more old text mid new xs x some before gap here =
      here
      ∙ ap (λ (t : List ℕ). t ++ f x) gap
      ∙ append_assoc text between (f x)
      ∙ ap (λ (t : List ℕ). t ++ (between ++ f x)) before
      ∙ append_assoc old (join_by f between xs) (between ++ f x)
      ∙ ap (λ (t : List ℕ). old ++ t) (sym (join-more xs x some))
