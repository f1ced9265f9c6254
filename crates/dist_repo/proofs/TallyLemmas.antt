-- What is noted of who offers a name.
use Rattle.std.proofs.Common.{◌≡◌, ◌≢◌, ◌↔◌, ◌⊎◌, ℕ, Bool, true, false, cond, List, [], ◌∷◌, ◌++◌, Some, Option, refl, sym}
use Rattle.std.proofs.Common.{ap, subst, ◌∙◌, inl, inr, nat_cmp, unwrap_or}
use Rattle.std.specs.Prelude.{Contains}
use Rattle.std.specs.BTreeMap.{is_at}
use Rattle.std.specs.Cmp.Lexicographic.{slice_cmp}
use Rattle.std.specs.Map.{lookup}
use Rattle.std.proofs.lemmas.Bool.{false≢true}
use Rattle.std.proofs.lemmas.List.Elements.{Contains-append_left, Contains-push, Contains-push_cases}
use Rattle.std.proofs.lemmas.Map.Text.{is_eq-slice_cmp}
use Rattle.std.proofs.lemmas.Slice.Eq.{bytes_eq-Decides}
use Rattle.dist_repo.specs.TallyPrivate.{offers_at, Notes}
use Rattle.dist_repo.specs.declared.offers.Offer.{Offer}

abbrev Entries : Type 0
Entries = List (List ℕ × List Offer)

abbrev At : List ℕ → List ℕ → Bool
At = λ name. is_at (slice_cmp nat_cmp name)

pub at-same : (name q : List ℕ) → At name q ≡ true → q ≡ name
at-same name q is = sym ((bytes_eq-Decides name q).0 (sym (is_eq-slice_cmp name q) ∙ is))

at-other : (name q : List ℕ) → At name q ≡ false → q ≢ name
at-other name q is same = false≢true (sym is ∙ is_eq-slice_cmp name q ∙ (bytes_eq-Decides name q).1 (sym same))

-- one offer more at the end of some
added : (offers : List Offer) (made offer : Offer) → Contains (offers ++ made ∷ []) offer
    ↔ (Contains offers offer ⊎ ((offer.place ≡ made.place) × (offer.number ≡ made.number)))
added offers made offer = (
  (λ there. elim (Contains-push_cases offers made offer there) [
    | inl h ↦ inl h
    | inr h ↦ inr (ap (λ (o : Offer). o.place) (sym h), ap (λ (o : Offer). o.number) (sym h))
  ]),
  λ either. elim either [
    | inl h ↦ Contains-append_left offers (made ∷ []) offer h
    | inr h ↦
        let same : offer ≡ made = (λ i. record { number = h.1 i; place = h.0 i }) in
        subst (λ (o : Offer). Contains (offers ++ made ∷ []) o) (sym same) (Contains-push offers made)
  ],
)

notes-case : (b : Bool) (t n : Entries) (name q : List ℕ) (made : Offer) (w : List Offer) → At name q ≡ b
    → lookup (At q) n ≡ cond b (Some w) (lookup (At q) t) → w ≡ offers_at t name ++ made ∷ []
    → (offer : Offer) → Contains (offers_at n q) offer
    ↔ (Contains (offers_at t q) offer ⊎ (((q ≡ name) × (offer.place ≡ made.place)) × (offer.number ≡ made.number)))
notes-case true t n name q made w is found now offer =
    let here : q ≡ name = at-same name q is in
    let all : offers_at n q ≡ offers_at t q ++ made ∷ [] = ap (λ (o : Option (List Offer)). unwrap_or o []) found ∙ now
    ∙ ap (λ (x : List ℕ). offers_at t x ++ made ∷ []) (sym here) in
    let In : List Offer → Type 0 = λ xs. Contains xs offer in (
      (λ there. elim ((added (offers_at t q) made offer).0 (subst In all there)) [
        | inl h ↦ inl h
        | inr h ↦ inr ((here, h.0), h.1)
      ]),
      λ either. subst In (sym all) ((added (offers_at t q) made offer).1 (elim either [
        | inl h ↦ inl h
        | inr h ↦ inr (h.0.1, h.1)
      ])),
    )
notes-case false t n name q made w is found now offer =
    let same : offers_at n q ≡ offers_at t q = ap (λ (o : Option (List Offer)). unwrap_or o []) found in
    let In : List Offer → Type 0 = λ xs. Contains xs offer in (
      (λ there. inl (subst In same there)),
      λ either. elim either [
        | inl h ↦ subst In (sym same) h
        | inr h ↦ absurd (at-other name q is h.0.0)
      ],
    )

-- what the map has beside each name, after an offer was added to those of one name
pub notes-updated : (t n : Entries) (name : List ℕ) (made : Offer) (w : List Offer) →
    ((q : List ℕ) → lookup (is_at (slice_cmp nat_cmp q)) n ≡ cond (is_at (slice_cmp nat_cmp name) q) (Some w) (lookup (is_at (slice_cmp nat_cmp q)) t)) →
    w ≡ offers_at t name ++ made ∷ [] → Notes t n name made.number made.place
notes-updated t n name made w updates now q offer = notes-case (At name q) t n name q made w refl (updates q) now offer
