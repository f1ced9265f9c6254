use Rattle.std.proofs.Common.{◌≡◌, ◌∙◌, ◌==◌, ◌&&◌, ◌||◌, [], ◌∷◌, Bool, false, true, List, Some, ℕ, ap, not, refl, slice_get, sym}
use Rattle.std.proofs.lemmas.Bool.{eq-eqb, eqb-true}
use Rattle.std.proofs.lemmas.Option.{same_Some}
use Rattle.dist_cert.specs.Rising.{is_among}
use Rattle.dist_check_group.proofs.RuleLemmas.{among-filter}
use Rattle.dist_check_group.proofs.held.leave_out_all.Goals as goal

-- the first of some numbers is one of them
head-among : (numbers : List ℕ) (first : ℕ) → Some first ≡ slice_get numbers 0 → is_among numbers first ≡ true
head-among [] first is = cc
head-among (x ∷ xs) first is = ap (λ (b : Bool). b || is_among xs first) (eq-eqb first x (same_Some first x is))

without-first : (numbers : List ℕ) (first v : ℕ) → is_among numbers first ≡ true → (not (v == first) && not (is_among numbers v)) ≡ not (is_among numbers v)
without-first numbers first v there = at (v == first) refl
  where
    at : (b : Bool) → (v == first) ≡ b → (not b && not (is_among numbers v)) ≡ not (is_among numbers v)
    at true same = sym (ap (λ (b : Bool). not b) (ap (is_among numbers) (eqb-true v first same) ∙ there))
    at false other = refl

pub returns-in-Some : goal.returns-in-Some
returns-in-Some c = λ v.
    let numbers : List ℕ = c.args.numbers.now in
    let first : ℕ = c.in-Some.first.now in
    ap (λ (ns : List ℕ). is_among ns v) c.leave_out.ensures
    ∙ among-filter (λ q. not (q == first) && not (is_among numbers q)) c.args.wanted.now v
    ∙ ap (λ (b : Bool). is_among c.args.wanted.now v && b) (without-first numbers first v (head-among numbers first c.in-Some.ensures.value))
