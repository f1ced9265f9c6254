-- There are no marks exactly where no claim has one.
use Rattle.std.proofs.Common.{◌≡◌, ◌↔◌, ℕ, ◌+◌, ◌==◌, ◌||◌, Bool, true, false, not, List, [], ◌∷◌, length, refl, ap, ◌∙◌, arith}
use Rattle.std.specs.List.{list_any}
use Rattle.std.proofs.lemmas.Bool.{true≢false, eq-eqb, eqb-true, or_parts}
use Rattle.std.proofs.lemmas.List.Sums.{sum_by-cons}
use Rattle.dist_cert.specs.declared.records.Claim.{Claim}
use Rattle.dist_cert.specs.declared.records.Claim.TheVariants.{Uninstallable, Unknown, Strong, Outdated, Alive, Challenged}
use Rattle.dist_report.specs.Marks.{has_mark}
use Rattle.dist_trial.specs.Summary.{all_marks, has_marks, mark_count, marks_of}

not-false : (b : Bool) → not b ≡ false → b ≡ true
not-false true e = refl
not-false false e = absurd (true≢false e)

no-entry : (n : ℕ) → (n ≡ 0) ↔ (not (n == 0) ≡ false)
no-entry n = (λ e. ap not (eq-eqb n 0 e), λ e. eqb-true n 0 (not-false (n == 0) e))

of-one : (claim : Claim) → (marks_of claim ≡ 0) ↔ (has_mark claim ≡ false)
of-one Uninstallable = (λ e. refl, λ e. refl)
of-one Unknown = (λ e. absurd (omega (arith, e)), λ e. absurd (true≢false e))
of-one (Strong on undecided) = no-entry (length undecided)
of-one Outdated = (λ e. refl, λ e. refl)
of-one Alive = (λ e. refl, λ e. refl)
of-one (Challenged by undecided) = no-entry (length undecided)

pub none : (made : List Claim) → (mark_count made ≡ 0) ↔ (list_any has_mark made ≡ false)
none [] = (λ e. refl, λ e. refl)
none (claim ∷ made) =
    let sum : mark_count (claim ∷ made) ≡ marks_of claim + mark_count made = sum_by-cons marks_of claim made in (
      λ e. ap (λ (b : Bool). b || list_any has_mark made) ((of-one claim).0 (omega (arith, e, sum))) ∙ (none made).0 (omega (arith, e, sum)),
      λ e. (
          let parts = or_parts (has_mark claim) (list_any has_mark made) e in
          omega (arith, sum, (of-one claim).1 parts.0, (none made).1 parts.1)
          ),
    )

pub none-of-three : (strong outdated challenged : List Claim) → (all_marks strong outdated challenged ≡ 0) ↔ (has_marks strong outdated challenged ≡ false)
none-of-three strong outdated challenged =
    let some : Bool = list_any has_mark strong in
    let more : Bool = list_any has_mark outdated in
    let most : Bool = list_any has_mark challenged in (
      λ e. (
          let a : some ≡ false = (none strong).0 (omega (arith, e)) in
          let b : more ≡ false = (none outdated).0 (omega (arith, e)) in
          let d : most ≡ false = (none challenged).0 (omega (arith, e)) in
          ap (λ (x : Bool). x || more || most) a ∙ ap (λ (x : Bool). x || most) b ∙ d
          ),
      λ e. (
          let parts = or_parts (some || more) most e in
          let firsts = or_parts some more parts.0 in
          omega (arith, (none strong).1 firsts.0, (none outdated).1 firsts.1, (none challenged).1 parts.1)
          ),
    )
