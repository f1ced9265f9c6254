-- The part of the report that tells the impacts.
use Rattle.std.proofs.Common.{◌≡◌, ℕ, ◌<◌, List, [], ◌++◌, codes, length, get_or, sym, ap, subst, ◌∙◌, arith}
use Rattle.std.specs.Prelude.{◌==◌, All, filter}
use Rattle.std.specs.List.{range_with_len}
use Rattle.std.proofs.lemmas.List.{get_or_default}
use Rattle.dist_cert.specs.Rising.{is_among}
use Rattle.dist_cert.specs.declared.records.Claim.{Claim}
use Rattle.dist_repo.specs.declared.package.Package.{Package}
use Rattle.dist_report.specs.Lines.{key_line, listed}
use Rattle.dist_report.specs.ClaimParts.{has_some, strong_on}
use Rattle.dist_report.specs.StrongReport.{entry_lines, impact_at, with_impact}
use Rattle.dist_report.proofs.PickedLemmas.{claimed-within, lines-same-within, picked-same, picked-within}

module _ (made : List Claim) (n : ℕ) (lists : List (List ℕ)) (long : length made ≡ n) (each : (q : ℕ) → q < n → get_or lists q [] ≡ impact_at made q) where
  pub turned-within : length lists ≡ n → All (λ list. All (λ p. p < n) list) lists
  turned-within same k d short =
      let Lower : List ℕ → Type 0 = λ list. All (λ p. p < n) list in
      let End : ℕ → Type 0 = λ end. All (λ p. p < end) (impact_at made k) in
      let is = each k (omega (arith, short, same)) in
      subst Lower (sym (get_or_default lists k d [] short ∙ is)) (subst End long (claimed-within (λ claim. is_among (strong_on claim) k) made))

  pub with-within : All (λ q. q < n) (with_impact made)
  with-within =
      let End : ℕ → Type 0 = λ end. All (λ q. q < end) (with_impact made) in
      subst End long (picked-within (λ q. has_some (impact_at made q)) (length made))

  pub with-is : filter (λ q. has_some (get_or lists q [])) (range_with_len 0 n) ≡ with_impact made
  with-is =
      picked-same (λ q. has_some (get_or lists q [])) (λ q. has_some (impact_at made q)) n (λ k short. ap has_some (each k short))
      ∙ ap (λ (end : ℕ). filter (λ q. has_some (impact_at made q)) (range_with_len 0 end)) (sym long)

  pub impact-lines : (packages : List Package) → listed (codes "impact:") (λ q. entry_lines packages (codes "    of:") q (get_or lists q [])) (with_impact made)
      ≡ listed (codes "impact:") (λ q. entry_lines packages (codes "    of:") q (impact_at made q)) (with_impact made)
  impact-lines packages =
      let old : ℕ → List ℕ = λ q. entry_lines packages (codes "    of:") q (get_or lists q []) in
      let new : ℕ → List ℕ = λ q. entry_lines packages (codes "    of:") q (impact_at made q) in
      ap (λ (t : List ℕ). key_line (codes "impact:") (length (with_impact made) == 0) ++ t)
      (lines-same-within old new n (with_impact made) (λ k short. ap (λ (list : List ℕ). entry_lines packages (codes "    of:") k list) (each k short))
      with-within)
