-- The truth values of listed variables.
use Rattle.std.proofs.Common.{◌≡◌, ℕ, ◌+◌, ◌-◌, ◌<◌, Bool, false, List, length, get_or, ap, ◌∙◌, arith}
use Rattle.std.proofs.lemmas.List.{ext_get_or}
use Rattle.dist_subject.specs.TruthLaws.{truth-at, truth-length}
use Rattle.dist_subject.specs.Installed.{AreTrueOf}
use Rattle.dist_subject.specs.Present.{truth_of}
use Rattle.dist_cert.specs.ListLaws.{any-from, both-flags, from-any}
use Rattle.dist_cert.specs.Rising.{is_among}

pub truth-same : (values : List Bool) (variables : List ℕ) → AreTrueOf values variables → truth_of (length values) variables ≡ values
truth-same values variables are =
    ext_get_or false (truth_of (length values) variables) values (truth-length (length values) variables)
    (λ k within. at k (omega (arith, within, truth-length (length values) variables)))
  where
    at : (k : ℕ) → k < length values → get_or (truth_of (length values) variables) k false ≡ get_or values k false
    at k less =
        let here = are (k + 1) (omega arith) (omega arith) in
        let place : (k + 1) - 1 ≡ k = omega arith in
        truth-at (length values) k variables less
        ∙ both-flags (is_among variables (k + 1)) (get_or values ((k + 1) - 1) false) (λ yes. here.0 (from-any (k + 1) variables yes))
        (λ yes. any-from (k + 1) variables (here.1 yes))
        ∙ ap (λ n. get_or values n false) place
