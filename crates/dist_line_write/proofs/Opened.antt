-- The open question of some lines.
use Rattle.std.proofs.Common.{ℕ, List, [], ◌∷◌, ◌++◌, refl, ap, ◌∙◌}
use Rattle.std.proofs.lemmas.Grind.{flat_map-append}
use Rattle.dist_cert.specs.declared.records.CertRecord.{CertRecord}
use Rattle.dist_cert.specs.declared.records.CertRecord.TheVariants.{Question, Derived}
use Rattle.dist_cert.specs.Form.{Word}
use Rattle.dist_cert.specs.Groups.{installed_in}
use Rattle.dist_cert.specs.GroupLaws.{opened, still-open}
use Rattle.dist_cert.specs.Part.{IsAsking}

-- a question that was just opened
pub asking-first : (before : List CertRecord) (question : List Word) → IsAsking (before ++ Question question ∷ []) question []
asking-first before question = record {
  earlier = before;
  opened = opened before question;
  no_installation = refl;
}

-- with a derived line more
pub asking-more : (before : List CertRecord) (question : List Word) (since : List CertRecord) (literals : List Word) (hints : List ℕ)
    → IsAsking before question since
    → IsAsking (before ++ Derived literals hints ∷ []) question (since ++ Derived literals hints ∷ [])
asking-more before question since literals hints asking = record {
  earlier = asking.earlier;
  opened = still-open before (Derived literals hints) asking.earlier question since refl asking.opened;
  no_installation = flat_map-append installed_in since (Derived literals hints ∷ []) ∙ ap (λ (ms : List (List ℕ)). ms ++ []) asking.no_installation;
}
