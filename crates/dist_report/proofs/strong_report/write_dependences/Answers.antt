use Rattle.std.proofs.Common.{◌<◌, ℕ, List, ◌++◌, codes, length, sym, ap, subst, ◌∙◌}
use Rattle.std.specs.Prelude.{All}
use Rattle.dist_report.specs.ClaimPartsPrivate.{is_part, list_at}
use Rattle.dist_report.specs.Lines.{listed}
use Rattle.dist_report.specs.StrongReport.{entry_lines}
use Rattle.dist_report.specs.declared.claim_parts.Part.TheVariants.{With}
use Rattle.dist_report.proofs.PickedLemmas.{claimed-within}
use Rattle.dist_report.proofs.strong_report.write_dependences.Goals as goal

pub write_lists-requires : goal.write_lists-requires
write_lists-requires c =
    let Within : List ℕ → Type 0 = λ list. All (λ p. p < length c.args.claims.now) list in
    let within : Within c.deref.result.now = subst Within (sym (c.deref.ensures.value ∙ c.in_ok-numbers.ensures))
    (claimed-within (is_part (With c.args.kind)) c.args.claims.now) in
    record { within = within }

pub returns : goal.returns
returns c =
    let packages = c.args.labels.now.packages in
    let lines : ℕ → List ℕ = λ p. entry_lines packages (codes "    on:") p (list_at c.args.kind c.args.claims.now p) in
    c.in_ok-write_lists.ensures
    ∙ ap (λ (list : List ℕ). c.args.out.now.items ++ listed c.args.key.now lines list) (c.deref.ensures.value ∙ c.in_ok-numbers.ensures)
