use Rattle.std.proofs.Common.{◌<◌, inl, inr}
use Rattle.std.proofs.lemmas.Bool.{cases_lt}
use Rattle.std.proofs.lemmas.List.Elements.{All-from_get_or}
use Rattle.dist_report.proofs.ExplainedLemmas.{not-among}
use Rattle.dist_report.proofs.explained_lines.has_number.Goals as goal

pub returns-in-Err : goal.returns-in-Err
returns-in-Err c = not-among c.args.numbers.now c.args.number 4294967296
    (All-from_get_or (λ n. n < 4294967296) c.args.numbers.now 0 (λ i short. (c.type_inv.numbers i).fits))
    (elim (cases_lt c.args.number 4294967296) [
      | inl less ↦ absurd (c.in-Err.ensures less)
      | inr past ↦ past
    ])
