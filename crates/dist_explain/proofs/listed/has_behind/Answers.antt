use Rattle.std.proofs.Common.{◌+◌, ◌<◌, ◌∙◌, ap, inl, inr}
use Rattle.std.proofs.lemmas.Bool.{cases_lt, false≢true}
use Rattle.std.proofs.lemmas.List.Elements.{All-from_get_or}
use Rattle.dist_cert.specs.Rising.{is_among}
use Rattle.dist_explain.proofs.ListedLemmas.{among-contains, beyond}
use Rattle.dist_explain.proofs.listed.has_behind.Goals as goal

pub returns-in-Some : goal.returns-in-Some
returns-in-Some c = among-contains c.has.result c.args.list.now (c.args.offset + c.args.number)
    (c.has.ensures ∙ ap (is_among c.args.list.now) c.in-Some.ensures.1)

pub returns-in-None : goal.returns-in-None
returns-in-None c = (
  (λ no. absurd (false≢true no)),
  (λ there. absurd (beyond c.args.list.now (c.args.offset + c.args.number) 4294967296
      (All-from_get_or (λ n. n < 4294967296) c.args.list.now 0 (λ i short. (c.type_inv.list i).fits))
      (elim (cases_lt (c.args.offset + c.args.number) 4294967296) [
        | inl less ↦ absurd (c.in-None.ensures less)
        | inr past ↦ past
      ]) there)),
)
