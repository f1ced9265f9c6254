use Rattle.std.proofs.Common.{◌+◌, ap, ◌∙◌, option_map}
use Rattle.std.proofs.lemmas.List.{take_rest}
use Rattle.std.proofs.lemmas.Result.{IfOk-weaker}
use Rattle.dist_version.specs.CutLaws.{sides, split_once-first}
use Rattle.dist_list.specs.NamedPackage.{equals_sign}
use Rattle.dist_list.proofs.NamedLemmas.{named-is, none-named}
use Rattle.dist_list.proofs.named.package_named.Goals as goal

pub returns-in-Some : goal.returns-in-Some
returns-in-Some c =
    let text = c.args.text.now in
    IfOk-weaker c.package_of.result _ _ (λ found is. named-is c.args.repository.now.packages text _ _ found
    (split_once-first equals_sign text c.memchr.result c.memchr.ensures ∙ ap (option_map (sides text)) c.in-Some.is) is)
    (rw (take_rest text (c.in-Some.at + 1)) at c.package_of.ensures)

pub returns-in-None : goal.returns-in-None
returns-in-None c =
    let text = c.args.text.now in
    none-named c.args.repository.now.packages text
    (split_once-first equals_sign text c.memchr.result c.memchr.ensures ∙ ap (option_map (sides text)) c.in-None.is)
