use Rattle.std.proofs.Common.{◌+◌, sym, ap, ◌∙◌, option_map}
use Rattle.std.proofs.lemmas.List.{take_rest}
use Rattle.dist_version.specs.CutLaws.{sides, rsplit_once-last}
use Rattle.dist_version.proofs.reading.rsplit_once.Goals as goal

pub returns-in_err-at : goal.returns-in_err-at
returns-in_err-at c =
    let hay = c.args.bytes.now in
    rw c.from_residual.ensures (sym (rsplit_once-last c.args.byte hay c.memrchr.result c.memrchr.ensures ∙ ap (λ r. option_map (sides hay) r) c.in_err-at.was))

pub returns : goal.returns
returns c =
    let hay = c.args.bytes.now in
    rw (take_rest hay (c.in_ok-at.at + 1)) (sym (rsplit_once-last c.args.byte hay c.memrchr.result c.memrchr.ensures
    ∙ ap (λ r. option_map (sides hay) r) c.in_ok-at.was))
