use Rattle.std.proofs.Common.{◌≡◌, ◌+◌, ◌-◌, length, take, drop, arith, length-drop, add-one}
use Rattle.std.proofs.lemmas.List.{take_all}
use Rattle.std.proofs.lemmas.Bool.{eqb-true, eq-eqb}
use Rattle.dist_control.proofs.LineLemmas.{lines-at, lines-alone}
use Rattle.dist_control.proofs.line.split_line.Goals as goal

pub returns-in-Some-clause-lines : goal.returns-in-Some-clause-lines
returns-in-Some-clause-lines c =
    let bytes = c.args.bytes.now in
    let end = c.in-Some.end in
    let all : take (length bytes - (end + 1)) (drop (end + 1) bytes) ≡ drop (end + 1) bytes = take_all _ _ (omega (arith, length-drop (end + 1) bytes)) in
    let found = c.in-Some.ensures in
    rw (all, add-one) (lines-at bytes end (omega (arith, found.0.high)) (eqb-true _ _ found.1) (λ j h is. found.0.before j (omega arith) h (eq-eqb _ _ is)))

pub returns-in-None-clause-lines : goal.returns-in-None-clause-lines
returns-in-None-clause-lines c =
    lines-alone c.args.bytes.now c.requires (λ j h is. c.in-None.ensures j (omega arith) h (eq-eqb _ _ is))
