use Rattle.std.proofs.Common.{◌≡◌, ◌+◌, ◌-◌, length, take, drop, arith, length-drop, add-one}
use Rattle.std.proofs.lemmas.List.{take_all}
use Rattle.std.proofs.lemmas.Bool.{eqb-true, eq-eqb}
use Rattle.dist_journal.proofs.WordLemmas.{words-at, words-alone}
use Rattle.dist_journal.proofs.step_line.split_word.Goals as goal

pub returns-in-Some : goal.returns-in-Some
returns-in-Some c =
    let text = c.args.text.now in
    let end = c.in-Some.end in
    let all : take (length text - (end + 1)) (drop (end + 1) text) ≡ drop (end + 1) text = take_all _ _ (omega (arith, length-drop (end + 1) text)) in
    let found = c.in-Some.ensures in
    rw (all, add-one) (words-at text end (omega (arith, found.0.high)) (eqb-true _ _ found.1) (λ j h is. found.0.before j (omega arith) h (eq-eqb _ _ is)))

pub returns-in-None : goal.returns-in-None
returns-in-None c =
    words-alone c.args.text.now (λ j h is. c.in-None.ensures j (omega arith) h (eq-eqb _ _ is))
