use Rattle.std.proofs.Common.{◌≡◌, ◌+◌, ◌-◌, ◌<◌, ℕ, List, length, get_or, take, drop, reverse, sym, ap, ◌∙◌, arith}
use Rattle.std.proofs.lemmas.Bool.{both_ways}
use Rattle.std.proofs.lemmas.List.{take_rest, get_or-drop, length-drop}
use Rattle.dist_base.specs.Ascii.{is_white}
use Rattle.dist_control.specs.Fields.{trim_start}
use Rattle.dist_control.proofs.TrimLemmas.{not_white, white, trim_start-at, trim_start-all, trim_end-at}
use Rattle.dist_control.proofs.field.without_white_ends.Goals as goal

pub returns-in_default : goal.returns-in_default
returns-in_default c =
    sym (ap (λ (t : List ℕ). reverse (trim_start (reverse t))) (trim_start-all c.args.text.now (λ j h. white _ (c.in_default.ensures j (omega arith) h))))

pub returns-in-Some-rfind_not_byteset : goal.returns-in-Some-rfind_not_byteset
returns-in-Some-rfind_not_byteset c =
    let text = c.args.text.now in
    let left = take (length text - c.in-Some.first) (drop c.in-Some.first text) in
    let found = c.in-Some.ensures in
    let front : trim_start text ≡ left =
    trim_start-at text c.in-Some.first found.0.high (λ j h. white _ (found.0.before j (omega arith) h)) (not_white _ found.1)
    ∙ sym (take_rest text c.in-Some.first) in
    let last = c.in-Some-rfind_not_byteset.ensures in
    let end : reverse (trim_start (reverse left)) ≡ take (c.in-Some-rfind_not_byteset.last + 1) left =
    trim_end-at left c.in-Some-rfind_not_byteset.last last.0.high (λ j h k. white _ (last.0.after j (omega arith) k)) (not_white _ last.1) in
    sym (ap (λ (t : List ℕ). reverse (trim_start (reverse t))) front ∙ end)

pub returns-in-None : goal.returns-in-None
returns-in-None c =
    let text = c.args.text.now in
    let k = c.in-Some.first in
    let left = take (length text - k) (drop k text) in
    let found = c.in-Some.ensures in
    let same : left ≡ drop k text = take_rest text k in
    let long : 0 < length left = omega (arith, ap length same, length-drop k text, found.0.high) in
    let first : get_or left 0 0 ≡ get_or text k 0 = ap (λ (t : List ℕ). get_or t 0 0) same ∙ get_or-drop k text 0 0
    ∙ ap (λ n. get_or text n 0) (let e : k + 0 ≡ k = omega arith in e) in
    absurd (both_ways (is_white (get_or left 0 0)) (ap is_white first ∙ not_white _ found.1) (white _ (c.in-None.ensures 0 (omega arith) long)))
