use Rattle.std.proofs.Common.{◌≡◌, ◌<◌, ◌++◌, List, ℕ, length, append_assoc, sym, ap, ◌∙◌, subst}
use Rattle.std.specs.Char.{is_ascii_digit}
use Rattle.std.specs.Str.Parse.{digits_value}
use Rattle.dist_version.specs.Order.{text_start, weights_of}
use Rattle.dist_version.proofs.Density.{Halts, after_turn-halts}
use Rattle.dist_version.proofs.Shortest.{respelled, still_halts}
use Rattle.dist_version.proofs.Steps.{some_bytes}
use Rattle.dist_version.proofs.kept.with_shortest_numbers.Goals as goal

pub loop-rest-preserved : goal.loop-rest-preserved
loop-rest-preserved c = λ x same halts.
    let rest = c.loop-rest.rest.now in
    let ds = c.shortest_digits.result.now in
    let turn = c.next_turn-turn.ensures in
    let some : 0 < length rest = some_bytes rest c.loop-rest-test.ensures in
    let stops : Halts is_ascii_digit x = halts (subst (Halts is_ascii_digit) (sym turn.rest) (after_turn-halts rest)) in
    let weights = respelled rest ds x some c.shortest_digits.ensures.digits (c.shortest_digits.ensures.value ∙ ap (digits_value 10) turn.digits)
    (λ more. c.shortest_digits.ensures.some (subst (λ (s : List ℕ). 0 < length s) (sym turn.digits) more)) (same ∙ ap weights_of turn.rest) stops in
    let written : c.extend_from_slice-in-loop-rest.new.self.items ≡ (c.loop-rest.shortest.items ++ text_start rest) ++ ds =
    c.in_ok-extend_from_slice-2.ensures.items ∙ ap (λ (s : List ℕ). s ++ ds)
    (c.in_ok-extend_from_slice.ensures.items ∙ ap (λ (s : List ℕ). c.loop-rest.shortest.items ++ s) turn.text) in
    let regrouped : ((c.loop-rest.shortest.items ++ text_start rest) ++ ds) ++ x ≡ c.loop-rest.shortest.items ++ (text_start rest ++ (ds ++ x)) =
    simp append_assoc in
    ap weights_of (ap (λ (s : List ℕ). s ++ x) written ∙ regrouped)
    ∙ c.loop-rest.invariant (text_start rest ++ (ds ++ x)) weights (still_halts rest (ds ++ x) some)
