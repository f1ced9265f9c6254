use Rattle.std.proofs.Common.{◌≡◌, List, ℕ, [], nat_cmp, get_or, sym, ap, ◌∙◌}
use Rattle.std.specs.Cmp.Lexicographic.{slice_cmp}
use Rattle.std.specs.Ordering.{is_lt}
use Rattle.std.proofs.lemmas.Option.{get_or_from_slice_get}
use Rattle.dist_space.proofs.Variables.{less-is}
use Rattle.dist_space.proofs.place.name_stands_before.Goals as goal

pub returns : goal.returns
returns c =
    let here : c.bytes.result.now ≡ get_or c.args.names.now c.args.place [] = c.bytes.ensures.value
    ∙ sym (get_or_from_slice_get c.args.names.now c.args.place c.get.result.now [] c.get.ensures) in
    let compared : c.is_lt.result ≡ is_lt (slice_cmp nat_cmp (get_or c.args.names.now c.args.place []) c.args.name.now) =
    c.is_lt.ensures ∙ ap is_lt c.cmp.ensures ∙ ap (λ (n : List ℕ). is_lt (slice_cmp nat_cmp n c.bytes-2.result.now)) here
    ∙ ap (λ (n : List ℕ). is_lt (slice_cmp nat_cmp (get_or c.args.names.now c.args.place []) n)) c.bytes-2.ensures.value in
    ((λ holds. less-is (slice_cmp nat_cmp (get_or c.args.names.now c.args.place []) c.args.name.now) (sym compared ∙ holds)), λ less. compared ∙ ap is_lt less)
