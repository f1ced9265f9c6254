use Rattle.std.proofs.Common.{◌∙◌, ◌≤◌, ◌<◌, ◌-◌, List, ℕ, ap, length, map, subst, sym}
use Rattle.std.specs.List.{All}
use Rattle.std.specs.Prelude.{slice_index}
use Rattle.dist_cert.specs.Form.{AreFromOne, ArePairs}
use Rattle.dist_challenge.specs.GroupPrivate.{names_of}
use Rattle.dist_covering.specs.Used.{pair_at}
use Rattle.dist_challenge.proofs.ChallengedLine.{names-from, names-there, pairs-from}
use Rattle.dist_covering.specs.PairLaws.{all-inside}
use Rattle.dist_challenge.proofs.challenged_claimant.challenged_line.Goals as goal

pub pairs_of-requires : goal.pairs_of-requires
pairs_of-requires c =
    subst (λ (xs : List ℕ). All (λ at. (1 ≤ at) × (at ≤ length c.args.space.now.meanings)) xs) (sym c.refuted.ensures)
    (all-inside c.args.space.now (slice_index c.args.space.now.cluster_of (c.args.group.now.claimed - 1)) c.args.group.now.refuted c.requires.refuted)

pub pairs_of-requires-2 : goal.pairs_of-requires-2
pairs_of-requires-2 c =
    subst (λ (xs : List ℕ). All (λ at. (1 ≤ at) × (at ≤ length c.args.space.now.meanings)) xs) (sym c.undecided.ensures)
    (all-inside c.args.space.now (slice_index c.args.space.now.cluster_of (c.args.group.now.claimed - 1)) c.args.group.now.undecided c.requires.undecided)

pub from_zero-requires : goal.from_zero-requires
from_zero-requires c =
    subst ArePairs (sym (c.deref.ensures.value ∙ c.in_ok-refuted.ensures.value ∙ ap (λ (xs : List ℕ). map (pair_at c.args.space.now) xs) c.refuted.ensures))
    (pairs-from c.args.space.now (slice_index c.args.space.now.cluster_of (c.args.group.now.claimed - 1)) c.args.group.now.refuted c.requires.refuted)

pub from_zero-requires-2 : goal.from_zero-requires-2
from_zero-requires-2 c =
    subst ArePairs (sym (c.deref-2.ensures.value ∙ c.in_ok-undecided.ensures.value
    ∙ ap (λ (xs : List ℕ). map (pair_at c.args.space.now) xs) c.undecided.ensures))
    (pairs-from c.args.space.now (slice_index c.args.space.now.cluster_of (c.args.group.now.claimed - 1)) c.args.group.now.undecided c.requires.undecided)

pub returns-clause-form : goal.returns-clause-form
returns-clause-form c =
    let named = sym (c.in_ok-named.ensures ∙ ap (λ (ns : List ℕ). names_of c.args.window.now ns) c.named.ensures) in
    let own : ℕ = slice_index c.args.space.now.cluster_of (c.args.group.now.claimed - 1) in (
      subst (λ (p : ℕ). 1 ≤ p) (sym c.claimed-claimed.ensures) c.requires.from_one,
      subst (λ (ns : List ℕ). 0 < length ns) named (names-there c.args.window.now c.args.group.now.named),
      subst AreFromOne named (names-from c.args.window.now c.args.group.now.named c.requires.some c.requires.named),
      subst ArePairs (sym (c.from_vec-3.ensures ∙ c.in_ok-refuted.ensures.value
          ∙ ap (λ (xs : List ℕ). map (pair_at c.args.space.now) xs) c.refuted.ensures))
          (pairs-from c.args.space.now own c.args.group.now.refuted c.requires.refuted),
      subst ArePairs (sym (c.from_vec-4.ensures ∙ c.in_ok-undecided.ensures.value
          ∙ ap (λ (xs : List ℕ). map (pair_at c.args.space.now) xs) c.undecided.ensures))
          (pairs-from c.args.space.now own c.args.group.now.undecided c.requires.undecided),
    )
