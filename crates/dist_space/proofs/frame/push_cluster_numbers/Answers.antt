use Rattle.std.proofs.Common.{◌≡◌, ℕ, ◌+◌, length, arith, subst, sym, ap, ◌∙◌, List}
use Rattle.std.proofs.lemmas.List.{length_push}
use Rattle.dist_space.proofs.FrameLemmas.{AreNumbers, numbers-all, numbers-more}
use Rattle.dist_space.proofs.frame.push_cluster_numbers.Goals as goal

pub loop-member-init : goal.loop-member-init
loop-member-init c = record { counted = ap length c.requires.none; are = λ d m short. absurd (omega (arith, short)) }

pub loop-member-preserved : goal.loop-member-preserved
loop-member-preserved c =
    let clusters = c.args.clusters.now.members in
    let numbers = c.loop-member.numbers.items in
    record {
      counted = ap length c.in_ok-push.ensures.items ∙ length_push numbers c.cluster_of.result ∙ ap (λ (n : ℕ). n + 1) c.loop-member.invariant.counted;
      are = subst (λ (xs : List ℕ). AreNumbers clusters xs (c.loop-member.member + 1)) (sym c.in_ok-push.ensures.items)
          (numbers-more clusters numbers c.loop-member.member c.cluster_of.result c.loop-member.invariant.counted c.loop-member.invariant.are
          c.cluster_of.ensures);
    }

pub returns : goal.returns
returns c =
    let whole : c.loop-member.member ≡ c.args.packages = omega arith in
    numbers-all c.args.clusters.now.members c.loop-member.numbers.items c.args.packages (c.loop-member.invariant.counted ∙ whole) c.requires.within
    (subst (AreNumbers c.args.clusters.now.members c.loop-member.numbers.items) whole c.loop-member.invariant.are)
