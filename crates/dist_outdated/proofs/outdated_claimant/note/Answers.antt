use Rattle.std.proofs.Common.{◌+◌, ◌<◌, arith, length, refl}
use Rattle.dist_outdated.proofs.LatestSteps.{none-noted, noted-more, noted-next}
use Rattle.dist_outdated.proofs.outdated_claimant.note.Goals as goal

pub members-init : goal.members-init
members-init c =
    let held = c.next_held-member.ensures in
    record {
      within = held.within;
      noted = noted-next c.args.space.now 0 c.next_held-member.result c.args.values.now c.args.number c.args.latest.now c.args.latest.now held
          (none-noted c.args.space.now c.args.values.now c.args.number c.args.latest.now);
      holds = held.holds;
    }

pub members-preserved : goal.members-preserved
members-preserved c =
    let held = c.next_held-member-in-members.ensures in
    let before = c.members.invariant in
    let short : c.members.member < length c.args.space.now.repository.packages = omega (arith, c.members-test.true, c.package_count-packages.ensures) in
    record {
      within = held.within;
      noted = noted-next c.args.space.now (c.members.member + 1) c.next_held-member-in-members.result c.args.values.now c.args.number c.args.latest.now _ held
          (noted-more c.args.space.now c.members.member c.args.values.now c.args.number c.args.latest.now c.members.latest _
          (omega (arith, short, before.noted.size, c.requires.latest)) refl (before.holds short) before.noted);
      holds = held.holds;
    }
