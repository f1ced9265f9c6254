use Rattle.std.proofs.Common.{ℕ, ◌+◌, Option, refl, subst, sym}
use Rattle.std.proofs.lemmas.Bool.{false≢true}
use Rattle.dist_base.specs.Least.{IsLeastIfAny}
use Rattle.dist_now.proofs.AddsLemmas.{UpTo}
use Rattle.dist_now.proofs.MatchedLemmas.{matched-within, offer_at, offer-is}
use Rattle.dist_now.proofs.RejectedLemmas.{IsOfferedAt, least-none, least-some, offered-all, offered-not, offered-one}
use Rattle.dist_now.proofs.conflicts.rejected_offer.Goals.{then-is_other_member, else-is_other_member}
use Rattle.dist_now.proofs.conflicts.rejected_offer.Goals as goal

pub is_other_member-requires-clause-other : goal.is_other_member-requires-clause-other
is_other_member-requires-clause-other c =
    let offers = c.args.offers.now in
    let i = c.loop-offer.offer-index in
    matched-within c.args.repo.now c.args.atom.now offers c.requires.matched i (offer_at offers i) (offer-is offers i c.loop-offer-test.true)

pub loop-offer-preserved : goal.loop-offer-preserved
loop-offer-preserved c =
    let repo = c.args.repo.now in
    let members = c.args.members.now in
    let number = c.args.number in
    let atom = c.args.atom.now in
    let offers = c.args.offers.now in
    let i = c.loop-offer.offer-index in
    let offer = offer_at offers i in
    let is = offer-is offers i c.loop-offer-test.true in
    let P = IsOfferedAt repo members number atom offers in
    let Of : Option ℕ → Type 0 = IsLeastIfAny (UpTo P (i + 1)) in
    elim c.if-is_other_member.branch [
      | then-is_other_member w ↦ subst Of (sym w.least-is)
          (least-some P i c.loop-offer.least offer.number w.lesser.result c.loop-offer.invariant
          (offered-one repo members number atom offers c.requires.matched i offer is (w.if-is_other_member.ensures.0 refl))
          w.lesser.ensures.one w.lesser.ensures.at_most_other w.lesser.ensures.at_most_least)
      | else-is_other_member w ↦ subst Of (sym w.least-is)
          (least-none P i c.loop-offer.least c.loop-offer.invariant
          (offered-not repo members number atom offers i offer is (λ other. false≢true (w.if-is_other_member.ensures.1 other))))
    ]

pub returns : goal.returns
returns c =
    offered-all c.args.repo.now c.args.members.now c.args.number c.args.atom.now c.args.offers.now c.requires.matched c.loop-offer.offer-index
    c.loop-offer.least c.loop-offer-test.false c.loop-offer.invariant
