use Rattle.std.proofs.Common.{◌∙◌, ◌==◌, List, ℕ, ap, not, refl, sym}
use Rattle.std.specs.List.{list_all}
use Rattle.std.proofs.lemmas.List.{take_all}
use Rattle.dist_cert.specs.Rising.{is_among}
use Rattle.dist_check_group.specs.KeptPrivate.{true_places}
use Rattle.dist_check_group.proofs.KeptLemmas.{none-of}
use Rattle.dist_check_group.proofs.RuleLemmas.{filter-all, filter-ext, kept-more}
use Rattle.dist_check_group.proofs.kept.clear_all.Goals as goal

pub loop-number-init : goal.loop-number-init
loop-number-init c = record {
  places = refl;
  left = sym (filter-all _ (true_places c.args.row.now) (λ q. refl));
}

pub loop-number-preserved : goal.loop-number-preserved
loop-number-preserved c = record {
  places = c.clear_place.ensures.length ∙ c.loop-number.invariant.places;
  left = c.clear_place.ensures.cleared
      ∙ kept-more (λ number q. not (q == number)) c.args.numbers.now (true_places c.args.row.now) (true_places c.loop-number.row)
      c.loop-number.number-index c.loop-number-test.true c.loop-number.invariant.left;
}

pub returns-clause-cleared : goal.returns-clause-cleared
returns-clause-cleared c =
    let numbers : List ℕ = c.args.numbers.now in
    c.loop-number.invariant.left
    ∙ filter-ext _ (λ q. not (is_among numbers q)) (true_places c.args.row.now)
    (λ q. ap (λ (ns : List ℕ). list_all (λ number. not (q == number)) ns) (take_all c.loop-number.number-index numbers c.loop-number-test.false)
    ∙ none-of numbers q)
