use Rattle.std.proofs.Common.{◌≡◌, ◌∙◌, ◌++◌, ◌∷◌, ◌≤◌, [], Bool, List, ℕ, ap, arith, filter, length, subst, sym}
use Rattle.std.specs.List.{range_with_len}
use Rattle.dist_lanes.specs.Rows.{value_at}
use Rattle.dist_cert.specs.Rising.{AreRising}
use Rattle.dist_check_group.specs.KeptPrivate.{true_places}
use Rattle.dist_check_group.proofs.KeptLemmas.{places-end, places-next, true-rising}
use Rattle.dist_check_group.proofs.kept.true_places.Goals as goal

pub places-preserved-in-Some : goal.places-preserved-in-Some
places-preserved-in-Some c =
    let some = c.in-Some.ensures.some in
    record {
      within = omega (arith, some.1);
      found = c.in_ok-push-in-Some.ensures.items ∙ ap (λ (ns : List ℕ). ns ++ c.in-Some.place ∷ []) c.places.invariant.found
          ∙ sym (places-next c.args.row.now c.places.from c.in-Some.place some.0 some.3 some.2);
    }

pub places-preserved : goal.places-preserved
places-preserved c =
    let end : c.len-from.result ≡ length c.args.row.now = c.len-from.ensures in
    record {
      within = omega (arith, end);
      found = c.places.invariant.found ∙ sym (places-end c.args.row.now c.places.from c.len-from.result (omega (arith, end, c.places.invariant.within))
          c.in-None.ensures.none);
    }

whole : (row : List Bool) (from end : ℕ) → from ≤ length row → end ≡ length row → end ≤ from
    → filter (value_at row) (range_with_len 0 from) ≡ true_places row
whole row from end within is past = ap (λ n. filter (value_at row) (range_with_len 0 n)) (omega (arith, within, is, past))

pub returns-clause-value : goal.returns-clause-value
returns-clause-value c =
    c.places.invariant.found
    ∙ whole c.args.row.now c.places.from c.len.result c.places.invariant.within c.len.ensures c.places-test.false

pub returns-clause-rising : goal.returns-clause-rising
returns-clause-rising c = subst AreRising (sym (c.places.invariant.found
    ∙ whole c.args.row.now c.places.from c.len.result c.places.invariant.within c.len.ensures c.places-test.false)) (true-rising c.args.row.now)
