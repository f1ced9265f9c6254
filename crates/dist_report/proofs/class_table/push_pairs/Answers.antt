use Rattle.std.proofs.Common.{◌≡◌, ◌++◌, ◌∷◌, [], ℕ, List, append-nil, append_assoc, length, map, sym, ap, ◌∙◌, arith, ◌+◌}
use Rattle.std.specs.List.{range_with_len}
use Rattle.std.proofs.lemmas.List.{length_push}
use Rattle.std.proofs.lemmas.List.FromFn.{map-range_with_len_more}
use Rattle.dist_report.proofs.class_table.push_pairs.Goals as goal

pub loop-class-init : goal.loop-class-init
loop-class-init c = record { pairs = sym (append-nil c.args.pairs.now.items); long = omega arith; few = c.requires }

pub overflow_cast-class : goal.overflow_cast-class
overflow_cast-class c = omega (arith, c.loop-class.pairs.ok.0, c.loop-class.invariant.long)

pub loop-class-preserved : goal.loop-class-preserved
loop-class-preserved c =
    let old = c.args.pairs.now.items in
    let n = c.loop-class.class in
    let pair : ℕ → ℕ × ℕ = λ k. (c.args.cluster, k) in
    let long : length c.push.new.self.items ≡ length c.loop-class.pairs.items + 1 =
    ap length c.in_ok-push.ensures.items ∙ length_push c.loop-class.pairs.items (pair n) in
    record {
      pairs = c.in_ok-push.ensures.items ∙ ap (λ (l : List (ℕ × ℕ)). l ++ pair n ∷ []) c.loop-class.invariant.pairs
          ∙ append_assoc old (map pair (range_with_len 0 n)) (pair n ∷ [])
          ∙ ap (λ (l : List (ℕ × ℕ)). old ++ l) (sym (map-range_with_len_more pair 0 n n (omega arith)));
      long = omega (arith, long, c.loop-class.invariant.long);
      few = omega (arith, long, c.loop-class.pairs.ok.0);
    }

pub returns-clause-pairs : goal.returns-clause-pairs
returns-clause-pairs c =
    let end : c.loop-class.class ≡ c.args.count = omega arith in
    let pair : ℕ → ℕ × ℕ = λ k. (c.args.cluster, k) in
    c.loop-class.invariant.pairs ∙ ap (λ (n : ℕ). c.args.pairs.now.items ++ map pair (range_with_len 0 n)) end
