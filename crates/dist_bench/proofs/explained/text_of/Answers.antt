use Rattle.std.proofs.Common.{◌≡◌, ◌∙◌, ◌++◌, ℕ, codes, ap}
use Rattle.dist_bench.specs.Counted.{counted}
use Rattle.dist_bench.specs.Explained.{explained_text}
use Rattle.dist_bench.specs.declared.explained.ExplainCounts.{ExplainCounts}
use Rattle.dist_bench.proofs.explained.text_of.Goals as goal

counts-told : (counts : ExplainCounts) (explained relations others : ℕ) → explained ≡ counts.explained → relations ≡ counts.relations
    → others ≡ counts.others
    → (counted explained (codes " explained, ") ++ counted relations (codes " relations, ")) ++ counted others (codes " others\n")
    ≡ explained_text counts
counts-told counts explained relations others a b d = cc

pub returns : goal.returns
returns c =
    c.in_ok-add_counted-2.ensures ∙ ap (λ t. t ++ counted c.from-3.result (codes " others\n"))
    (c.in_ok-add_counted.ensures ∙ ap (λ t. t ++ counted c.from-2.result (codes " relations, ")) c.in_ok-text.ensures)
    ∙ counts-told c.args.counts c.from.result c.from-2.result c.from-3.result c.from.ensures c.from-2.ensures c.from-3.ensures
