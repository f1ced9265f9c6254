use Rattle.std.proofs.Common.{◌≡◌, ◌++◌}
use Rattle.std.specs.Prelude.{codes}
use Rattle.std.specs.List.{join_by}
use Rattle.dist_generate.specs.Draws.{many}
use Rattle.dist_generate.specs.Generator.{item, item_text}
use Rattle.dist_generate.proofs.stanzas.add_items.Given as goal

-- so many items were drawn and stand there
abbrev pub invariant-loop-place : goal.invariant-loop-place
invariant-loop-place l = record {
  text : l.text.items ≡ l.initial.text.items ++ join_by item_text (codes ", ") (many (λ _. item l.number) l.place l.initial.draws.state).0;
  moved : l.draws.state ≡ (many (λ _. item l.number) l.place l.initial.draws.state).1;
}
