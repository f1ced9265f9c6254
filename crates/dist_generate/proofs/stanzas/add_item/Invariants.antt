use Rattle.std.proofs.Common.{◌≡◌, ◌++◌}
use Rattle.dist_generate.specs.Draws.{many}
use Rattle.dist_generate.specs.Generator.{alternative, item_text}
use Rattle.dist_generate.proofs.stanzas.add_item.Given as goal

-- so many alternatives were drawn and stand there
abbrev pub invariant-loop-place : goal.invariant-loop-place
invariant-loop-place l = record {
  text : l.text.items ≡ l.initial.text.items ++ item_text (many (λ _. alternative l.number) l.place l.initial.draws.state).0;
  moved : l.draws.state ≡ (many (λ _. alternative l.number) l.place l.initial.draws.state).1;
}
