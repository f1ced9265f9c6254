use Rattle.std.proofs.Common.{◌≡◌}
use Rattle.std.specs.List.{flat_map}
use Rattle.dist_generate.specs.Draws.{many}
use Rattle.dist_generate.specs.Generator.{drawn, stanza_text}
use Rattle.dist_generate.proofs.stanzas.generate.Given as goal

-- so many packages were drawn and stand there
abbrev pub invariant-loop-number : goal.invariant-loop-number
invariant-loop-number l = record {
  text : l.text.items ≡ flat_map stanza_text (many drawn l.number l.seed).0;
  moved : l.draws.state ≡ (many drawn l.number l.seed).1;
}
