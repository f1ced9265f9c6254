use Rattle.std.proofs.Common.{◌≡◌, ◌<◌, List, [], length, ap, arith}
use Rattle.std.proofs.lemmas.Result.{on_ok_weaker}
use Rattle.dist_relation.specs.declared.atom.Atom.{Atom}
use Rattle.dist_relation.proofs.Canon.{canonical_reads}
use Rattle.dist_relation.proofs.printing.print_alternatives.Goals as goal

some_atom : (atoms : List Atom) → 0 < length atoms → atoms ≡ [] → ⊥
some_atom atoms long e = omega (arith, long, ap length e)

pub returns-else-is_err-clause-reads : goal.returns-else-is_err-clause-reads
returns-else-is_err-clause-reads c =
    on_ok_weaker c.print_atoms-printed.result (λ valid. canonical_reads c.args.item.now valid.1 (some_atom c.args.item.now valid.0))
    c.print_atoms-printed.ensures.valid
