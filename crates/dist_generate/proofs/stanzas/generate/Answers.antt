use Rattle.dist_generate.specs.Generator.{drawn}
use Rattle.dist_generate.proofs.Adding.{next-moved, next-stanza}
use Rattle.dist_generate.proofs.stanzas.generate.Goals as goal

pub loop-number-preserved : goal.loop-number-preserved
loop-number-preserved c =
    let adds = c.in_ok-add_stanza.ensures in
    let was = c.loop-number.invariant.moved in
    record {
      text = next-stanza c.args.seed c.loop-number.number c.loop-number.text.items c.loop-number.draws.state _ c.loop-number.invariant.text was adds.text;
      moved = next-moved drawn c.args.seed c.loop-number.number c.loop-number.draws.state _ was adds.moved;
    }
