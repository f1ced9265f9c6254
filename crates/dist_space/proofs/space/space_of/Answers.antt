use Rattle.std.proofs.Common.{Err, Ok, refl, arith}
use Rattle.dist_space.specs.Space.{SpaceView}
use Rattle.dist_space.proofs.WholeSpace.{exactly-none, exactly-some, whole, whole-of, with_meanings}
use Rattle.dist_space.proofs.space.space_of.Goals as goal

pub returns-in-Err-clause-too_many : goal.returns-in-Err-clause-too_many
returns-in-Err-clause-too_many c =
    exactly-none c.args.repo c.args.essential c.in_ok-frame.frame c.args.variables c.in-Err.error (Err c.in-Err.error) refl c.in_ok-frame.ensures
    c.in-Err.ensures.err

pub invariant_of-result : goal.invariant_of-result
invariant_of-result c = (
  record {
    space = whole c.in_ok-frame.frame c.in-Ok.numbered.meanings.items c.in_ok-frame.ensures.frame c.in-Ok.ensures.ok.0;
    stated = let short = c.in-Ok.ensures.ok.1 in omega (arith, short, c.requires.variables);
  },
  c.in-Ok.ensures.entries,
)

pub returns-in-Ok-clause-ok : goal.returns-in-Ok-clause-ok
returns-in-Ok-clause-ok c = whole-of c.args.repo c.args.essential c.in_ok-frame.frame c.in-Ok.numbered.meanings.items c.in_ok-frame.ensures
    c.in-Ok.ensures.ok.0

pub returns-in-Ok-clause-too_many : goal.returns-in-Ok-clause-too_many
returns-in-Ok-clause-too_many c =
    let space : SpaceView = with_meanings c.in_ok-frame.frame c.in-Ok.numbered.meanings.items in
    let of = whole-of c.args.repo c.args.essential c.in_ok-frame.frame c.in-Ok.numbered.meanings.items c.in_ok-frame.ensures c.in-Ok.ensures.ok.0 in
    exactly-some c.args.repo c.args.essential space c.args.variables (Ok space) space refl of c.in-Ok.ensures.ok.1
    (c.spaces_are_one.ensures c.args.repo c.args.essential)
