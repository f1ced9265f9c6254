use Rattle.std.proofs.Common.{◌∙◌, refl, arith, codes}
use Rattle.clap.specs.Matches.{found_of}
use Rattle.clap.proofs.WalkLemmas.{first_value-rows}
use Rattle.std.specs.Str.Parse.{ParsesUnsigned, ExplainsUnsignedError, HasUnsignedDigitsIfOk}
use Rattle.dist_base.specs.declared.TheConstants.{MAX_LIMIT, MAX_SIZE}
use Rattle.dist_words.specs.Clap.{number_option, essential_rule}
use Rattle.dist_base.specs.declared.TheConstants.{MAX_MOST}
use Rattle.dist_words.proofs.Chain.{alone, no_rule}
use Rattle.dist_words.proofs.Readings.{IsAt, number_read, flag_read, limit_of, most_of, size_of}
use Rattle.dist_words.proofs.taken.options_of.Goals as goal

limit_at : IsAt 2 (number_option (codes "limit") 1 MAX_LIMIT)
unfolding alone no_rule
limit_at = record { within = omega arith; is = λ d. refl; own = refl }

size_at : IsAt 3 (number_option (codes "size") 1 MAX_SIZE)
unfolding alone no_rule
size_at = record { within = omega arith; is = λ d. refl; own = refl }

seed_at : IsAt 4 (number_option (codes "seed") 0 4294967295)
unfolding alone no_rule
seed_at = record { within = omega arith; is = λ d. refl; own = refl }

essential_at : IsAt 5 essential_rule
unfolding alone no_rule
essential_at = record { within = omega arith; is = λ d. refl; own = refl }

most_at : IsAt 7 (number_option (codes "most") 0 MAX_MOST)
unfolding alone no_rule
most_at = record { within = omega arith; is = λ d. refl; own = refl }

pub returns-clause-options : goal.returns-clause-options
returns-clause-options c =
    let m = c.args.matches.now in
    let limit = number_read (λ bs r. ParsesUnsigned 32 10 bs r × ExplainsUnsignedError 10 bs r × HasUnsignedDigitsIfOk bs r) m c.requires 2
    (number_option (codes "limit") 1 MAX_LIMIT) 1 MAX_LIMIT limit_at refl (omega arith) (λ u x g. g.0) c.get_one.result c.get_one.ensures.none
    c.get_one.ensures.value in
    let size = number_read (λ bs r. ParsesUnsigned 32 10 bs r × ExplainsUnsignedError 10 bs r × HasUnsignedDigitsIfOk bs r) m c.requires 3
    (number_option (codes "size") 1 MAX_SIZE) 1 MAX_SIZE size_at refl (omega arith) (λ u x g. g.0) c.get_one-2.result c.get_one-2.ensures.none
    c.get_one-2.ensures.value in
    let seed = number_read (λ bs r. ParsesUnsigned 32 10 bs r × ExplainsUnsignedError 10 bs r × HasUnsignedDigitsIfOk bs r) m c.requires 4
    (number_option (codes "seed") 0 4294967295) 0 4294967295 seed_at refl (omega arith) (λ u x g. g.0) c.get_one-3.result c.get_one-3.ensures.none
    c.get_one-3.ensures.value in
    let most = number_read (λ bs r. ParsesUnsigned 32 10 bs r × ExplainsUnsignedError 10 bs r × HasUnsignedDigitsIfOk bs r) m c.requires 7
    (number_option (codes "most") 0 MAX_MOST) 0 MAX_MOST most_at refl (omega arith) (λ u x g. g.0) c.get_one-4.result c.get_one-4.ensures.none
    c.get_one-4.ensures.value in
    let essential = flag_read m c.requires 5 essential_rule essential_at refl c.get_flag.result c.get_flag.ensures.none c.get_flag.ensures.value
    c.get_flag.ensures.other in
    rw (limit.0, size.0, seed.0, c.get_str.ensures ∙ first_value-rows (found_of m) (codes "package"), most.0, essential) refl

pub returns-clause-limit : goal.returns-clause-limit
returns-clause-limit c =
    let m = c.args.matches.now in
    let limit = number_read (λ bs r. ParsesUnsigned 32 10 bs r × ExplainsUnsignedError 10 bs r × HasUnsignedDigitsIfOk bs r) m c.requires 2
    (number_option (codes "limit") 1 MAX_LIMIT) 1 MAX_LIMIT limit_at refl (omega arith) (λ u x g. g.0) c.get_one.result c.get_one.ensures.none
    c.get_one.ensures.value in
    limit_of c.get_one.result limit.1

pub returns-clause-size : goal.returns-clause-size
returns-clause-size c =
    let m = c.args.matches.now in
    let size = number_read (λ bs r. ParsesUnsigned 32 10 bs r × ExplainsUnsignedError 10 bs r × HasUnsignedDigitsIfOk bs r) m c.requires 3
    (number_option (codes "size") 1 MAX_SIZE) 1 MAX_SIZE size_at refl (omega arith) (λ u x g. g.0) c.get_one-2.result c.get_one-2.ensures.none
    c.get_one-2.ensures.value in
    size_of c.get_one-2.result size.1

pub returns-clause-most : goal.returns-clause-most
returns-clause-most c =
    let m = c.args.matches.now in
    let most = number_read (λ bs r. ParsesUnsigned 32 10 bs r × ExplainsUnsignedError 10 bs r × HasUnsignedDigitsIfOk bs r) m c.requires 7
    (number_option (codes "most") 0 MAX_MOST) 0 MAX_MOST most_at refl (omega arith) (λ u x g. g.0) c.get_one-4.result c.get_one-4.ensures.none
    c.get_one-4.ensures.value in
    most_of c.get_one-4.result most.1
