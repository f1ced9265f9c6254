use Rattle.dist_journal.proofs.OneEndLemmas.{one-end}
use Rattle.dist_journal.proofs.laws.journals_have_one_end.Goals as goal

pub returns : goal.returns
returns c = λ s limit journal old space.
    one-end c.packages_are_exact.ensures s space (record {
      one = λ archive step error other first second. c.steps_have_one_answer.ensures.one s archive step error other space first second;
      same = λ old other step error same refused. c.steps_have_one_answer.ensures.same s old other step error same refused;
      made = λ old other new newer step same first second.
          c.steps_have_one_answer.ensures.made s old other new newer step space same first second;
    }) limit journal old
