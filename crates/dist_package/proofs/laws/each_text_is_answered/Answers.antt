use Rattle.dist_package.proofs.EachAnswered.{answered}
use Rattle.dist_package.proofs.Memory.{comes-free}
use Rattle.dist_package.proofs.laws.each_text_is_answered.Goals as goal

pub returns : goal.returns
returns c text limit =
    let one = c.packages_are_exact.ensures text limit in
    record {
      some = answered c.one_reading_or_fault.ensures c.texts_are_exact.ensures.exact c.values_are_exact.ensures.depends c.values_are_exact.ensures.atoms
          c.values_are_exact.ensures.provides (λ value error has. comes-free _ error (c.faults_come.ensures.depends value error has))
          (λ value error has. comes-free _ error (c.faults_come.ensures.atoms value error has))
          (λ value error has. comes-free _ error (c.faults_come.ensures.provides value error has)) text limit;
      one_reading = λ r s is also. one.one_repository s r also is;
      one_fault = λ e f is also. one.one_error f e also is;
      never_both = one.never_both;
    }
