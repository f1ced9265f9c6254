use Rattle.std.proofs.Common.{◌<◌, ◌≤◌, ◌^◌, ap, sym, subst}
use Rattle.dist_cert.specs.declared.records.Header.{Header}
use Rattle.dist_line_write.specs.Asking.{AskerView}
use Rattle.dist_sweep.proofs.Started.{IsGiven, may-begin}
use Rattle.dist_sweep.proofs.sweep.write_sweep.Goals as goal

pub write_file-claims-requires-clause-fits : goal.write_file-claims-requires-clause-fits
write_file-claims-requires-clause-fits g c = λ p from to.
    subst (λ n. g.C.Claimant.fits c.args.claimant.now n p) (sym (ap (λ (a : AskerView). a.log.variables) c.in_ok-asker.ensures))
    (c.requires.fits p from (subst (λ (h : Header). p ≤ h.packages) c.first_line-header.ensures.value to))

pub returns : goal.returns
returns g c = λ r basis ordered inputs packages keeps.
    let header = c.first_line-header in
    let over = c.args.over in
    let given : IsGiven over = record {
      from_one = c.requires.from_one;
      upto = c.requires.upto;
      packages = subst (λ (h : Header). h.packages < 2 ^ 32) header.ensures.value header.ensures.packages;
      variables = subst (λ (h : Header). h.variables < 2 ^ 32) header.ensures.value header.ensures.variables;
      count = subst (λ (h : Header). h.clauses < 2 ^ 32) header.ensures.value header.ensures.clauses;
    } in
    c.write_file-claims.ensures r over.kind over.essential over.limit c.args.limits.now
    (may-begin g.C.Claimant.keeps c.models_are_healthy.ensures r over c.args.limits.now basis c.args.claimant.now given ordered inputs packages keeps
    header.result c.in_ok-asker.asker header.ensures.value c.in_ok-asker.ensures)
