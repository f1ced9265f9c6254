use Rattle.std.proofs.Common.{None, Option, subst, sym}
use Rattle.dist_cert.specs.declared.faults.CertCause.{CertCause}
use Rattle.dist_cert.specs.declared.faults.ReadCertError.TheVariants.{Work}
use Rattle.dist_line_check.specs.Kinds.{IsNext, LineStops, TakesLine, TellsLine}
use Rattle.dist_line_check.specs.declared.lines.Kept.{Kept}
use Rattle.dist_line_check.proofs.LineLemmas.{faulty, is-next, stopped, takes}
use Rattle.dist_line_check.proofs.lines.take_line.Goals as goal

pub returns-in-Some-clause-err : goal.returns-in-Some-clause-err
returns-in-Some-clause-err g c =
    let kind = g.K.Kind.files c.args.kind.now in
    faulty kind c.args.kept.now.checker c.args.kept.now.notes c.args.step c.args.line c.in-Some.cause
    (subst (λ (o : Option CertCause). TellsLine kind c.args.kept.now.checker c.args.kept.now.notes c.args.step o) c.in-Some.is c.in_ok-cause.ensures.told)

pub take-requires-clause-next : goal.take-requires-clause-next
take-requires-clause-next g c =
    let kind = g.K.Kind.files c.args.kind.now in
    let told = subst (λ (o : Option CertCause). TellsLine kind c.args.kept.now.checker c.args.kept.now.notes c.args.step o) c.in_default.is
    c.in_ok-cause.ensures.told in
    subst (λ (k : Kept _). IsNext kind k.checker k.notes c.args.step) (sym c.judge.ensures.same)
    (is-next kind c.args.kept.now.checker c.args.kept.now.notes c.args.step told c.requires.somewhere)

pub returns-in-Ok-clause-ok : goal.returns-in-Ok-clause-ok
returns-in-Ok-clause-ok g c =
    let kind = g.K.Kind.files c.args.kind.now in
    let told = subst (λ (o : Option CertCause). TellsLine kind c.args.kept.now.checker c.args.kept.now.notes c.args.step o) c.in_default.is
    c.in_ok-cause.ensures.told in
    let same = c.judge.ensures.same in
    subst (λ (k : Kept _). TakesLine kind k.checker k.notes c.args.step c.take.new.kept.checker c.take.new.kept.notes) same
    (takes kind c.judge.new.kept.checker c.take.new.kept.checker c.judge.new.kept.notes c.take.new.kept.notes c.args.step
    (subst (λ (k : Kept _). TellsLine kind k.checker k.notes c.args.step None) (sym same) told)
    c.in-Ok.ensures.kept c.keep_limits.ensures c.in-Ok.ensures.noted)

pub returns-in-Err-clause-err : goal.returns-in-Err-clause-err
returns-in-Err-clause-err g c =
    let kind = g.K.Kind.files c.args.kind.now in
    let told = subst (λ (o : Option CertCause). TellsLine kind c.args.kept.now.checker c.args.kept.now.notes c.args.step o) c.in_default.is
    c.in_ok-cause.ensures.told in
    let same = c.judge.ensures.same in
    subst (λ (k : Kept _). LineStops kind k.checker k.notes c.args.step c.args.line (Work c.in-Err.error)) same
    (stopped kind c.judge.new.kept.checker c.judge.new.kept.notes c.args.step c.args.line c.in-Err.error
    (subst (λ (k : Kept _). TellsLine kind k.checker k.notes c.args.step None) (sym same) told) c.in-Err.ensures.err)
