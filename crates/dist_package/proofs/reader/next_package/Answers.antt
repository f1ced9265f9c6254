use Rattle.std.proofs.Common.{inl, inr}
use Rattle.dist_package.specs.FirstFault.{HasFieldFault}
use Rattle.dist_package.specs.StepsPrivate.{IsFaulty}
use Rattle.dist_package.proofs.FieldLemmas.{bad-weaker}
use Rattle.dist_package.proofs.reader.next_package.Goals as goal

pub returns-in-Ok-Some : goal.returns-in-Ok-Some
returns-in-Ok-Some c =
    let takes = rw c.in-Ok-Some.field-0-is at c.in-Ok-Some.ensures.answers in
    elim c.in-Err-read_package.ensures [
      | inl none ↦ inl none
      | inr fault ↦ inr (bad-weaker (HasFieldFault c.args.earlier.now c.in-Ok-Some.stanza) (IsFaulty c.args.earlier.now c.args.reader.now)
          (λ f h. record { raw = takes.raw; rest = c.next.new.self.left; left = takes.left; cause = inr (c.in-Ok-Some.stanza, takes.reading, h) }) _ fault)
    ]
