use Rattle.std.proofs.Common.{◌≡◌, ℕ, length, ap, sym, ◌∙◌, arith, refl}
use Rattle.dist_space.specs.Space.{cluster_classes, member_classes}
use Rattle.dist_space.specs.declared.meaning.Meaning.TheVariants.{New, Present}
use Rattle.dist_future.proofs.MissingLemmas.{new-borne, none-borne, none-new, not-held, present-borne}
use Rattle.dist_future.proofs.health.is_borne.Goals as goal

pub returns-then-holds : goal.returns-then-holds
returns-then-holds c = (
  λ _. present-borne c.args.space.now c.args.members.now c.args.number
      (record { is_meaning = c.requires.number; is_true = sym c.holds.ensures ∙ c.if-holds.true }),
  λ _. refl,
)

pub loop-class-init : goal.loop-class-init
loop-class-init c =
    record {
      present = not-held c.args.space.now c.args.members.now (Present c.args.number) (sym c.holds.ensures ∙ c.if-holds.false);
      new = λ k short. absurd (omega (arith, short));
    }

pub returns-then-holds-2 : goal.returns-then-holds-2
returns-then-holds-2 c = (
  λ _. new-borne c.args.space.now c.args.members.now c.args.number c.loop-class.class
      (record {
        is_meaning = (c.requires.number, omega (arith, classes c, c.loop-class-test.true));
        is_true = sym c.holds-in-loop-class.ensures ∙ c.if-holds-2.true;
      }),
  λ _. refl,
)
  where
    classes : (d : goal.Then-holds-2) → d.class_count-class-end.result ≡ length (member_classes d.args.space.now d.args.number)
    classes d = d.class_count-class-end.ensures ∙ ap (λ (k : ℕ). length (cluster_classes d.args.space.now k)) d.cluster_of.ensures

pub loop-class-preserved : goal.loop-class-preserved
loop-class-preserved c =
    none-new c.args.space.now c.args.members.now c.args.number c.loop-class.class
    (not-held c.args.space.now c.args.members.now (New c.args.number c.loop-class.class) (sym c.holds-in-loop-class.ensures ∙ c.if-holds-2.false))
    c.loop-class.invariant

pub returns : goal.returns
returns c = (
  λ is. cc,
  λ some. absurd (none-borne c.args.space.now c.args.members.now c.args.number c.loop-class.class
      (let count : c.class_count-class-end.result ≡ length (member_classes c.args.space.now c.args.number) = c.class_count-class-end.ensures
      ∙ ap (λ (k : ℕ). length (cluster_classes c.args.space.now k)) c.cluster_of.ensures in
      omega (arith, count, c.loop-class-test.false))
      c.loop-class.invariant some),
)
