use Rattle.std.proofs.Common.{◌∙◌, ◌||◌, Bool, List, ℕ, ap, get_or}
use Rattle.std.specs.List.{list_any}
use Rattle.std.proofs.lemmas.List.{take_all}
use Rattle.dist_cert.specs.Rising.{is_among}
use Rattle.dist_check_group.specs.Layout.{non_packages}
use Rattle.dist_check_group.specs.Window.{members_at}
use Rattle.dist_check_group.specs.MarksPrivate.{is_marked}
use Rattle.dist_check_group.proofs.MarkLemmas.{named-more, or-none}
use Rattle.dist_check_group.proofs.held.mark_named.Goals as goal

pub loop-number-init : goal.loop-number-init
loop-number-init c = record {
  told = λ v some. or-none (is_marked c.args.held.now v);
  still = λ v some. some;
}

pub loop-number-preserved : goal.loop-number-preserved
loop-number-preserved c =
    let named : List ℕ = c.args.named.now in
    let i = c.loop-number.number-index in
    let layout = c.args.window.now.layout in
    record {
      told = λ v some.
          let holds : ℕ → Bool = λ number. is_among (non_packages layout (members_at c.args.window.now number)) v in
          c.in_ok-mark_number.ensures.told v (c.loop-number.invariant.still v some)
          ∙ ap (λ (b : Bool). b || holds (get_or named i 0)) (c.loop-number.invariant.told v some)
          ∙ named-more holds named i (is_marked c.args.held.now v) c.loop-number-test.true;
      still = λ v some. c.in_ok-mark_number.ensures.still v (c.loop-number.invariant.still v some);
    }

pub returns : goal.returns
returns c = λ v some.
    c.loop-number.invariant.told v some
    ∙ ap (λ (ns : List ℕ). is_marked c.args.held.now v
    || list_any (λ number. is_among (non_packages c.args.window.now.layout (members_at c.args.window.now number)) v) ns)
    (take_all c.loop-number.number-index c.args.named.now c.loop-number-test.false)
