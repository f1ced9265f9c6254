use Rattle.std.proofs.Common.{◌≡◌, ◌||◌, true, ℕ, take}
use Rattle.std.specs.List.{list_any}
use Rattle.dist_cert.specs.Rising.{is_among}
use Rattle.dist_check_group.specs.Layout.{non_packages}
use Rattle.dist_check_group.specs.Window.{members_at}
use Rattle.dist_check_group.specs.MarksPrivate.{is_marked}
use Rattle.dist_check_group.specs.FoundPrivate.{is_wanted}
use Rattle.dist_check_group.proofs.held.mark_named.Given as goal

abbrev pub invariant-loop-number : goal.invariant-loop-number
invariant-loop-number l = record {
  told : (v : ℕ) → is_wanted l.window.layout l.initial.wanted l.initial.held v ≡ true → is_marked l.held v
      ≡ (is_marked l.initial.held v
      || list_any (λ number. is_among (non_packages l.window.layout (members_at l.window number)) v) (take l.number-index l.named));
  still : (v : ℕ) → is_wanted l.window.layout l.initial.wanted l.initial.held v ≡ true → is_wanted l.window.layout l.wanted l.held v ≡ true;
}
