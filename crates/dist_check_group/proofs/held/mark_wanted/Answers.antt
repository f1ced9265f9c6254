use Rattle.std.proofs.Common.{◌∙◌, ◌&&◌, ◌||◌, Bool, List, ℕ, ap, filter, not}
use Rattle.dist_cert.specs.Rising.{is_among}
use Rattle.dist_check_group.specs.Layout.{is_package, non_packages}
use Rattle.dist_check_group.specs.MarksPrivate.{is_marked}
use Rattle.dist_check_group.proofs.RuleLemmas.{among-filter}
use Rattle.dist_check_group.proofs.held.mark_wanted.Goals as goal

pub returns-clause-marked : goal.returns-clause-marked
returns-clause-marked c = λ v.
    let layout = c.args.layout.now in
    let wanted : List ℕ = c.args.wanted.now in
    let members : ℕ → Bool = is_among c.args.members.now in
    let held : Bool = is_marked c.args.held.now v in
    let found = c.in_ok-found.ensures.value ∙ c.in_ok-narrow.ensures ∙ ap (λ (ns : List ℕ). filter members ns) c.in_ok-common.ensures in
    c.in_ok-mark_all.ensures v
    ∙ ap (λ (ns : List ℕ). held || is_among (non_packages layout ns) v) (c.deref-2.ensures.value ∙ found)
    ∙ ap (λ (b : Bool). held || b) (among-filter (λ n. not (is_package layout n)) (filter members wanted) v
    ∙ ap (λ (b : Bool). b && not (is_package layout v)) (among-filter members wanted v))

pub returns-clause-left : goal.returns-clause-left
returns-clause-left c = λ v.
    let wanted : List ℕ = c.args.wanted.now in
    let members : ℕ → Bool = is_among c.args.members.now in
    let found = c.in_ok-found.ensures.value ∙ c.in_ok-narrow.ensures ∙ ap (λ (ns : List ℕ). filter members ns) c.in_ok-common.ensures in
    c.leave_out_all.ensures v
    ∙ ap (λ (b : Bool). is_among wanted v && not b)
    (ap (λ (ns : List ℕ). is_among ns v) (c.deref.ensures.value ∙ found) ∙ among-filter members wanted v)
