use Rattle.std.proofs.Common.{◌≡◌, ◌∙◌, ◌&&◌, Bool, List, ℕ, ap, refl, subst, sym, true}
use Rattle.std.proofs.lemmas.Bool.{and_parts}
use Rattle.dist_cert.specs.Rising.{is_among}
use Rattle.dist_check_group.specs.Challenge.{is_held, is_used, use_each}
use Rattle.dist_check_group.specs.MarksPrivate.{is_marked}
use Rattle.dist_check_group.specs.FoundPrivate.{FoundView, IsFoundFor, is_asked, may_ask}
use Rattle.dist_check_group.proofs.ChallengeLemmas.{asks-class, asks-pair}
use Rattle.dist_check_group.proofs.CoverLemmas.{held-once, used-once}
use Rattle.dist_check_group.proofs.found.Found.by_names.Goals as goal

pub returns-in-Ok : goal.returns-in-Ok
returns-in-Ok c =
    let w = c.args.window.now in
    let layout = w.layout in
    let cover = c.args.group.now.cover in
    let variable : ℕ = c.args.claim.now.variable in
    let named : List ℕ = c.args.claim.now.named.now in
    let once : List ℕ = c.args.named.now in
    let first : List ℕ = c.in_ok-first.first.items in
    let found = c.in_ok-found.found in
    let undecided : List ℕ = found.undecided in
    let asked : ℕ → Bool = is_asked layout found variable in
    let used : (q : ℕ) → (is_among first q && use_each layout w once q) ≡ is_used layout w cover named q = λ q.
    c.in_ok-first.ensures.value q ∙ used-once layout w cover.used named once c.requires q in
    let told : (v : ℕ) → may_ask layout undecided first v ≡ true → is_marked found.held v ≡ is_held layout w cover named v = λ v may.
    c.in_ok-found.ensures.held v (ap (λ (xs : List ℕ). may_ask layout undecided xs v) c.deref.ensures.value ∙ may)
    ∙ held-once layout w cover named once c.requires v in
    let Right : FoundView → Type 0 = λ found. IsFoundFor layout w cover variable named c.args.claim.now.by.now c.args.claim.now.undecided.now found in
    subst Right (sym c.set_used.ensures) (record {
      used_is = λ q. c.in-Ok.ensures.value q ∙ ap (λ (b : Bool). b && asked q) (used q);
      today_is = told 1 refl;
      pairs_are = λ v there. told v (asks-pair layout undecided first v there);
      classes_are = λ q v is class.
          told v (asks-class layout undecided first q v (and_parts (is_among first q) (use_each layout w once q) (used q ∙ is)).0 class);
      by_is = c.in_ok-found.ensures.by;
      undecided_is = c.in_ok-found.ensures.undecided;
    })
