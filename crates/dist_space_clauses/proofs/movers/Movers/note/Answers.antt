use Rattle.std.proofs.Common.{◌≡◌, ◌++◌, ◌∷◌, [], ℕ, List, Option, unwrap_or, sym, ap, subst, ◌∙◌, rules}
use Rattle.std.specs.BTreeMap.{BTreeMap}
use Rattle.std.specs.Prelude.{OnOk}
use Rattle.std.proofs.lemmas.Result.{on_ok_weaker}
use Rattle.dist_space_clauses.specs.Moving.{Entries, IsWith, Notes, numbers_at}
use Rattle.dist_space_clauses.proofs.MovingLemmas.{noted-updated, with-pushed}
use Rattle.dist_space_clauses.proofs.movers.Movers.note.Goals as goal

pub returns-in-Some : goal.returns-in-Some
returns-in-Some c =
    let t = c.self.inside.numbers.entries in
    let name = c.new-key.result in
    let v = c.args.number in
    let here : numbers_at t name ≡ c.in-Some.numbers.now = ap (λ (o : Option (List ℕ)). unwrap_or o []) (sym c.in-Some.ensures.value) in
    let n = (c.get_mut.follows.lender c.push.new.self).entries in
    let Seen : Entries → Type 0 = λ list. OnOk c.push.result (Notes list n (λ q x. (name ≡ q) × (v ≡ x))) in
    let updates = (c.get_mut.follows.holds c.push.new.self).3 (search rules) in
    let Named : List ℕ → Type 0 = λ own. OnOk c.push.result (Notes c.args.self.now n (λ q x. (own ≡ q) × (v ≡ x))) in
    subst Named c.new-key.ensures (subst Seen c.self.view_is
    (on_ok_weaker c.push.result (λ adds. noted-updated t n name v c.push.new.self (λ q. updates.0 q)
    (subst (λ (list : List ℕ). IsWith list v c.push.new.self) (sym here) adds))
    c.push.ensures))

pub returns : goal.returns
returns c =
    let t = c.get_mut.follows.lender-at-none.entries in
    let name = c.new-key.result in
    let v = c.args.number in
    let was : t ≡ c.args.self.now = ap (λ (m : BTreeMap (List ℕ) (List ℕ)). m.entries) c.get_mut.follows.holds-at-none ∙ c.self.view_is in
    let none : numbers_at c.self.inside.numbers.entries name ≡ [] = ap (λ (o : Option (List ℕ)). unwrap_or o []) (sym c.in_default.ensures.value) in
    let none_here : numbers_at t name ≡ [] = ap (λ (m : BTreeMap (List ℕ) (List ℕ)). numbers_at m.entries name) c.get_mut.follows.holds-at-none ∙ none in
    let n = c.insert.new.self.entries in
    let Seen : Entries → Type 0 = λ list. Notes list n (λ q x. (name ≡ q) × (v ≡ x)) in
    let Named : List ℕ → Type 0 = λ own. Notes c.args.self.now n (λ q x. (own ≡ q) × (v ≡ x)) in
    subst Named c.new-key.ensures (subst Seen was
    (noted-updated t n name v c.in_ok-numbers.numbers (λ q. c.in_ok-insert.ensures.updates.0 q)
    (with-pushed (numbers_at t name) c.in_ok-numbers.numbers v (c.in_ok-numbers.ensures ∙ ap (λ (list : List ℕ). list ++ v ∷ []) (sym none_here)))))
