use Rattle.std.proofs.Common.{◌≡◌, ℕ, List, subst}
use Rattle.dist_classes.specs.Table.{Entries, Notes}
use Rattle.dist_classes.proofs.TableLemmas.{noted-push}
use Rattle.dist_classes.proofs.bound_table.Table.note.Goals as goal

pub returns : goal.returns
returns c =
    let name = c.args.name.now in
    let v = c.new-version.result in
    let new : Entries = c.push.new.self.items in
    let named = c.new-name.result in
    let From : Entries → Type 0 = λ old. Notes old new (λ q x. (named ≡ q) × (v ≡ x)) in
    let Named : List ℕ → Type 0 = λ n. Notes c.args.self.now new (λ q x. (n ≡ q) × (v ≡ x)) in
    let Of : List ℕ → Type 0 = λ w. Notes c.args.self.now new (λ q x. (name ≡ q) × (w ≡ x)) in
    subst Of c.new-version.ensures
    (subst Named c.new-name.ensures (subst From c.self.view_is (noted-push c.self.inside.bounds.items new named v c.in_ok-push.ensures.items)))
