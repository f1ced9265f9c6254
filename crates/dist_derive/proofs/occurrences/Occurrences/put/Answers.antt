use Rattle.std.proofs.Common.{◌≡◌, ℕ, ◌+◌, ◌<◌, List, [], ◌∷◌, ◌++◌, length, get_or, set, sym, subst, ap, ◌∙◌, refl, arith}
use Rattle.std.proofs.lemmas.List.{get_or_read}
use Rattle.dist_derive.specs.OccurrencesPrivate.{OccurrenceLists, IsListed, Extends}
use Rattle.dist_derive.specs.declared.occurrences.Link.{Link}
use Rattle.dist_derive.proofs.OccurrenceLemmas.{with_link, lists_are, Extends-link, IsListed-here}
use Rattle.dist_derive.proofs.occurrences.Occurrences.put.Goals as goal

abbrev before : (c : goal.After-self-1) → OccurrenceLists
before c = record { heads = c.self.inside.heads.items; links = c.self.inside.links.items; covered = c.self.inside.covered }

within : (c : goal.After-self-1) → c.args.code < length c.self.inside.heads.items
within c = omega (arith, c.self.inside.heads.ok.0)

abbrev links_with : List Link → ℕ → ℕ → List Link
links_with links number next = links ++ (record { number = number; next = next }) ∷ []

pushed : (c : goal.After-self-1) → ◌≡◌ {A = OccurrenceLists}
    (record { heads = set c.self.inside.heads.items c.args.code c.len-2.result; links = c.push.new.self.items; covered = c.self.inside.covered })
    (with_link (before c) c.args.code c.args.number)
pushed c =
    let next : c.index-next.result.now ≡ get_or c.self.inside.heads.items c.args.code 0 =
    get_or_read c.self.inside.heads.items c.args.code c.index-next.result.now (within c) c.index-next.ensures 0 in
    let place : c.len-2.result ≡ length c.self.inside.links.items + 1 = omega (arith, c.self.inside.links.ok.0, c.in_ok-push.ensures.len) in
    lists_are (set c.self.inside.heads.items c.args.code c.len-2.result) (with_link (before c) c.args.code c.args.number).heads
    c.push.new.self.items (with_link (before c) c.args.code c.args.number).links c.self.inside.covered c.self.inside.covered
    (ap (λ n. set c.self.inside.heads.items c.args.code n) place)
    (c.in_ok-push.ensures.items ∙ ap (λ n. links_with (before c).links c.args.number n) next)
    refl

pub returns-clause-extends : goal.returns-clause-extends
returns-clause-extends c =
    subst (λ (s : OccurrenceLists). Extends c.args.self.now s c.args.number) (sym (pushed c))
    (subst (λ (s : OccurrenceLists). Extends s (with_link (before c) c.args.code c.args.number) c.args.number) c.self.view_is
    (Extends-link (before c) c.args.code c.args.number (within c)))

pub returns-clause-listed : goal.returns-clause-listed
returns-clause-listed c = subst (λ (s : OccurrenceLists). IsListed s c.args.code c.args.number) (sym (pushed c))
    (IsListed-here (before c) c.args.code c.args.number (within c))
