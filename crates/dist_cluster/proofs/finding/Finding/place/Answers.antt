use Rattle.std.proofs.Common.{◌≡◌, ◌++◌, ◌∷◌, ◌+◌, [], ℕ, List, Some, None, cond, length, slice_get, refl, sym, ap, subst, ◌∙◌}
use Rattle.std.specs.BTreeMap.{is_at}
use Rattle.std.proofs.lemmas.Option.{slice_get_read}
use Rattle.dist_cluster.specs.Found.{AreFound, number_at}
use Rattle.dist_cluster.specs.Relation.{Member}
use Rattle.dist_cluster.specs.TotalLaws.{member_cmp}
use Rattle.dist_cluster.proofs.FoundLemmas.{found-joined, found-begun}
use Rattle.dist_cluster.proofs.finding.Finding.place.Goals as goal

pub returns-in-Some : goal.returns-in-Some
returns-in-Some c =
    let members = c.args.entries.now in
    let n = c.args.member in
    let number = c.in-Some.number.now in
    let member : Member = c.index-entries-member.result in
    let numbers = c.args.self.now.numbers.entries in
    let clusters = c.args.self.now.clusters.items in
    let cluster_of = c.args.self.now.cluster_of.items in
    let at : slice_get members n ≡ Some member = slice_get_read members _ n member refl c.requires.within c.index-entries-member.is in
    let has : number_at numbers member ≡ Some number = ap (λ (k : Member). number_at numbers k) (sym c.new-key.ensures) ∙ sym c.in-Some.ensures.value in
    let found = found-joined members n number member numbers clusters cluster_of c.requires.found at has in
    let Clusters : List (List ℕ) → Type 0 = λ list. AreFound members (n + 1) numbers list (cluster_of ++ number ∷ []) in
    let Numbers : List ℕ → Type 0 = λ list. AreFound members (n + 1) numbers c.join.new.clusters.items list in
    subst Numbers (sym c.in_ok-push.ensures.items) (subst Clusters (sym c.in_ok-join.ensures) found)

pub returns : goal.returns
returns c =
    let members = c.args.entries.now in
    let n = c.args.member in
    let member : Member = c.index-entries-member.result in
    let numbers = c.args.self.now.numbers.entries in
    let clusters = c.args.self.now.clusters.items in
    let cluster_of = c.args.self.now.cluster_of.items in
    let after = c.insert.new.self.entries in
    let at : slice_get members n ≡ Some member = slice_get_read members _ n member refl c.requires.within c.index-entries-member.is in
    let missing : number_at numbers member ≡ None = ap (λ (k : Member). number_at numbers k) (sym c.new-key.ensures) ∙ sym c.in_default.ensures.value in
    let count : c.len-number.result ≡ length clusters = c.len-number.ensures ∙ c.args.self.now.clusters.ok.0 in
    let updates : (q : Member) → number_at after q ≡ cond (is_at (member_cmp member) q) (Some (length clusters)) (number_at numbers q) = λ q.
    c.in_ok-insert.ensures.updates.0 q
    ∙ ap (λ (k : Member). cond (is_at (member_cmp k) q) (Some c.len-number.result) (number_at numbers q)) c.new-key.ensures
    ∙ ap (λ (k : ℕ). cond (is_at (member_cmp member) q) (Some k) (number_at numbers q)) count in
    let found = found-begun members n member numbers after clusters cluster_of c.requires.found at missing updates in
    let Clusters : List (List ℕ) → Type 0 = λ list. AreFound members (n + 1) after list (cluster_of ++ length clusters ∷ []) in
    let Numbers : List ℕ → Type 0 = λ list. AreFound members (n + 1) after c.push-2.new.self.items list in
    let clusters_is = c.in_ok-push-2.ensures.items ∙ ap (λ (list : List ℕ). clusters ++ list ∷ []) c.in_ok-of.ensures in
    let numbers_is = c.in_ok-push-3.ensures.items ∙ ap (λ (k : ℕ). cluster_of ++ k ∷ []) count in
    subst Numbers (sym numbers_is) (subst Clusters (sym clusters_is) found)
