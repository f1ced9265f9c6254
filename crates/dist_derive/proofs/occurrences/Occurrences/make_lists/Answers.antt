use Rattle.std.proofs.Common.{◌≡◌, ◌+◌, ◌*◌, ◌-◌, ◌++◌, [], length, take, replicate, sym, subst, ap, ◌∙◌, arith}
use Rattle.std.specs.Vec.{vec_len}
use Rattle.std.proofs.lemmas.List.{nil_from_length}
use Rattle.std.proofs.Math.Seq.{take-nil}
use Rattle.std.proofs.lemmas.Bool.Decides.{nat_tests}
use Rattle.dist_derive.specs.OccurrencesPrivate.{OccurrenceLists, IsIndexOf}
use Rattle.dist_derive.proofs.OccurrenceLemmas.{IsIndexOf-empty_lists}
use Rattle.dist_derive.proofs.occurrences.Occurrences.make_lists.Goals as goal

pub returns-in_ok-resize : goal.returns-in_ok-resize
returns-in_ok-resize c = λ clauses h.
    let old : OccurrenceLists = record { heads = c.self.inside.heads.items; links = c.self.inside.links.items; covered = c.self.inside.covered } in
    let nothing : length c.self.inside.heads.items ≡ 0 = grind (arith, nat_tests, c.self.inside.heads.ok.0) in
    let none : c.self.inside.heads.items ≡ [] = nil_from_length c.self.inside.heads.items nothing in
    let more = 2 * c.args.variables + 2 - vec_len c.self.inside.heads in
    let same : c.resize.new.self.items ≡ replicate more 0 = c.in_ok-resize.ensures.items
    ∙ (ap (λ xs. take (2 * c.args.variables + 2) xs ++ replicate more 0) none ∙ ap (λ xs. xs ++ replicate more 0) (take-nil (2 * c.args.variables + 2))) in
    subst (λ heads. IsIndexOf (record old { heads = heads }) clauses) (sym same)
    (IsIndexOf-empty_lists old clauses more none (subst (λ (s : OccurrenceLists). IsIndexOf s clauses) (sym c.self.view_is) h))
