use Rattle.std.proofs.Common.{◌≡◌, ◌∙◌, ap, sym, subst, List, ℕ}
use Rattle.dist_cert.specs.declared.records.CertKind.{CertKind}
use Rattle.dist_check_group.specs.Layout.{LayoutView}
use Rattle.dist_subject.specs.Later.{later_matter}
use Rattle.dist_check.specs.LaysOut.{LaysOut}
use Rattle.dist_check.proofs.Laid.{laid, lays-out}
use Rattle.dist_check.proofs.layout.layout_of.Goals as goal

abbrev layout_with : CertKind → List ℕ → List (List ℕ) → LayoutView
layout_with kind owners classes = record { kind = kind; cluster_of = owners; classes = classes }

pub returns : goal.returns
returns c =
    let s = c.args.space.now in
    let is_laid : c.new.result ≡ laid c.args.kind s =
    c.new.ensures
    ∙ ap (λ (xs : List ℕ). layout_with c.args.kind xs c.in_ok-classes.classes) c.in_ok-owners.ensures
    ∙ ap (λ (xs : List (List ℕ)). layout_with c.args.kind (laid c.args.kind s).cluster_of xs) c.in_ok-classes.ensures in
    record {
      kind = ap (λ (layout : LayoutView). layout.kind) c.new.ensures;
      lays_out = λ inputs. subst (λ (layout : LayoutView). LaysOut (later_matter s inputs) layout) (sym is_laid)
          (lays-out s inputs c.keeps_invariant.ensures.space (c.packages_come_first.ensures.now s c.keeps_invariant.ensures.space)
          (λ number. c.packages_come_first.ensures.packages s number c.keeps_invariant.ensures.space) c.args.kind c.requires);
    }
