use Rattle.std.proofs.Common.{◌++◌, ℕ, List, codes, length, arith, sym, ap, subst, ◌∙◌}
use Rattle.std.specs.Prelude.{◌==◌}
use Rattle.dist_report.specs.Lines.{key_line}
use Rattle.dist_report.proofs.ToldLemmas.{AreNamesSoFar, names-all, names-more, names-none}
use Rattle.dist_report.proofs.classes_report.write_names.Goals as goal

pub loop-place-init : goal.loop-place-init
loop-place-init c =
    let r = c.args.finder.now in
    let names = c.args.names.now in
    let old = c.args.out.now.items in
    let before = old ++ key_line (codes "names:") (length names == 0) in
    let written = c.in_ok-write_key.ensures ∙ ap (λ (n : ℕ). old ++ key_line (codes "names:") (n == 0)) c.len.ensures in
    let Told : List ℕ → Type 0 = λ now. AreNamesSoFar r names 0 before now in
    subst Told (sym written) (names-none r names before)

pub loop-place-preserved : goal.loop-place-preserved
loop-place-preserved c =
    let r = c.args.finder.now in
    let names = c.args.names.now in
    let before = c.args.out.now.items ++ key_line (codes "names:") (length names == 0) in
    let told = c.in_ok-write_name.ensures in
    names-more r names c.loop-place.place before c.loop-place.out.items c.write_name.new.out.items c.get.result.now told.classes c.get.ensures
    c.loop-place.invariant told.are told.examples told.text

pub returns : goal.returns
returns c = names-all c.args.finder.now c.args.names.now c.loop-place.place c.args.out.now.items c.loop-place.out.items (omega arith) c.requires
    c.loop-place.invariant
