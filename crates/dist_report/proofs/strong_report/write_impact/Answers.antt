use Rattle.std.proofs.Common.{◌≡◌, ◌<◌, ℕ, List, [], ◌++◌, codes, get_or, length, refl, arith, sym, ap, subst, ◌∙◌}
use Rattle.std.specs.Prelude.{All, filter}
use Rattle.std.specs.List.{range_with_len}
use Rattle.dist_report.specs.Lines.{listed}
use Rattle.dist_report.specs.ClaimParts.{has_some}
use Rattle.dist_report.specs.StrongReport.{entry_lines, with_impact}
use Rattle.dist_report.proofs.ImpactLemmas.{impact-lines, with-is, with-within}
use Rattle.dist_report.proofs.strong_report.write_impact.Goals as goal

pub with_some-requires : goal.with_some-requires
with_some-requires c =
    let long : length c.deref.result.now ≡ length c.args.claims.now = ap length c.deref.ensures.value ∙ c.in_ok-lists.ensures.length in
    omega (arith, long, c.requires)

pub write_turned-requires : goal.write_turned-requires
write_turned-requires c =
    let made = c.args.claims.now in
    let n = length made in
    let lists = c.in_ok-lists.lists.items in
    let end : length c.deref.result.now ≡ n = ap length c.deref.ensures.value ∙ c.in_ok-lists.ensures.length in
    let numbers : c.deref-3.result.now ≡ with_impact made =
    c.deref-3.ensures.value ∙ c.in_ok-numbers.ensures
    ∙ ap (λ (l : List (List ℕ)). filter (λ q. has_some (get_or l q [])) (range_with_len 0 (length l))) c.deref.ensures.value
    ∙ ap (λ (k : ℕ). filter (λ q. has_some (get_or lists q [])) (range_with_len 0 k)) c.in_ok-lists.ensures.length
    ∙ with-is made n lists refl c.in_ok-lists.ensures.each in
    let Within : List ℕ → Type 0 = λ list. All (λ q. q < length c.deref-2.result.now) list in
    let End : ℕ → Type 0 = λ end. All (λ q. q < end) (with_impact made) in
    subst Within (sym numbers) (subst End (sym (ap length c.deref-2.ensures.value ∙ c.in_ok-lists.ensures.length))
    (with-within made n lists refl c.in_ok-lists.ensures.each))

pub returns : goal.returns
returns c =
    let packages = c.args.labels.now.packages in
    let old = c.args.out.now.items in
    let made = c.args.claims.now in
    let n = length made in
    let lists = c.in_ok-lists.lists.items in
    let numbers : c.deref-3.result.now ≡ with_impact made =
    c.deref-3.ensures.value ∙ c.in_ok-numbers.ensures
    ∙ ap (λ (l : List (List ℕ)). filter (λ q. has_some (get_or l q [])) (range_with_len 0 (length l))) c.deref.ensures.value
    ∙ ap (λ (k : ℕ). filter (λ q. has_some (get_or lists q [])) (range_with_len 0 k)) c.in_ok-lists.ensures.length
    ∙ with-is made n lists refl c.in_ok-lists.ensures.each in
    c.in_ok-write_turned.ensures
    ∙ ap (λ (list : List ℕ). old ++ listed (codes "impact:") (λ q. entry_lines packages (codes "    of:") q (get_or c.deref-2.result.now q [])) list) numbers
    ∙ ap (λ (l : List (List ℕ)). old ++ listed (codes "impact:") (λ q. entry_lines packages (codes "    of:") q (get_or l q [])) (with_impact made))
    c.deref-2.ensures.value
    ∙ ap (λ (t : List ℕ). old ++ t) (impact-lines made n lists refl c.in_ok-lists.ensures.each packages)
