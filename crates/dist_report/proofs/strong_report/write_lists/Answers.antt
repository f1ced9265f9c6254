use Rattle.std.proofs.Common.{◌≡◌, ℕ, Bool, List, [], Option, Some, ◌++◌, append_assoc, append-nil, codes, get_or, length, arith, sym, ap, ◌∙◌}
use Rattle.std.proofs.Common.{slice_get}
use Rattle.std.specs.Prelude.{◌==◌}
use Rattle.std.specs.List.{flat_map}
use Rattle.std.specs.Option.{option_map_or}
use Rattle.std.proofs.lemmas.Option.{slice_get-get_or}
use Rattle.dist_cert.specs.declared.records.Claim.{Claim}
use Rattle.dist_report.specs.ClaimPartsPrivate.{list_at, list_of}
use Rattle.dist_report.specs.Lines.{key_line}
use Rattle.dist_report.specs.StrongReport.{entry_lines}
use Rattle.dist_report.proofs.LineLemmas.{lines-all, lines-more}
use Rattle.dist_report.proofs.strong_report.write_lists.Goals as goal

pub loop-number-init : goal.loop-number-init
loop-number-init c =
    let old = c.args.out.now.items in
    c.in_ok-write_key.ensures ∙ ap (λ (b : Bool). old ++ key_line c.args.key.now b) c.is_empty.ensures
    ∙ sym (append-nil (old ++ key_line c.args.key.now (length c.args.numbers.now == 0)))

pub loop-number-preserved : goal.loop-number-preserved
loop-number-preserved c =
    let packages = c.args.labels.now.packages in
    let numbers = c.args.numbers.now in
    let made = c.args.claims.now in
    let kind = c.args.kind in
    let number = get_or c.args.numbers.now c.loop-number.number-index 0 in
    let before = c.args.out.now.items ++ key_line c.args.key.now (length numbers == 0) in
    let lines : ℕ → List ℕ = λ p. entry_lines packages (codes "    on:") p (list_at kind made p) in
    let is : slice_get numbers c.loop-number.number-index ≡ Some number = slice_get-get_or numbers c.loop-number.number-index 0 c.loop-number-test.true in
    let own : c.claim_list-list.result.now ≡ list_at kind made number = c.claim_list-list.ensures
    ∙ sym (ap (λ (o : Option Claim). option_map_or (list_of kind) o []) c.get.ensures) in
    let more = c.in_ok-write_entry.ensures ∙ ap (λ (list : List ℕ). c.loop-number.out.items ++ entry_lines packages (codes "    on:") number list) own in
    lines-more lines numbers c.loop-number.number-index number before c.loop-number.out.items c.write_entry.new.out.items is c.loop-number.invariant more

pub returns : goal.returns
returns c =
    let numbers = c.args.numbers.now in
    let key = key_line c.args.key.now (length numbers == 0) in
    let lines : ℕ → List ℕ = λ p. entry_lines c.args.labels.now.packages (codes "    on:") p (list_at c.args.kind c.args.claims.now p) in
    lines-all lines numbers c.loop-number.number-index (c.args.out.now.items ++ key) c.loop-number.out.items (omega arith) c.loop-number.invariant
    ∙ append_assoc c.args.out.now.items key (flat_map lines numbers)
