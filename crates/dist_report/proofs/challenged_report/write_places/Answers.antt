use Rattle.std.proofs.Common.{◌≡◌, ◌++◌, ℕ, List, [], Option, Some, append-nil, get_or, arith, sym, ap, ◌∙◌, slice_get}
use Rattle.std.specs.Option.{option_map_or}
use Rattle.std.proofs.lemmas.Option.{slice_get-get_or}
use Rattle.dist_report.specs.ClassTablePrivate.{kept_lines, place_lines}
use Rattle.dist_report.proofs.LineLemmas.{lines-all, lines-more}
use Rattle.dist_report.proofs.RowLemmas.{row-has}
use Rattle.dist_report.proofs.challenged_report.write_places.Goals as goal

pub loop-place-init : goal.loop-place-init
loop-place-init c = sym (append-nil c.args.out.now.items)

pub write_pair-requires-clause-class : goal.write_pair-requires-clause-class
write_pair-requires-clause-class c =
    let table = c.args.table.now in
    row-has table.classes.items table.row (get_or c.args.places.now c.loop-place.place-index 0) c.get-pair.result c.requires.row c.get-pair.ensures

pub loop-place-preserved : goal.loop-place-preserved
loop-place-preserved c =
    let packages = c.args.labels.now.packages in
    let members = c.args.table.now.clusters.members in
    let classes = c.args.table.now.classes.items in
    let row = c.args.table.now.row in
    let lists = c.args.lists.now in
    let places = c.args.places.now in
    let k = c.loop-place.place-index in
    let place = get_or places k 0 in
    let lines : ℕ → List ℕ = place_lines packages members classes row lists in
    let is : slice_get places k ≡ Some place = slice_get-get_or places k 0 c.loop-place-test.true in
    let own : lines place ≡ kept_lines packages members classes (get_or lists place []) c.get-pair.result =
    ap (λ (o : Option (ℕ × ℕ)). option_map_or (kept_lines packages members classes (get_or lists place [])) o []) c.get-pair.ensures in
    let more = c.in_ok-write_pair.ensures
    ∙ ap (λ (list : List ℕ). c.loop-place.out.items ++ kept_lines packages members classes list c.get-pair.result) c.numbers_at.ensures
    ∙ ap (λ (t : List ℕ). c.loop-place.out.items ++ t) (sym own) in
    lines-more lines places k place c.args.out.now.items c.loop-place.out.items c.write_pair.new.out.items is c.loop-place.invariant more

pub returns : goal.returns
returns c =
    let lines : ℕ → List ℕ =
    place_lines c.args.labels.now.packages c.args.table.now.clusters.members c.args.table.now.classes.items c.args.table.now.row c.args.lists.now in
    lines-all lines c.args.places.now c.loop-place.place-index c.args.out.now.items c.loop-place.out.items (omega arith) c.loop-place.invariant
