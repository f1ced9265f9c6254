use Rattle.std.proofs.Common.{◌≡◌, ◌<◌, ◌++◌, ℕ, Bool, List, [], get_or, length, sym, ap, subst, ◌∙◌}
use Rattle.std.specs.Prelude.{◌==◌, All, filter}
use Rattle.std.specs.List.{flat_map, range_with_len}
use Rattle.dist_report.specs.ClaimParts.{has_some}
use Rattle.dist_report.specs.ClaimPartsPrivate.{key_of}
use Rattle.dist_report.specs.ClassTablePrivate.{place_lines}
use Rattle.dist_report.specs.Lines.{key_line}
use Rattle.dist_report.proofs.BrokenLemmas.{lines-by-place}
use Rattle.dist_report.proofs.LineLemmas.{joined-two}
use Rattle.dist_report.proofs.PickedLemmas.{picked-within}
use Rattle.dist_report.proofs.challenged_report.write_classes_told.Goals as goal

-- the places of the lists that aren't empty
abbrev full : List (List ℕ) → List ℕ
full lists = filter (λ place. has_some (get_or lists place [])) (range_with_len 0 (length lists))

pub write_places-requires-clause-within : goal.write_places-requires-clause-within
write_places-requires-clause-within c =
    let lists = c.in_ok-lists.lists.items in
    let picked = c.deref-3.ensures.value ∙ c.in_ok-places.ensures ∙ ap full (c.deref.ensures.value ∙ sym c.deref-2.ensures.value) in
    let Within : List ℕ → Type 0 = λ places. All (λ place. place < length c.deref-2.result.now) places in
    subst Within (sym picked) (picked-within (λ place. has_some (get_or c.deref-2.result.now place [])) (length c.deref-2.result.now))

pub returns : goal.returns
returns c =
    let packages = c.args.labels.now.packages in
    let members = c.args.table.now.clusters.members in
    let classes = c.args.table.now.classes.items in
    let row = c.args.table.now.row in
    let lists = c.in_ok-lists.lists.items in
    let places = c.in_ok-places.places.items in
    let old = c.args.out.now.items in
    let key = key_of c.args.kind in
    let now = c.write_key.new.out.items in
    let picked = c.in_ok-places.ensures ∙ ap full c.deref.ensures.value in
    let empty : c.is_empty.result ≡ (length places == 0) =
    c.is_empty.ensures ∙ ap (λ (n : ℕ). n == 0) (sym c.deref-3.ensures.len ∙ ap length c.deref-3.ensures.value) in
    let first = c.in_ok-write_key.ensures ∙ ap (λ (k : List ℕ). old ++ key_line k c.is_empty.result) c.key_of.ensures
    ∙ ap (λ (b : Bool). old ++ key_line key b) empty in
    let second = c.in_ok-write_places.ensures
    ∙ ap (λ (l : List (List ℕ)). now ++ flat_map (place_lines packages members classes row l) c.deref-3.result.now) c.deref-2.ensures.value
    ∙ ap (λ (p : List ℕ). now ++ flat_map (place_lines packages members classes row lists) p) c.deref-3.ensures.value in
    joined-two old _ _ _ _ first second
    ∙ ap (λ (t : List ℕ). old ++ t) (lines-by-place packages members classes c.args.kind c.args.claims.now row lists c.in_ok-lists.ensures.length
    c.in_ok-lists.ensures.each places picked c.requires.row)
