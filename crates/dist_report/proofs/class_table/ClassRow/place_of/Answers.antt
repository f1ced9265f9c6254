use Rattle.std.proofs.Common.{◌≡◌, ℕ, ◌+◌, ◌<◌, List, length, get_or, None, Some, sym, ap, subst, ◌∙◌, arith, slice_get}
use Rattle.std.proofs.lemmas.List.{get_or_default}
use Rattle.std.proofs.lemmas.Option.{get_or_from_slice_get, slice_get-get_or, slice_get_within}
use Rattle.dist_report.specs.ClassTablePrivate.{IsRow}
use Rattle.dist_report.proofs.PlaceLemmas.{IsPlaceOf, pair-is, place-none, place-some}
use Rattle.dist_report.proofs.class_table.ClassRow.place_of.Goals as goal
use Rattle.dist_report.proofs.class_table.ClassRow.place_of.Goals.{else-own_cluster-cluster-via-then-own_cluster-cluster+else-own_class-class}
use Rattle.dist_report.proofs.class_table.ClassRow.place_of.Goals.{else-own_cluster-cluster-via-else-own_cluster-cluster}

-- the pair stands at this place alone
placed-at : (starts : List ℕ) (row : List (ℕ × ℕ)) (pair : ℕ × ℕ) (start : ℕ) → IsRow starts row → start ≡ get_or starts pair.0 start → pair.0 < length starts
    → (place : ℕ) → slice_get row place ≡ Some pair → start + pair.1 ≡ place
placed-at starts row pair start is_row at within place is =
    let same : start ≡ get_or starts pair.0 0 = at ∙ get_or_default starts pair.0 start 0 within in
    let placed = (is_row.placed place pair is).1 in
    omega (arith, same, placed)

-- what stands at the place where the pair would stand
stands-at : (row : List (ℕ × ℕ)) (pair own : ℕ × ℕ) (p place : ℕ) → own ≡ get_or row p own → p ≡ place → slice_get row place ≡ Some pair → own ≡ pair
stands-at row pair own p place at same is = at ∙ get_or_from_slice_get row p pair own (ap (slice_get row) same ∙ is)

pub returns-then-cluster-len : goal.returns-then-cluster-len
returns-then-cluster-len c =
    let v = c.self.inside in
    let pair : ℕ × ℕ = (c.args.cluster, c.args.class) in
    let Of : List (ℕ × ℕ) → Type 0 = λ row. IsPlaceOf row pair None in
    subst Of c.self.view_is (place-none v.pairs.items pair (λ place is.
    let at = (c.self.invariant.placed place pair is).0 in
    omega (arith, at, v.starts.ok.0)))

pub returns-then-place-len : goal.returns-then-place-len
returns-then-place-len c =
    let v = c.self.inside in
    let pair : ℕ × ℕ = (c.args.cluster, c.args.class) in
    let start = c.index.result.now in
    let within : c.args.cluster < length v.starts.items = omega (arith, v.starts.ok.0) in
    let Of : List (ℕ × ℕ) → Type 0 = λ row. IsPlaceOf row pair None in
    subst Of c.self.view_is (place-none v.pairs.items pair (λ place is.
    let at = placed-at v.starts.items v.pairs.items pair start c.self.invariant c.index.ensures within place is in
    let short = slice_get_within v.pairs.items place pair is in
    omega (arith, at, short, v.pairs.ok.0)))

pub returns-then-own_class-class : goal.returns-then-own_class-class
returns-then-own_class-class c =
    let v = c.self.inside in
    let pair : ℕ × ℕ = (c.args.cluster, c.args.class) in
    let start = c.index.result.now in
    let own = c.index-2.result.now in
    let p = start + c.args.class in
    let within : c.args.cluster < length v.starts.items = omega (arith, v.starts.ok.0) in
    let short : p < length v.pairs.items = omega (arith, v.pairs.ok.0) in
    let here : slice_get v.pairs.items p ≡ Some pair =
    slice_get-get_or v.pairs.items p own short
    ∙ ap (λ (x : ℕ × ℕ). Some x) (sym c.index-2.ensures ∙ pair-is own c.args.cluster c.args.class c.if-own_cluster-cluster.true c.if-own_class-class.true) in
    let Of : List (ℕ × ℕ) → Type 0 = λ row. IsPlaceOf row pair (Some p) in
    subst Of c.self.view_is (place-some v.pairs.items pair p here
    (placed-at v.starts.items v.pairs.items pair start c.self.invariant c.index.ensures within))

pub returns-else-own_cluster-cluster : goal.returns-else-own_cluster-cluster
returns-else-own_cluster-cluster c =
    let v = c.self.inside in
    let pair : ℕ × ℕ = (c.args.cluster, c.args.class) in
    let start = c.index.result.now in
    let own = c.index-2.result.now in
    let p = start + c.args.class in
    let within : c.args.cluster < length v.starts.items = omega (arith, v.starts.ok.0) in
    let same : (place : ℕ) → slice_get v.pairs.items place ≡ Some pair → own ≡ pair = λ place is.
    stands-at v.pairs.items pair own p place c.index-2.ensures
    (placed-at v.starts.items v.pairs.items pair start c.self.invariant c.index.ensures within place is) is in
    let Of : List (ℕ × ℕ) → Type 0 = λ row. IsPlaceOf row pair None in
    subst Of c.self.view_is (place-none v.pairs.items pair (λ place is.
    let first : own.0 ≡ c.args.cluster = ap (λ (x : ℕ × ℕ). x.0) (same place is) in
    let second : own.1 ≡ c.args.class = ap (λ (x : ℕ × ℕ). x.1) (same place is) in
    elim c.else-own_cluster-cluster.branch [
      | else-own_cluster-cluster-via-then-own_cluster-cluster+else-own_class-class w ↦ w.if-own_class-class.false second
      | else-own_cluster-cluster-via-else-own_cluster-cluster w ↦ w.if-own_cluster-cluster.false first
    ]))
