use Rattle.std.proofs.Common.{◌≡◌, List, ℕ, Result, Ok, Err, nat_cmp}
use Rattle.std.specs.Prelude.{IfOk}
use Rattle.std.specs.Cmp.Lexicographic.{slice_cmp}
use Rattle.std.specs.List.{AllZip}
use Rattle.std.specs.List.Sorted.{IsStrictlySortedBy}
use Rattle.std.specs.Map.{keys_of}
use Rattle.dist_repo.specs.Indexed.{IsIndex}
use Rattle.dist_repo.specs.PackageList.{PackageList}
use Rattle.dist_repo.specs.TallyPrivate.{AreNumbersOf, IsRowOf, IsTallyOf}
use Rattle.dist_repo.specs.declared.names.NameIndex.{NameIndex}
use Rattle.dist_repo.specs.declared.offers.Offer.{Offer}
use Rattle.dist_repo.proofs.FlatTally.{index-from_tally}
use Rattle.dist_repo.proofs.repository.index_of.Goals as goal

indexed : {E : Type 0} (r : PackageList) (tally : List (List ℕ × List Offer)) (found : Result NameIndex E) → IsTallyOf r.architecture r.packages tally
    → IfOk found (λ index. index.names ≡ keys_of tally) → IfOk found (λ index. IsStrictlySortedBy (slice_cmp nat_cmp) index.names)
    → IfOk found (λ index. AllZip AreNumbersOf index.numbers index.offers) → IfOk found (λ index. AllZip (IsRowOf r.packages) index.offers tally)
    → IfOk found (λ index. IsIndex r index.names index.numbers index.offers)
indexed r tally (Ok index) tallied names sorted numbers rows =
    index-from_tally r tally index.names index.numbers index.offers tallied names sorted numbers rows
indexed r tally (Err error) tallied names sorted numbers rows = tt

pub returns : goal.returns
returns c =
    let found = c.flattened-index.ensures in
    indexed (record { architecture = c.args.architecture.now; packages = c.args.packages.now }) c.in_ok-tally.tally c.flattened-index.result
    c.in_ok-tally.ensures found.names found.in_order found.numbers found.offers
