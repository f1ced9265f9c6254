-- The variable of today comes first, and those of the packages as they are follow.
use Rattle.std.proofs.Common.{◌≡◌, ℕ, suc, ◌+◌, ◌<◌, List, ◌++◌, Some, length, get_or, map, ap, ◌∙◌, arith, slice_get, length-append}
use Rattle.std.proofs.lemmas.List.{get_or_append_left, length-map}
use Rattle.std.proofs.lemmas.List.FromFn.{get_or-map-range_with_len, length-range_with_len}
use Rattle.std.proofs.lemmas.Option.{slice_get-get_or}
use Rattle.std.specs.List.{flat_map}
use Rattle.dist_space.specs.NumberingPrivate.{below, cluster_part, fresh_part, meanings_of}
use Rattle.dist_space.specs.Space.{IsSpace, SpaceView, variable_of}
use Rattle.dist_space.specs.VariableLaws.{variable-at}
use Rattle.dist_space.specs.declared.meaning.Meaning.{Meaning}
use Rattle.dist_space.specs.declared.meaning.Meaning.TheVariants.{Now, Present}
use Rattle.dist_space.proofs.NumberingLemmas.{numbered}
use Rattle.dist_space.proofs.OneSpace.{one-meanings}

module _ (s : SpaceView) (space : IsSpace s) where
  as-made : s.meanings ≡ meanings_of s
  as-made = one-meanings s (meanings_of s) s.meanings (numbered s space.frame) space.meanings

  pub today-first : variable_of s Now ≡ 1
  today-first = variable-at s Now 0 space.meanings.rising (ap (λ (ms : List Meaning). slice_get ms 0) as-made)

  pub packages-next : (n : ℕ) → n < length s.repository.packages → variable_of s (Present n) ≡ n + 2
  packages-next n within =
      let numbers : List ℕ = below (length s.repository.packages) in
      let packages : List Meaning = map (λ r. Present r) numbers in
      let rest : List Meaning = flat_map (cluster_part s) (below (length s.clusters.members)) ++ flat_map (fresh_part s) (below (length s.names)) in
      let few : n < length numbers = omega (arith, within, length-range_with_len 0 (length s.repository.packages)) in
      let short : n < length packages = omega (arith, few, length-map numbers (λ (r : ℕ). Present r)) in
      let long : n < length (packages ++ rest) = omega (arith, short, length-append packages rest) in
      let here : get_or (packages ++ rest) n (Present n) ≡ Present n =
      get_or_append_left packages rest (Present n) n short
      ∙ get_or-map-range_with_len (λ (r : ℕ). Present r) 0 (length s.repository.packages) n n (Present n) within (omega arith) in
      let at : slice_get (meanings_of s) (suc n) ≡ Some (Present n) =
      slice_get-get_or (packages ++ rest) n (Present n) long ∙ ap (λ (m : Meaning). Some m) here in
      let found : variable_of s (Present n) ≡ suc n + 1 =
      variable-at s (Present n) (suc n) space.meanings.rising (ap (λ (ms : List Meaning). slice_get ms (suc n)) as-made ∙ at) in
      omega (arith, found)
