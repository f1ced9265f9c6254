-- The order of the variables of meanings, by their keys.
use Rattle.std.proofs.Common.{◌≡◌, ℕ, ◌-◌, ◌<◌, Less, Equal, get_or, refl, sym, subst, ◌∙◌, arith, inl, inr}
use Rattle.std.proofs.lemmas.Bool.{cases_lt}
use Rattle.std.proofs.lemmas.Cmp.{nat_list_cmp_total, tied_itself}
use Rattle.std.proofs.lemmas.Option.{get_or_from_slice_get, slice_get_within}
use Rattle.dist_space.specs.Space.{IsMeaning, IsSpace, SpaceView, StandsBefore, key_of, variable_of}
use Rattle.dist_space.specs.declared.meaning.Meaning.{Meaning}
use Rattle.dist_space.specs.declared.meaning.Meaning.TheVariants.{At, Fresh}
use Rattle.dist_space.specs.VariableLaws.{one-meaning, place-at, variable-range}
use Rattle.dist_space.specs.KeyLaws.{IsLess, less-cmp}

never-before-itself : (s : SpaceView) (m : Meaning) → ¬ StandsBefore s m m
never-before-itself s m before = let no : Equal ≡ Less = sym (tied_itself nat_list_cmp_total (key_of s m)) ∙ before in cc

rising-at : (s : SpaceView) (m n : Meaning) → IsSpace s → IsMeaning s m → IsMeaning s n → variable_of s m < variable_of s n → StandsBefore s m n
rising-at s m n space is_m is_n less =
    let first = place-at s m space is_m in
    let second = place-at s n space is_n in
    let range = variable-range s m space is_m in
    let h = space.meanings.rising (variable_of s m - 1) (variable_of s n - 1) m (omega (arith, less, range.0))
    (slice_get_within s.meanings (variable_of s n - 1) n second) in
    subst (λ (x : Meaning). StandsBefore s m x) (get_or_from_slice_get s.meanings (variable_of s n - 1) n m second)
    (subst (λ (x : Meaning). StandsBefore s x (get_or s.meanings (variable_of s n - 1) m)) (get_or_from_slice_get s.meanings (variable_of s m - 1) m m first) h)

-- what stands before another meaning has a lesser variable
pub before-less : (s : SpaceView) (m n : Meaning) → IsSpace s → IsMeaning s m → IsMeaning s n → StandsBefore s m n → variable_of s m < variable_of s n
before-less s m n space is_m is_n before = elim (cases_lt (variable_of s m) (variable_of s n)) [
  | inl less ↦ less
  | inr past ↦ elim (cases_lt (variable_of s n) (variable_of s m)) [
    | inl less ↦ absurd (never-before-itself s m (nat_list_cmp_total.trans (key_of s m) (key_of s n) (key_of s m) before
        (rising-at s n m space is_n is_m less)))
    | inr also ↦
        let same : m ≡ n = one-meaning s m n space is_m is_n (omega (arith, past, also)) in
        absurd (never-before-itself s m (subst (λ (x : Meaning). StandsBefore s m x) (sym same) before))
  ]
]

-- by the first numbers of the keys
pub key-less : (s : SpaceView) (m n : Meaning) → IsSpace s → IsMeaning s m → IsMeaning s n → IsLess (key_of s m) (key_of s n)
    → variable_of s m < variable_of s n
key-less s m n space is_m is_n less = before-less s m n space is_m is_n (less-cmp (key_of s m) (key_of s n) less)

pub class-less : (s : SpaceView) (c k l : ℕ) → IsSpace s → IsMeaning s (At c k) → IsMeaning s (At c l) → k < l → variable_of s (At c k) < variable_of s (At c l)
class-less s c k l space is_k is_l less = key-less s (At c k) (At c l) space is_k is_l (inr (refl, inr (refl, inl less)))

pub fresh-less : (s : SpaceView) (x k l : ℕ) → IsSpace s → IsMeaning s (Fresh x k) → IsMeaning s (Fresh x l) → k < l
    → variable_of s (Fresh x k) < variable_of s (Fresh x l)
fresh-less s x k l space is_k is_l less = key-less s (Fresh x k) (Fresh x l) space is_k is_l (inr (refl, inr (refl, inl less)))
