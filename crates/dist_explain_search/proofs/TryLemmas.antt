-- Which relations of the core are still to be left out.
use Rattle.std.proofs.Common.{◌≡◌, ◌≢◌, ◌⊎◌, inl, inr, ℕ, ◌+◌, ◌*◌, ◌<◌, ◌≤◌, Bool, true, false, List, [], ◌∷◌, ◌++◌, length, sym, ap}
use Rattle.std.proofs.Common.{ap₂, subst, ◌∙◌, arith, ◌↔◌}
use Rattle.std.proofs.Common.{length-append, mul-le-mul_left}
use Rattle.std.specs.Bool.{IsTrue}
use Rattle.std.specs.List.{Contains}
use Rattle.std.proofs.lemmas.Bool.{cases_Bool, true≢false}
use Rattle.std.proofs.lemmas.List.Elements.{All-contains, Contains-append_left, Contains-append_right, Contains-push, Contains-push_cases}
use Rattle.dist_cert.specs.ListLaws.{any-from, from-any}
use Rattle.dist_cert.specs.Rising.{is_among}
use Rattle.dist_outside.specs.DeskView.{DeskView}
use Rattle.dist_outside.specs.declared.trouble.WorkError.{WorkError}
use Rattle.dist_line_write.specs.Asking.{AskerView}
use Rattle.dist_line_write.specs.ScriptLaws.{BeginsLaw}
use Rattle.dist_explain.specs.NotesPrivate.{NotesView}
use Rattle.dist_explain_search.specs.SearchPrivate.{Goes, GoesNot, IsSmaller, Marks, others_of}
use Rattle.dist_explain_search.proofs.GoingLemmas.{goes-on}
use Rattle.dist_explain.specs.declared.asked.Asked.{Asked}
use Rattle.dist_explain_search.proofs.QuestionLemmas.{others-but, others-fewer}

-- each number of the core is done or left
abbrev pub Covers : (core done left : List ℕ) → Type 0
Covers core done left = (k : ℕ) → Contains core k → Contains done k ⊎ Contains left k

there-or-not : (numbers : List ℕ) (one : ℕ) → Contains numbers one ⊎ (Contains numbers one → ⊥)
there-or-not numbers one = elim (cases_Bool (is_among numbers one)) [
  | inl is_there ↦ inl (from-any one numbers is_there)
  | inr is_not ↦ inr (λ there. true≢false (sym (any-from one numbers there) ∙ is_not))
]

module _ (core done left front : List ℕ) (one : ℕ) (popped : left ≡ front ++ one ∷ []) (cover : Covers core done left) where
  among : (k : ℕ) → Contains core k → Contains done k ⊎ (Contains front k ⊎ (one ≡ k))
  among k there = elim (cover k there) [
    | inl is ↦ inl is
    | inr has ↦ inr (Contains-push_cases front one k (subst (λ (ns : List ℕ). Contains ns k) popped has))
  ]

  -- it is not to be left out
  pub skip-covers : ¬ (Contains core one × (¬ Contains done one)) → Covers core done front
  skip-covers not_open k there = elim (among k there) [
    | inl is ↦ inl is
    | inr (inl has) ↦ inr has
    | inr (inr same) ↦ elim (there-or-not done k) [
      | inl is ↦ inl is
      | inr none ↦ absurd (not_open (subst (Contains core) (sym same) there, λ is. none (subst (Contains done) same is)))
    ]
  ]

  -- it has its mark
  pub mark-covers : Covers core (done ++ one ∷ []) front
  mark-covers k there = elim (among k there) [
    | inl is ↦ inl (Contains-append_left done (one ∷ []) k is)
    | inr (inl has) ↦ inr has
    | inr (inr same) ↦ inl (subst (Contains (done ++ one ∷ [])) same (Contains-push done one))
  ]

  -- the core is smaller without it
  pub shrink-covers : (asked : Asked) (fewer : List ℕ) → Contains core one → IsSmaller asked (others_of core one) fewer
      → Covers fewer [] (done ++ front)
  shrink-covers asked fewer there smaller k has =
      let but = others-but core one there in
      let in_core = (but.exact k).0 (All-contains (Contains (others_of core one)) fewer k smaller.within has) in
      inr (elim (among k in_core.0) [
        | inl is ↦ Contains-append_left done front k is
        | inr (inl later) ↦ Contains-append_right done front k later
        | inr (inr same) ↦ absurd (in_core.1 (sym same))
      ])

pub shrink-measure : (asked : Asked) (core done front fewer : List ℕ) (one bound left : ℕ) → Contains core one
    → IsSmaller asked (others_of core one) fewer → length done + left ≤ bound → left ≡ length front + 1
    → (bound + 1) * length fewer + length (done ++ front) < (bound + 1) * length core + left
shrink-measure asked core done front fewer one bound left there smaller few is =
    let less = others-fewer core one there in
    let at_most = smaller.few in
    let shorter : length fewer + 1 ≤ length core = omega (arith, less, at_most) in
    let product = mul-le-mul_left (bound + 1) shorter in
    let joined = length-append done front in
    omega (arith, product, joined, few, is)

-- ---- what is known of the core in another spelling

pub opened : (core done given other : List ℕ) (one : ℕ) (b : Bool) → IsTrue b ↔ (Contains given one × (¬ Contains other one)) → given ≡ core → other ≡ done
    → b ≡ true → Contains core one × (¬ Contains done one)
opened core done given other one b iff same also is =
    let both = iff.0 is in
    (subst (λ (ns : List ℕ). Contains ns one) same both.0, λ there. both.1 (subst (λ (ns : List ℕ). Contains ns one) (sym also) there))

pub closed : (core done given other : List ℕ) (one : ℕ) (b : Bool) → IsTrue b ↔ (Contains given one × (¬ Contains other one)) → given ≡ core → other ≡ done
    → b ≡ false → ¬ (Contains core one × (¬ Contains done one))
closed core done given other one b iff same also is both =
    true≢false (sym (iff.1 (
      subst (λ (ns : List ℕ). Contains ns one) (sym same) both.0,
      λ there. both.1 (subst (λ (ns : List ℕ). Contains ns one) also there),
    )) ∙ is)

module _ (asked other : Asked) (core given : List ℕ) (same : other ≡ asked) (is : given ≡ core) (old new : DeskView) (a b : AskerView) (n m : NotesView) where
  pub shrink-goes : (done fewer : List ℕ) → Goes other (Marks other given done) (Marks other fewer []) old new a b n m
      → Goes asked (Marks asked core done) (Marks asked fewer []) old new a b n m
  shrink-goes done fewer goes =
      subst (λ (k : Asked). Goes k (Marks k core done) (Marks k fewer []) old new a b n m) same
      (subst (λ (ns : List ℕ). Goes other (Marks other ns done) (Marks other fewer []) old new a b n m) is goes)

  pub mark-goes : (done more : List ℕ) → Goes other (Marks other given done) (Marks other given more) old new a b n m
      → Goes asked (Marks asked core done) (Marks asked core more) old new a b n m
  mark-goes done more goes =
      subst (λ (k : Asked). Goes k (Marks k core done) (Marks k core more) old new a b n m) same
      (subst (λ (ns : List ℕ). Goes other (Marks other ns done) (Marks other ns more) old new a b n m) is goes)

  pub goes-not : (done : List ℕ) (error : WorkError) → GoesNot other (Marks other given done) old new a n error
      → GoesNot asked (Marks asked core done) old new a n error
  goes-not done error goes =
      subst (λ (k : Asked). GoesNot k (Marks k core done) old new a n error) same
      (subst (λ (ns : List ℕ). GoesNot other (Marks other ns done) old new a n error) is goes)

-- the first core, of which none is done
pub core-begun : BeginsLaw → (asked : Asked) (core done : List ℕ) (d : DeskView) (a : AskerView) (n : NotesView) → done ≡ []
    → Goes asked (Marks asked core []) (Marks asked core done) d d a a n n
core-begun begins asked core done d a n none =
    goes-on begins (Marks asked core []) (Marks asked core done) asked d a n
    (λ g lines searching marks. subst (λ (ns : List ℕ). Marks asked core ns g lines) (sym none) marks)

pub all-left : (core done left given other : List ℕ) → left ≡ given ++ other → given ≡ core → other ≡ done → done ≡ [] → Covers core done left
all-left core done left given other is same also none k there =
    inr (subst (λ (ns : List ℕ). Contains ns k) (sym is) (Contains-append_left given other k (subst (λ (ns : List ℕ). Contains ns k) (sym same) there)))

pub few-left : (core done left given other : List ℕ) → left ≡ given ++ other → given ≡ core → other ≡ done → done ≡ []
    → length done + length left ≤ length core
few-left core done left given other is same also none =
    let a = ap (λ (ns : List ℕ). length ns) is in
    let b = length-append given other in
    let d = ap (λ (ns : List ℕ). length ns) same in
    let e = ap (λ (ns : List ℕ). length ns) also in
    let f : length done ≡ 0 = ap (λ (ns : List ℕ). length ns) none in
    omega (arith, a, b, d, e, f)

-- one number less is left
pub popped-length : (left front : List ℕ) (one : ℕ) → left ≡ front ++ one ∷ [] → length left ≡ length front + 1
popped-length left front one is =
    let a = ap (λ (ns : List ℕ). length ns) is in
    let b = length-append front (one ∷ []) in
    omega (arith, a, b)

pub joined-is : (both given other done front : List ℕ) → both ≡ given ++ other → given ≡ done → other ≡ front → both ≡ done ++ front
joined-is both given other done front is same also = is ∙ ap₂ (λ (x y : List ℕ). x ++ y) same also

-- none is left
pub all-done : (core done left : List ℕ) → left ≡ [] → Covers core done left → (k : ℕ) → Contains core k → Contains done k
all-done core done left none cover k there = elim (cover k there) [
  | inl is ↦ is
  | inr has ↦ let h = subst (λ (ns : List ℕ). Contains ns k) none has in absurd (omega (arith, h.1))
]
