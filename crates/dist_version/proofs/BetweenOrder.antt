-- The order of an extended part, and of tildes, without the texts.
use Rattle.std.proofs.Common.{◌≡◌, ◌≢◌, ℕ, zero, suc, ◌+◌, ◌-◌, ◌<◌, ◌≤◌, List, [], ◌∷◌, ◌++◌, length, map, drop, ℤ, pos, negsuc, Ordering, Less, Equal}
use Rattle.std.proofs.Common.{Greater}
use Rattle.std.proofs.Common.{int_cmp, nat_cmp, true, None, refl, sym, ap, ap₂, ◌∙◌, subst, ◌⊎◌, inl, inr, arith, length-append}
use Rattle.std.specs.Prelude.{codes, replicate}
use Rattle.std.specs.Char.{is_ascii_digit}
use Rattle.std.specs.Ordering.{ordering_then, is_ne}
use Rattle.std.specs.Option.{unwrap_or}
use Rattle.std.specs.Str.Parse.{digits_value}
use Rattle.std.proofs.lemmas.Bool.{cases_Bool}
use Rattle.dist_base.specs.Ascii.{tilde}
use Rattle.dist_version.specs.Between.{above_text, below_text}
use Rattle.dist_version.specs.Faults.{fault_of}
use Rattle.dist_version.specs.Order.{after_turn, number_of, part_cmp, text_start, version_cmp, weight_at, weight_of, weights_cmp, weights_of}
use Rattle.dist_version.specs.OrderLaws.{version_cmp-parts}
use Rattle.dist_version.specs.Spelling.{Parts, after_epoch, epoch_digits, epoch_of, revision_of, upstream_of}
use Rattle.dist_version.proofs.Density.{Turned, above_parts_are, alone, below_parts_are, extended, extended_turn, letter_and, letter_turn}
use Rattle.dist_version.proofs.Density.{text_start-cons, tildes-all, other_byte}
use Rattle.dist_version.proofs.Then.{then_stop}
use Rattle.dist_version.proofs.Turns.{after_turn-shorter_by_one, part_cmp-by_turns, part_cmp-turn, text_weights, weight_nonzero, weights_cmp-drop}
use Rattle.dist_version.proofs.Turns.{weights_of-empty, weights_of-turn}

-- ---- tildes

-- the first weight of the other text decides where this one is empty
first-decides : (o p : Ordering) → o ≢ Equal → ordering_then o p ≡ o
first-decides Less p h = refl
first-decides Equal p h = absurd (h refl)
first-decides Greater p h = refl

pub no_text_and : (part : List ℕ) → weights_cmp [] (map weight_of (text_start part)) ≡ int_cmp (pos 0) (weight_at (map weight_of (text_start part)) 0)
no_text_and [] = refl
no_text_and (c ∷ cs) = elim (cases_Bool (is_ascii_digit c)) [
  | inl digit ↦ rw digit refl
  | inr other ↦
      let start = text_start-cons c cs other in
      let P : List ℕ → Type 0 = λ s. weights_cmp [] (map weight_of s) ≡ int_cmp (pos 0) (weight_at (map weight_of s) 0) in
      subst P (sym start) (first-decides (int_cmp (pos 0) (weight_of c)) _ (weight_nonzero c).0)
]

-- One more weight in front of others is compared with the first one of the part, and what follows with what follows.
pub weight_and : (w : ℤ) (ws : List ℤ) (part : List ℕ) → weights_cmp (w ∷ ws) (map weight_of (text_start part))
    ≡ ordering_then (int_cmp w (weight_at (map weight_of (text_start part)) 0)) (weights_cmp ws (drop 1 (map weight_of (text_start part))))
weight_and w ws part = weights_cmp-drop (w ∷ ws) (map weight_of (text_start part)) 0

pub tildes-stop : (left : ℕ) (part : List ℕ) (order : Ordering) → 0 < left → order ≡ int_cmp (negsuc 0) (weight_at (map weight_of (text_start part)) 0)
    → true ≡ is_ne order → order ≡ weights_cmp (map weight_of (replicate left tilde)) (map weight_of (text_start part))
tildes-stop zero part order some is ne = absurd (omega (arith, some))
tildes-stop (suc left) part order some is ne =
    let rest : Ordering = weights_cmp (map weight_of (replicate left tilde)) (drop 1 (map weight_of (text_start part))) in
    sym (weight_and (negsuc 0) (map weight_of (replicate left tilde)) part ∙ ap (λ (o : Ordering). ordering_then o rest) (sym is) ∙ then_stop order rest ne)

pub tildes-end : (left : ℕ) (part : List ℕ) (order : Ordering) → left ≡ 0 → order ≡ int_cmp (pos 0) (weight_at (map weight_of (text_start part)) 0)
    → order ≡ weights_cmp (map weight_of (replicate left tilde)) (map weight_of (text_start part))
tildes-end left part order none is =
    is ∙ sym (no_text_and part) ∙ ap (λ (n : ℕ). weights_cmp (map weight_of (replicate n tilde)) (map weight_of (text_start part))) (sym none)

-- ---- turns by weights

weights-apart : (s t : List ℕ) (m n : ℕ) (xs ys : List ℤ) → map weight_of s ++ pos 0 ∷ pos m ∷ xs ≡ map weight_of t ++ pos 0 ∷ pos n ∷ ys
    → (map weight_of s ≡ map weight_of t) × (m ≡ n) × (xs ≡ ys)
weights-apart [] [] m n xs ys e = (refl, (let p : m ≡ n = cc in p), (let p : xs ≡ ys = cc in p))
weights-apart [] (y ∷ t) m n xs ys e =
    let zero_weight : pos 0 ≡ weight_of y = cc in absurd ((weight_nonzero y).0 (ap (int_cmp (pos 0)) (sym zero_weight)))
weights-apart (x ∷ s) [] m n xs ys e =
    let zero_weight : weight_of x ≡ pos 0 = cc in absurd ((weight_nonzero x).0 (ap (int_cmp (pos 0)) zero_weight))
weights-apart (x ∷ s) (y ∷ t) m n xs ys e =
    let first : weight_of x ≡ weight_of y = cc in
    let rest : map weight_of s ++ pos 0 ∷ pos m ∷ xs ≡ map weight_of t ++ pos 0 ∷ pos n ∷ ys = cc in
    let all = weights-apart s t m n xs ys rest in
    (ap₂ (λ (w : ℤ) (ws : List ℤ). w ∷ ws) first all.0, all.1, all.2)

-- parts with the same weights have the same first turn by its weights, and leave the same weights
pub record SameTurn (a b : List ℕ) : Type 0 where
  pub text : text_weights a ≡ text_weights b
  pub number : number_of a ≡ number_of b
  pub rest : weights_of (after_turn a) ≡ weights_of (after_turn b)

some-weights : (x : ℕ) (xs : List ℕ) → weights_of (x ∷ xs) ≡ [] → ⊥
some-weights x xs none =
    let whole = weights_of-turn (x ∷ xs) (omega arith) in
    let count = ap (λ (ws : List ℤ). length ws) (sym whole ∙ none) in
    let both = length-append (text_weights (x ∷ xs)) (pos 0 ∷ pos (number_of (x ∷ xs)) ∷ weights_of (after_turn (x ∷ xs))) in
    omega (arith, count, both)

same-turn : (a b : List ℕ) → weights_of a ≡ weights_of b → SameTurn a b
same-turn [] [] same = record { text = refl; number = refl; rest = refl }
same-turn [] (y ∷ b) same = absurd (some-weights y b (sym same ∙ weights_of-empty))
same-turn (x ∷ a) [] same = absurd (some-weights x a (same ∙ weights_of-empty))
same-turn (x ∷ a) (y ∷ b) same =
    let all = weights-apart (text_start (x ∷ a)) (text_start (y ∷ b)) (number_of (x ∷ a)) (number_of (y ∷ b)) (weights_of (after_turn (x ∷ a)))
    (weights_of (after_turn (y ∷ b))) (sym (weights_of-turn (x ∷ a) (omega arith)) ∙ same ∙ weights_of-turn (y ∷ b) (omega arith)) in
    record { text = all.0; number = all.1; rest = all.2 }

none-left : (part : List ℕ) → weights_of part ≡ [] → part ≡ []
none-left [] none = refl
none-left (x ∷ xs) none = absurd (some-weights x xs none)

-- ---- extended parts

-- what is left of an extended part behind its first turn
abbrev Left : List ℕ → ℕ → Type 0
Left part n = ((0 < length (after_turn part)) × (after_turn (extended part n) ≡ extended (after_turn part) n))
    ⊎ ((after_turn part ≡ []) × (after_turn (extended part n) ≡ letter_and n))

by-turn : (text q : List ℕ) → Turned text text [] [] → part_cmp text q ≡ ordering_then (weights_cmp (map weight_of text) (map weight_of (text_start q)))
    (ordering_then (nat_cmp 0 (number_of q)) (part_cmp [] (after_turn q)))
by-turn text q t =
    part_cmp-turn text q ∙ ap₂ (λ (s : List ℕ) (rest : List ℕ). ordering_then (weights_cmp (map weight_of s) (text_weights q))
    (ordering_then (nat_cmp (number_of text) (number_of q)) (part_cmp rest (after_turn q)))) t.text t.rest
    ∙ ap (λ (k : ℕ). ordering_then (weights_cmp (map weight_of text) (text_weights q)) (ordering_then (nat_cmp k (number_of q)) (part_cmp [] (after_turn q))))
    (ap (digits_value 10) t.digits)

module _ (n : ℕ) where
  rest-alike : (a b q : List ℕ) → (0 < length (after_turn a) → part_cmp (extended (after_turn a) n) q ≡ part_cmp (extended (after_turn b) n) q)
      → weights_of (after_turn a) ≡ weights_of (after_turn b) → Left a n → Left b n
      → part_cmp (after_turn (extended a n)) q ≡ part_cmp (after_turn (extended b n)) q
  rest-alike a b q further same (inl first) (inl second) =
      ap (λ (s : List ℕ). part_cmp s q) first.1 ∙ further first.0 ∙ sym (ap (λ (s : List ℕ). part_cmp s q) second.1)
  rest-alike a b q further same (inr first) (inr second) = ap (λ (s : List ℕ). part_cmp s q) (first.1 ∙ sym second.1)
  rest-alike a b q further same (inl first) (inr second) =
      let none = none-left (after_turn a) (same ∙ ap weights_of second.0 ∙ weights_of-empty) in
      absurd (omega (arith, first.0, ap (λ (s : List ℕ). length s) none))
  rest-alike a b q further same (inr first) (inl second) =
      let none = none-left (after_turn b) (sym same ∙ ap weights_of first.0 ∙ weights_of-empty) in
      absurd (omega (arith, second.0, ap (λ (s : List ℕ). length s) none))

  step-alike : (a b q : List ℕ) → ((x y : List ℕ) → x ≡ after_turn a → y ≡ after_turn b → 0 < length (after_turn a)
      → part_cmp (extended x n) (after_turn q) ≡ part_cmp (extended y n) (after_turn q)) → weights_of a ≡ weights_of b
      → part_cmp (extended a n) q ≡ part_cmp (extended b n) q
  step-alike a b q further same =
      let turn = same-turn a b same in
      let e = extended_turn a n in
      let f = extended_turn b n in
      let texts : text_weights (extended a n) ≡ text_weights (extended b n) = ap (map weight_of) e.text ∙ turn.text ∙ sym (ap (map weight_of) f.text) in
      let numbers : number_of (extended a n) ≡ number_of (extended b n) = e.number ∙ turn.number ∙ sym f.number in
      let rests = rest-alike a b (after_turn q) (further (after_turn a) (after_turn b) refl refl) turn.rest e.rest f.rest in
      part_cmp-turn (extended a n) q
      ∙ ap₂ (λ (ws : List ℤ) (k : ℕ). ordering_then (weights_cmp ws (text_weights q)) (ordering_then (nat_cmp k (number_of q))
      (part_cmp (after_turn (extended a n)) (after_turn q)))) texts numbers
      ∙ ap (λ (o : Ordering). ordering_then (weights_cmp (text_weights (extended b n)) (text_weights q)) (ordering_then (nat_cmp (number_of (extended b n))
      (number_of q)) o)) rests ∙ sym (part_cmp-turn (extended b n) q)

  all-alike : (m : ℕ) (a b q : List ℕ) → length a ≤ m → weights_of a ≡ weights_of b → part_cmp (extended a n) q ≡ part_cmp (extended b n) q
  all-alike zero a b q size same = step-alike a b q
      (λ x y first second some. absurd (omega (arith, size, some, after_turn-shorter_by_one a))) same
  all-alike (suc m) a b q size same = step-alike a b q
      (λ x y first second some. all-alike m x y (after_turn q) (omega (arith, size, ap (λ (s : List ℕ). length s) first, after_turn-shorter_by_one a))
      (ap weights_of first ∙ (same-turn a b same).rest ∙ sym (ap weights_of second))) same

  -- parts with the same weights compare alike, extended, with every other
  pub extended-alike : (a b q : List ℕ) → weights_of a ≡ weights_of b → part_cmp (extended a n) q ≡ part_cmp (extended b n) q
  extended-alike a b q same = all-alike (length a) a b q (omega arith) same

  -- ---- one turn of an extended part

  pub extended-stops : (a q : List ℕ) (order : Ordering)
      → order ≡ ordering_then (weights_cmp (map weight_of (text_start a)) (map weight_of (text_start q))) (nat_cmp (number_of a) (number_of q))
      → part_cmp (extended a n) q ≡ ordering_then order (part_cmp (after_turn (extended a n)) (after_turn q))
  extended-stops a q order is =
      let e = extended_turn a n in
      part_cmp-by_turns (extended a n) q order (is ∙ ap₂ (λ (s : List ℕ) (k : ℕ). ordering_then (weights_cmp (map weight_of s)
      (map weight_of (text_start q))) (nat_cmp k (number_of q))) (sym e.text) (sym e.number))

  pub left-some : (a : List ℕ) → 0 < length (after_turn a) → after_turn (extended a n) ≡ extended (after_turn a) n
  left-some a some = elim (extended_turn a n).rest [
    | inl more ↦ more.1
    | inr none ↦ absurd (omega (arith, some, ap (λ (s : List ℕ). length s) none.0))
  ]

  pub left-none : (a : List ℕ) → length (after_turn a) ≡ 0 → after_turn (extended a n) ≡ letter_and n
  left-none a none = elim (extended_turn a n).rest [
    | inl more ↦ absurd (omega (arith, none, more.0))
    | inr all ↦ all.1
  ]

  pub letter-order : (q : List ℕ) → part_cmp (letter_and n) q ≡ ordering_then (weights_cmp (map weight_of (letter_and n)) (map weight_of (text_start q)))
      (ordering_then (nat_cmp 0 (number_of q)) (part_cmp [] (after_turn q)))
  letter-order q = by-turn (letter_and n) q (letter_turn n)

pub tildes-order : (n : ℕ) (q : List ℕ) → part_cmp (replicate n tilde) q
    ≡ ordering_then (weights_cmp (map weight_of (replicate n tilde)) (map weight_of (text_start q))) (ordering_then (nat_cmp 0 (number_of q)) (part_cmp []
    (after_turn q)))
tildes-order n q = by-turn (replicate n tilde) q (alone (replicate n tilde) (tildes-all other_byte n refl))

-- ---- whole versions

pub after-order : (text other : List ℕ) (n : ℕ) → fault_of text ≡ None → version_cmp (above_text text n) other
    ≡ ordering_then (nat_cmp (epoch_of text) (epoch_of other)) (ordering_then (part_cmp (upstream_of text) (upstream_of other))
    (part_cmp (extended (unwrap_or (revision_of text) []) n) (unwrap_or (revision_of other) [])))
after-order text other n sound =
    let order : Parts → Ordering = λ p. ordering_then (nat_cmp p.epoch (epoch_of other))
    (ordering_then (part_cmp p.upstream (upstream_of other)) (part_cmp (unwrap_or p.revision []) (unwrap_or (revision_of other) []))) in
    version_cmp-parts (above_text text n) other ∙ ap order (sym (above_parts_are text n sound))

pub below-order : (text other : List ℕ) → version_cmp (below_text text) other
    ≡ ordering_then (nat_cmp 0 (epoch_of other)) (ordering_then (part_cmp (below_text text) (upstream_of other))
    (part_cmp [] (unwrap_or (revision_of other) [])))
below-order text other =
    let order : Parts → Ordering = λ p. ordering_then (nat_cmp p.epoch (epoch_of other))
    (ordering_then (part_cmp p.upstream (upstream_of other)) (part_cmp (unwrap_or p.revision []) (unwrap_or (revision_of other) []))) in
    version_cmp-parts (below_text text) other ∙ ap order (sym (below_parts_are text))

zero-epoch : epoch_of (codes "0") ≡ 0
unfolding epoch_of epoch_digits
zero-epoch = refl

zero-upstream : upstream_of (codes "0") ≡ codes "0"
unfolding upstream_of after_epoch
zero-upstream = refl

zero-revision : unwrap_or (revision_of (codes "0")) [] ≡ []
unfolding revision_of after_epoch
zero-revision = refl

pub zero-order : (other : List ℕ) → version_cmp (codes "0") other ≡ ordering_then (nat_cmp 0 (epoch_of other))
    (ordering_then (part_cmp (codes "0") (upstream_of other)) (part_cmp [] (unwrap_or (revision_of other) [])))
zero-order other =
    let order : ℕ → List ℕ → List ℕ → Ordering = λ e u r. ordering_then (nat_cmp e (epoch_of other))
    (ordering_then (part_cmp u (upstream_of other)) (part_cmp r (unwrap_or (revision_of other) []))) in
    version_cmp-parts (codes "0") other ∙ ap (λ (e : ℕ). order e (upstream_of (codes "0")) (unwrap_or (revision_of (codes "0")) [])) zero-epoch
    ∙ ap (λ (u : List ℕ). order 0 u (unwrap_or (revision_of (codes "0")) [])) zero-upstream
    ∙ ap (λ (r : List ℕ). order 0 (codes "0") r) zero-revision
