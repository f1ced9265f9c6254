-- What was drawn and stands there, step by step.
use Rattle.std.proofs.Common.{◌≡◌, ℕ, ◌+◌, ◌<◌, ◌≤◌, Bool, true, false, ◌==◌, List, [], ◌∷◌, ◌++◌, append_assoc, append-nil, add-one, length, Some, None, ap}
use Rattle.std.proofs.Common.{sym, ◌∙◌, arith, ne_eqb, eq-eqb}
use Rattle.std.specs.Prelude.{codes, if◌then◌else◌}
use Rattle.std.specs.List.{flat_map, join_by}
use Rattle.std.proofs.lemmas.List.Concat.{flat_map-append}
use Rattle.dist_generate.specs.Draws.{Drawing, next_state, draw, give, ◌>>=◌, many}
use Rattle.dist_generate.specs.Generator.{Alternative, Drawn, item, items, item_text, conflict, depends_lines, conflicts_lines, stanza_head, text_of_lines}
use Rattle.dist_generate.specs.Generator.{drawn, stanza_text}
use Rattle.dist_generate.specs.StepsPrivate.{Adds}
use Rattle.dist_generate.proofs.Joins.{joined-first, joined-more}
use Rattle.dist_generate.proofs.SmallDraws.{length-many}

-- what was drawn is this
pub adds-is : {X : Type 0} (drawing : Drawing X) (text_of : X → List ℕ) (old : List ℕ) (state : ℕ) (new : List ℕ) (after : ℕ) (x : X) (next : ℕ) →
    drawing state ≡ (x, next) → new ≡ old ++ text_of x → after ≡ next → Adds drawing text_of old state new after
adds-is drawing text_of old state new after x next is here moved = record {
  text = here ∙ ap (λ r. old ++ text_of r.0) (sym is);
  moved = moved ∙ ap (λ r. r.1) (sym is);
}

-- ---- one more of many, joined

pub next-moved : {X : Type 0} (each : ℕ → Drawing X) (start place state after : ℕ) → state ≡ (many each place start).1 → after ≡ (each place state).1 →
    after ≡ (many each (place + 1) start).1
next-moved each start place state after was moved = rw add-one (moved ∙ ap (λ s. (each place s).1) was)

module _ {X : Type 0} (each : ℕ → Drawing X) (text_of : X → List ℕ) (between : List ℕ) (old : List ℕ) (start place : ℕ) (text : List ℕ) (state : ℕ)
    (new : List ℕ) where
  pub next-first : place ≡ 0 → text ≡ old ++ join_by text_of between (many each place start).0 → state ≡ (many each place start).1
      → new ≡ text ++ text_of (each place state).0 →
      new ≡ old ++ join_by text_of between (many each (place + 1) start).0
  next-first none before was here =
      rw add-one (joined-first text_of between old text new (many each place start).0 (each place (many each place start).1).0
      (length-many each place start ∙ none) before (here ∙ ap (λ s. text ++ text_of (each place s).0) was))

  pub next-more : (mid : List ℕ) → 0 < place → text ≡ old ++ join_by text_of between (many each place start).0 → state ≡ (many each place start).1 →
      mid ≡ text ++ between → new ≡ mid ++ text_of (each place state).0 →
      new ≡ old ++ join_by text_of between (many each (place + 1) start).0
  next-more mid some before was gap here =
      rw add-one (joined-more text_of between old text mid new (many each place start).0 (each place (many each place start).1).0
      (omega (arith, length-many each place start, some)) before gap (here ∙ ap (λ s. mid ++ text_of (each place s).0) was))

-- so many from this state
pub many-at : {X : Type 0} (each : ℕ → Drawing X) (place count start state : ℕ) → place ≡ count → start ≡ state → many each place start ≡ many each count state
many-at each place count start state same was = ap (λ n. many each n start) same ∙ ap (many each count) was

-- ---- the lines of relations

pub depends-text : (items : List (List Alternative)) → 0 < length items →
    text_of_lines (depends_lines items) ≡ codes "Depends: " ++ (join_by item_text (codes ", ") items ++ 10 ∷ [])
depends-text [] some = absurd (omega arith)
depends-text (item ∷ items) some = append-nil ((codes "Depends: " ++ join_by item_text (codes ", ") (item ∷ items)) ++ 10 ∷ [])

pub conflict-some : (number state : ℕ) → (draw 8 state).0 ≡ 0 →
    conflict number state ≡ (Some (draw number (next_state state)).0, next_state (next_state state))
conflict-some number state zero_drawn =
    ap (λ n. (if n == 0 then (draw number >>= λ other. give (Some other)) else give None) (next_state state)) zero_drawn

-- ---- a stanza

line-then : (old line : List ℕ) (rest : List (List ℕ)) → (old ++ text_of_lines (line ∷ [])) ++ text_of_lines rest ≡ old ++ text_of_lines (line ∷ rest)
line-then old line rest =
    append_assoc old (text_of_lines (line ∷ [])) (text_of_lines rest)
    ∙ ap (λ (t : List ℕ). old ++ (t ++ text_of_lines rest)) (append-nil (line ++ 10 ∷ []))

-- four lines, one behind the other
pub four-lines : (old text second third new a b c d : List ℕ) → text ≡ old ++ text_of_lines (a ∷ []) → second ≡ text ++ text_of_lines (b ∷ []) →
    third ≡ second ++ text_of_lines (c ∷ []) → new ≡ third ++ text_of_lines (d ∷ []) → new ≡ old ++ text_of_lines (a ∷ b ∷ c ∷ d ∷ [])
four-lines old text second third new a b c d first_is second_is third_is new_is =
    new_is
    ∙ ap (λ (t : List ℕ). t ++ text_of_lines (d ∷ [])) third_is ∙ line-then second c (d ∷ [])
    ∙ ap (λ (t : List ℕ). t ++ text_of_lines (c ∷ d ∷ [])) second_is ∙ line-then text b (c ∷ d ∷ [])
    ∙ ap (λ (t : List ℕ). t ++ text_of_lines (b ∷ c ∷ d ∷ [])) first_is ∙ line-then old a (b ∷ c ∷ d ∷ [])

lines-joined : (a b : List (List ℕ)) → text_of_lines (a ++ b) ≡ text_of_lines a ++ text_of_lines b
lines-joined a b = flat_map-append (λ (line : List ℕ). line ++ 10 ∷ []) a b

-- the pieces of a stanza, one behind the other
pieces : (old : List ℕ) (head depends conflicts : List (List ℕ)) →
    old ++ text_of_lines ((head ++ (depends ++ conflicts)) ++ [] ∷ []) ≡ (((old ++ text_of_lines head) ++ text_of_lines depends) ++ text_of_lines conflicts)
    ++ 10 ∷ []
pieces old head depends conflicts =
    let h = text_of_lines head in
    let d = text_of_lines depends in
    let c = text_of_lines conflicts in
    let joined : text_of_lines ((head ++ (depends ++ conflicts)) ++ [] ∷ []) ≡ (h ++ (d ++ c)) ++ 10 ∷ [] =
    lines-joined (head ++ (depends ++ conflicts)) ([] ∷ [])
    ∙ ap (λ (t : List ℕ). t ++ 10 ∷ []) (lines-joined head (depends ++ conflicts) ∙ ap (λ (t : List ℕ). h ++ t) (lines-joined depends conflicts)) in
    ap (λ (t : List ℕ). old ++ t) joined ∙ simp append_assoc

-- what is drawn of a package, where its number is 0 or not
abbrev drawn_where : Bool → ℕ → Drawing Drawn
drawn_where is_zero number = do
  digit ← draw 3
  items ← (if is_zero then give [] else items number)
  conflict ← (if is_zero then give None else conflict number)
  give (record { number = number; digit = digit; items = items; conflict = conflict })

abbrev bare : (number digit : ℕ) → Drawn
bare number digit = record { number = number; digit = digit; items = []; conflict = None }

module _ (number state first : ℕ) (moved : first ≡ next_state state) (old text : List ℕ)
    (head : text ≡ old ++ text_of_lines (stanza_head (bare number (draw 3 state).0))) where
  -- the stanza of number 0
  pub stanza-first : (new : List ℕ) (after : ℕ) → number ≤ 0 → after ≡ first → new ≡ text ++ 10 ∷ [] → Adds (drawn number) stanza_text old state new after
  stanza-first new after none same here =
      let is_zero : (number == 0) ≡ true = eq-eqb number 0 (omega arith) in
      adds-is (drawn number) stanza_text old state new after (bare number (draw 3 state).0) (next_state state)
      (ap (λ b. drawn_where b number state) is_zero)
      (here ∙ ap (λ (t : List ℕ). t ++ 10 ∷ []) head ∙ sym (pieces old (stanza_head (bare number (draw 3 state).0)) [] []
      ∙ ap (λ (t : List ℕ). t ++ 10 ∷ []) (append-nil _ ∙ append-nil _)))
      (same ∙ moved)

  -- the stanza of a later number
  pub stanza-more : (second third joined new : List ℕ) (next last after : ℕ) → 0 < number →
      Adds (items number) (λ all. text_of_lines (depends_lines all)) text first second next →
      Adds (conflict number) (λ other. text_of_lines (conflicts_lines other)) second next third last →
      joined ≡ third → after ≡ last → new ≡ joined ++ 10 ∷ [] → Adds (drawn number) stanza_text old state new after
  stanza-more second third joined new next last after some depends conflicts same_text same here =
      let is_zero : (number == 0) ≡ false = ne_eqb number 0 (λ e. omega (arith, e, some)) in
      let drawn_items = items number (next_state state) in
      let drawn_conflict = conflict number drawn_items.1 in
      let first_items : items number first ≡ drawn_items = ap (items number) moved in
      let then_conflict : conflict number next ≡ drawn_conflict = ap (conflict number) (depends.moved ∙ ap (λ r. r.1) first_items) in
      adds-is (drawn number) stanza_text old state new after
      (record { number = number; digit = (draw 3 state).0; items = drawn_items.0; conflict = drawn_conflict.0 }) drawn_conflict.1
      (ap (λ b. drawn_where b number state) is_zero)
      (here
      ∙ ap (λ (t : List ℕ). t ++ 10 ∷ []) (
      same_text
      ∙ conflicts.text
      ∙ ap (λ r. second ++ text_of_lines (conflicts_lines r.0)) then_conflict
      ∙ ap (λ (t : List ℕ). t ++ text_of_lines (conflicts_lines drawn_conflict.0))
      (depends.text ∙ ap (λ r. text ++ text_of_lines (depends_lines r.0)) first_items
      ∙ ap (λ (t : List ℕ). t ++ text_of_lines (depends_lines drawn_items.0)) head)
      )
      ∙ sym (pieces old (stanza_head (bare number (draw 3 state).0)) (depends_lines drawn_items.0) (conflicts_lines drawn_conflict.0)))
      (same ∙ conflicts.moved ∙ ap (λ r. r.1) then_conflict)

-- ---- one more stanza

pub next-stanza : (seed number : ℕ) (text : List ℕ) (state : ℕ) (new : List ℕ) → text ≡ flat_map stanza_text (many drawn number seed).0
    → state ≡ (many drawn number seed).1 →
    new ≡ text ++ stanza_text (drawn number state).0 → new ≡ flat_map stanza_text (many drawn (number + 1) seed).0
next-stanza seed number text state new before was here =
    let last = (drawn number (many drawn number seed).1).0 in
    rw add-one (
    here
    ∙ ap (λ s. text ++ stanza_text (drawn number s).0) was
    ∙ ap (λ (t : List ℕ). t ++ stanza_text last) before
    ∙ sym (flat_map-append stanza_text (many drawn number seed).0 (last ∷ [])
    ∙ ap (λ (t : List ℕ). flat_map stanza_text (many drawn number seed).0 ++ t) (append-nil (stanza_text last)))
    )
