-- A text begins with an atom and what may follow one, or has a first fault.
use Rattle.std.proofs.Common.{◌≡◌, ℕ, Bool, true, false, ◌||◌, ◌&&◌, ◌⊎◌, inl, inr, eqb, List, [], ◌∷◌, ◌++◌, refl, sym, ap, ◌∙◌, subst, append_assoc, None}
use Rattle.std.proofs.Common.{Some}
use Rattle.std.specs.List.{take_while}
use Rattle.std.proofs.lemmas.Bool.{eqb-true}
use Rattle.dist_base.specs.Ascii.{bar, closing, comma, is_opening, is_white, opening}
use Rattle.dist_relation.specs.declared.atom.Atom.{Atom}
use Rattle.dist_relation.specs.declared.atom.Bound.{Bound}
use Rattle.dist_relation.specs.declared.atom.Kind.{Kind}
use Rattle.dist_relation.specs.declared.atom.Op.{Op}
use Rattle.dist_relation.specs.declared.atom.Qualifier.{Qualifier}
use Rattle.dist_relation.specs.declared.error.Problem.{Problem}
use Rattle.dist_relation.specs.declared.error.Problem.TheVariants.{BadName, BadOp, BadVersion, Unclosed, BarNotAllowed, Trailing, OpInProvides}
use Rattle.dist_relation.specs.Bytes.{is_operator_byte, is_word_byte, IsBlank, Meets, Stops}
use Rattle.dist_relation.specs.Grammar.{SpellsAtom}
use Rattle.dist_relation.specs.Faults.{Head, Opened, Compared, Versioned, EndsHead, AfterBare, AfterClosed, AfterAtom, allows_bar, Has}
use Rattle.dist_relation.specs.ReadingPrivate.{skip}
use Rattle.dist_relation.proofs.Flat.{Bare, Closed, flat}
use Rattle.dist_relation.proofs.Runs.{true_both, take_while-past, take_while_all, past_stops}
use Rattle.dist_relation.proofs.ByteFacts.{or_false, or_true}
use Rattle.dist_relation.proofs.Heads.{HeadRead, HeadFault, head_cases}
use Rattle.dist_relation.proofs.Bounds.{BoundStart, BoundVersion, BoundWhole, BoundHas, BoundRead, BoundFault, bound_cases}
use Rattle.dist_relation.proofs.AtomReading.{ends_atom}

pub record AtomRead (kind : Kind) (text : List ℕ) : Type 0 where
  pub front : List ℕ
  pub atom : Atom
  pub rest : List ℕ
  pub spelled : SpellsAtom kind front atom
  pub parts : text ≡ front ++ rest
  pub ends : Meets (ends_atom kind) rest

pub record AtomFault (kind : Kind) (text : List ℕ) : Type 0 where
  pub here : List ℕ
  pub problem : Problem
  pub has : Has kind text here problem

-- ---- what follows an atom

pub record EndFault (kind : Kind) (here : List ℕ) : Type 0 where
  pub problem : Problem
  pub has : (text : List ℕ) → AfterAtom kind text here → Has kind text here problem

bar_cases : (t : Bool) (kind : Kind) (b : ℕ) (bs : List ℕ) → allows_bar kind ≡ t → eqb b bar ≡ true → Meets (ends_atom kind) (b ∷ bs) ⊎ EndFault kind (b ∷ bs)
bar_cases true kind b bs e f = inl (or_second (eqb b comma) (eqb b bar && allows_bar kind) (true_both (eqb b bar) (allows_bar kind) f e))
  where
    or_second : (x y : Bool) → y ≡ true → (x || y) ≡ true
    or_second true y h = refl
    or_second false y h = h
bar_cases false kind b bs e f = inr (record {
  problem = BarNotAllowed;
  has = λ text after. record { after_atom = after; rest = bs; stands = ap (λ (c : ℕ). c ∷ bs) (eqb-true b bar f); forbidden = e };
})

end_cases_by : (t u : Bool) (kind : Kind) (b : ℕ) (bs : List ℕ) → eqb b comma ≡ t → eqb b bar ≡ u → Meets (ends_atom kind) (b ∷ bs) ⊎ EndFault kind (b ∷ bs)
end_cases_by true u kind b bs e f = inl (or_true (eqb b comma) _ e)
end_cases_by false true kind b bs e f = bar_cases (allows_bar kind) kind b bs refl f
end_cases_by false false kind b bs e f = inr (record {
  problem = Trailing;
  has = λ text after. record { after_atom = after; first = b; rest = bs; stands = refl; other = or_false (eqb b comma) (eqb b bar) e f };
})

end_cases : (kind : Kind) (here : List ℕ) → Meets (ends_atom kind) here ⊎ EndFault kind here
end_cases kind [] = inl tt
end_cases kind (b ∷ bs) = end_cases_by (eqb b comma) (eqb b bar) kind b bs refl refl

ended_cases : (kind : Kind) (text front here : List ℕ) (atom : Atom) → SpellsAtom kind front atom → text ≡ front ++ here → AfterAtom kind text here
    → Meets (ends_atom kind) here ⊎ EndFault kind here → AtomRead kind text ⊎ AtomFault kind text
ended_cases kind text front here atom spelled parts after (inl ends) =
    inl (record { front = front; atom = atom; rest = here; spelled = spelled; parts = parts; ends = ends })
ended_cases kind text front here atom spelled parts after (inr fault) = inr (record { here = here; problem = fault.problem; has = fault.has text after })

spaces : List ℕ → List ℕ
spaces text = take_while is_white text

spaces_blank : (text : List ℕ) → IsBlank (spaces text)
unfolding spaces
spaces_blank text = take_while_all is_white text

spaces_parts : (text : List ℕ) → text ≡ spaces text ++ skip text
unfolding spaces
spaces_parts text = sym (take_while-past is_white text)

-- ---- an atom without a bound

bare_cases : (kind : Kind) (text : List ℕ) → (h : HeadRead text) → Stops is_opening (skip h.rest) → AtomRead kind text ⊎ AtomFault kind text
bare_cases kind text h shut =
    let space : List ℕ = spaces h.rest in
    let here : List ℕ = skip h.rest in
    let atom : Atom = record { name = h.name; qualifier = h.qualifier; bound = None } in
    let bare : Bare (h.head ++ space) h.name h.qualifier = record {
      head = h.head;
      space = space;
      is_head = h.is_head;
      blank = spaces_blank h.rest;
      parts = refl;
    } in
    let parts : text ≡ h.head ++ (space ++ here) = h.parts ∙ ap (λ (t : List ℕ). h.head ++ t) (spaces_parts h.rest) in
    let after : AfterBare text here = record {
      head = h.head;
      space = space;
      name = h.name;
      qualifier = h.qualifier;
      is_head = h.is_head;
      blank = spaces_blank h.rest;
      parts = parts;
      whole_head = subst (EndsHead h.qualifier) (spaces_parts h.rest) h.ends;
      skipped = past_stops is_white h.rest;
      not_opened = shut;
    } in
    ended_cases kind text (h.head ++ space) here atom (flat kind (h.head ++ space) h.name h.qualifier None bare) (parts ∙ sym (append_assoc h.head space here))
    (inl after) (end_cases kind here)

-- ---- the grammar's steps from a head and a text behind a parenthesis

module _ (kind : Kind) (text head gap name : List ℕ) (qualifier : Qualifier) (inner : List ℕ) (is_head : Head head name qualifier) (blank_gap : IsBlank gap)
    (parts : text ≡ head ++ (gap ++ (opening ∷ inner))) where
  opened_text : List ℕ → List ℕ
  opened_text space = head ++ (gap ++ (opening ∷ space))

  is_opened : (space : List ℕ) → IsBlank space → Opened (opened_text space) name qualifier
  unfolding opened_text
  is_opened space blank = record { head = head; gap = gap; space = space; is_head = is_head; blank_gap = blank_gap; blank = blank; parts = refl }

  opened_parts : (space r : List ℕ) → inner ≡ space ++ r → text ≡ opened_text space ++ r
  unfolding opened_text
  opened_parts space r e = parts ∙ ap (λ (t : List ℕ). head ++ (gap ++ (opening ∷ t))) e ∙ simp append_assoc

  compared_text : (op : Op) (after : List ℕ) → BoundStart kind inner op after → List ℕ → List ℕ
  compared_text op after s space = opened_text s.space ++ (s.operator ++ space)

  is_compared : (op : Op) (after : List ℕ) (s : BoundStart kind inner op after) (space : List ℕ) → IsBlank space
      → Compared kind (compared_text op after s space) name qualifier op
  unfolding compared_text
  is_compared op after s space blank = record {
    opened = opened_text s.space;
    operator = s.operator;
    space = space;
    is_opened = is_opened s.space s.blank;
    is_operator = s.is_operator;
    allowed = s.allowed;
    blank = blank;
    parts = refl;
  }

  compared_parts : (op : Op) (after : List ℕ) (s : BoundStart kind inner op after) (space r : List ℕ) → after ≡ space ++ r
      → text ≡ compared_text op after s space ++ r
  unfolding compared_text
  compared_parts op after s space r e = opened_parts s.space (s.operator ++ after) s.parts ∙ ap (λ (t : List ℕ). opened_text s.space ++ (s.operator ++ t)) e
      ∙ simp append_assoc

  versioned_text : (bound : Bound) (after : List ℕ) → BoundVersion kind inner bound after → List ℕ → List ℕ
  versioned_text bound after v space = compared_text bound.op v.after v.start v.space ++ (bound.version ++ space)

  is_versioned : (bound : Bound) (after : List ℕ) (v : BoundVersion kind inner bound after) (space : List ℕ) → IsBlank space
      → Versioned kind (versioned_text bound after v space) name qualifier bound
  unfolding versioned_text
  is_versioned bound after v space blank = record {
    compared = compared_text bound.op v.after v.start v.space;
    space = space;
    is_compared = is_compared bound.op v.after v.start v.space v.blank;
    is_version = v.is_version;
    blank = blank;
    parts = refl;
  }

  versioned_parts : (bound : Bound) (after : List ℕ) (v : BoundVersion kind inner bound after) (space r : List ℕ) → after ≡ space ++ r
      → text ≡ versioned_text bound after v space ++ r
  unfolding versioned_text
  versioned_parts bound after v space r e = compared_parts bound.op v.after v.start v.space (bound.version ++ after) v.parts
      ∙ ap (λ (t : List ℕ). compared_text bound.op v.after v.start v.space ++ (bound.version ++ t)) e ∙ simp append_assoc

  bound_has : (here : List ℕ) (problem : Problem) → BoundHas kind inner here problem → Has kind text here problem
  unfolding compared_text versioned_text is_compared is_versioned
  bound_has here BadName h = absurd cc
  bound_has here BadOp h = record {
    opened = opened_text h.space;
    name = name;
    qualifier = qualifier;
    is_opened = is_opened h.space h.blank;
    parts = opened_parts h.space here h.parts;
    skipped = h.skipped;
    missing = h.missing;
  }
  bound_has here (BadVersion fault) h =
      record {
        compared = compared_text h.op h.after h.start h.space;
        name = name;
        qualifier = qualifier;
        op = h.op;
        is_compared = is_compared h.op h.after h.start h.space h.blank;
        parts = compared_parts h.op h.after h.start h.space here h.parts;
        whole_operator = subst (Stops is_operator_byte) h.parts h.start.whole;
        skipped = h.skipped;
        missing = h.missing;
      }
  bound_has here Unclosed h =
      record {
        versioned = versioned_text h.bound h.after h.version h.space;
        name = name;
        qualifier = qualifier;
        bound = h.bound;
        is_versioned = is_versioned h.bound h.after h.version h.space h.blank;
        parts = versioned_parts h.bound h.after h.version h.space here h.parts;
        whole_version = subst (Stops is_word_byte) h.parts h.version.whole;
        skipped = h.skipped;
        missing = h.missing;
      }
  bound_has here BarNotAllowed h = absurd cc
  bound_has here Trailing h = absurd cc
  bound_has here OpInProvides h = record {
    opened = opened_text h.space;
    name = name;
    qualifier = qualifier;
    op = h.op;
    is_opened = is_opened h.space h.blank;
    parts = opened_parts h.space here h.parts;
    is_operator = h.is_operator;
    forbidden = h.forbidden;
  }

  closed_cases : (bound : Bound) (rest : List ℕ) → BoundWhole kind inner bound rest → AtomRead kind text ⊎ AtomFault kind text
  closed_cases bound rest w =
      let versioned : List ℕ = versioned_text bound w.after w.version w.gap in
      let v : Versioned kind versioned name qualifier bound = is_versioned bound w.after w.version w.gap w.blank_gap in
      let whole : text ≡ versioned ++ (closing ∷ (w.space ++ rest)) = versioned_parts bound w.after w.version w.gap (closing ∷ (w.space ++ rest)) w.parts in
      let after : AfterClosed kind text rest = record {
        versioned = versioned;
        space = w.space;
        name = name;
        qualifier = qualifier;
        bound = bound;
        is_versioned = v;
        blank = w.blank;
        parts = whole;
        skipped = w.skipped;
      } in
      let closed : Closed kind (versioned ++ (closing ∷ w.space)) name qualifier bound =
      record { versioned = versioned; space = w.space; is_versioned = v; blank = w.blank; parts = refl } in
      let atom : Atom = record { name = name; qualifier = qualifier; bound = Some bound } in
      ended_cases kind text (versioned ++ (closing ∷ w.space)) rest atom (flat kind (versioned ++ (closing ∷ w.space)) name qualifier (Some bound) closed)
      (whole ∙ sym (append_assoc versioned (closing ∷ w.space) rest)) (inr after) (end_cases kind rest)

  inner_cases : BoundRead kind inner ⊎ BoundFault kind inner → AtomRead kind text ⊎ AtomFault kind text
  inner_cases (inl b) = closed_cases b.bound b.rest b.whole
  inner_cases (inr f) = inr (record { here = f.here; problem = f.problem; has = bound_has f.here f.problem f.has })

-- ---- an atom

rest_cases_by : (t : Bool) (kind : Kind) (text : List ℕ) (h : HeadRead text) (b : ℕ) (bs : List ℕ) → skip h.rest ≡ b ∷ bs → eqb b opening ≡ t
    → AtomRead kind text ⊎ AtomFault kind text
rest_cases_by false kind text h b bs e f = bare_cases kind text h (subst (Stops is_opening) (sym e) f)
rest_cases_by true kind text h b bs e f =
    let parts : text ≡ h.head ++ (spaces h.rest ++ (opening ∷ bs)) = h.parts
    ∙ ap (λ (t : List ℕ). h.head ++ t) (spaces_parts h.rest ∙ ap (λ (t : List ℕ). spaces h.rest ++ t) (e ∙ ap (λ (c : ℕ). c ∷ bs) (eqb-true b opening f)))
    in
    inner_cases kind text h.head (spaces h.rest) h.name h.qualifier bs h.is_head (spaces_blank h.rest) parts (bound_cases kind bs)

rest_cases : (kind : Kind) (text : List ℕ) (h : HeadRead text) (here : List ℕ) → skip h.rest ≡ here → AtomRead kind text ⊎ AtomFault kind text
rest_cases kind text h [] e = bare_cases kind text h (subst (Stops is_opening) (sym e) tt)
rest_cases kind text h (b ∷ bs) e = rest_cases_by (eqb b opening) kind text h b bs e refl

head_or_fault : (kind : Kind) (text : List ℕ) → HeadRead text ⊎ HeadFault text → AtomRead kind text ⊎ AtomFault kind text
head_or_fault kind text (inl h) = rest_cases kind text h (skip h.rest) refl
head_or_fault kind text (inr f) = inr (record { here = f.here; problem = BadName; has = f.has })

-- A text begins with an atom, or an atom's first problem stands in it.
pub atom_cases : (kind : Kind) (text : List ℕ) → AtomRead kind text ⊎ AtomFault kind text
atom_cases kind text = head_or_fault kind text (head_cases text)
