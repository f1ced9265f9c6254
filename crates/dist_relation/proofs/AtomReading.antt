-- The reader of an atom gives the atom, or the first fault of one.
use Rattle.std.proofs.Common.{◌≡◌, ℕ, Bool, true, false, ◌||◌, ◌&&◌, inl, inr, eqb, cond, List, [], ◌∷◌, ◌++◌, refl, sym, ap, ◌∙◌, subst, append_assoc, Option}
use Rattle.std.proofs.Common.{None, Some}
use Rattle.std.specs.List.{take_while}
use Rattle.std.specs.Prelude.{Result, Ok}
use Rattle.dist_base.specs.Ascii.{bar, closing, comma, is_colon, is_opening, is_white, opening}
use Rattle.dist_relation.specs.declared.atom.Atom.{Atom}
use Rattle.dist_relation.specs.declared.atom.Bound.{Bound}
use Rattle.dist_relation.specs.declared.atom.Kind.{Kind}
use Rattle.dist_relation.specs.declared.atom.Op.{Op}
use Rattle.dist_relation.specs.declared.atom.Qualifier.{Qualifier}
use Rattle.dist_relation.specs.declared.atom.Qualifier.TheVariants.{Plain, Named}
use Rattle.dist_relation.specs.declared.error.Fault.{Fault}
use Rattle.dist_relation.specs.declared.error.Problem.{Problem}
use Rattle.dist_relation.specs.declared.error.Problem.TheVariants.{BadName, BadOp, BadVersion, Unclosed, BarNotAllowed, Trailing, OpInProvides}
use Rattle.dist_relation.specs.Bytes.{is_name_byte, is_operator_byte, is_word_byte, IsBlank}
use Rattle.dist_relation.specs.Bytes.{Meets, Stops}
use Rattle.dist_relation.specs.Grammar.{SpellsOperator, SpellsAtom}
use Rattle.dist_relation.specs.Faults.{Head, Opened, Compared, Versioned, EndsHead, AfterAtom, allows_bar, Has}
use Rattle.dist_relation.specs.ReadingPrivate.{◌>>=◌, refuse, past, skip, bound_at, maybe_bound_at, end_at, atom_at}
use Rattle.dist_relation.proofs.Flat.{SpellsBounded, in_steps}
use Rattle.dist_relation.proofs.Runs.{both_true, past-append, take_while-past}
use Rattle.dist_relation.proofs.ByteFacts.{or_cases, fails_at, Stops-blank, Stops-meets}
use Rattle.dist_relation.proofs.Heads.{done, head_again, head_lacks_name, head_lacks_qualifier}
use Rattle.dist_relation.proofs.Words.{operator_facts, version_no_operator}
use Rattle.dist_relation.proofs.Bounds.{follows, BoundStart, BoundVersion, BoundWhole, bound_again, BoundHas, bound_refused}

-- ---- what follows an atom

-- an atom ends at a comma, and in dependencies at a bar
abbrev pub ends_atom : Kind → ℕ → Bool
ends_atom kind b = eqb b comma || (eqb b bar && allows_bar kind)

abbrev barred : Kind → List ℕ → Result (List ℕ) Fault
barred kind text = cond (allows_bar kind) (Ok text) (refuse BarNotAllowed text)

abbrev ended : Kind → ℕ → List ℕ → Result (List ℕ) Fault
ended kind b text = cond (eqb b bar) (barred kind text) (refuse Trailing text)

end_again_by : (t : Bool) (kind : Kind) (b : ℕ) (bs : List ℕ) → eqb b comma ≡ t → (t || (eqb b bar && allows_bar kind)) ≡ true
    → cond t (Ok (b ∷ bs)) (ended kind b (b ∷ bs)) ≡ follows (b ∷ bs)
end_again_by true kind b bs e h = refl
end_again_by false kind b bs e h =
    let p = both_true (eqb b bar) (allows_bar kind) h in
    ap (λ (t : Bool). cond t (barred kind (b ∷ bs)) (refuse Trailing (b ∷ bs))) p.0
    ∙ ap (λ (t : Bool). cond t (follows (b ∷ bs)) (refuse BarNotAllowed (b ∷ bs))) p.1

pub end_again : (kind : Kind) (r : List ℕ) → Meets (ends_atom kind) r → end_at kind r ≡ Ok r
unfolding end_at
end_again kind [] h = refl
end_again kind (b ∷ bs) h = end_again_by (eqb b comma) kind b bs refl h

end_bar : (kind : Kind) (rest : List ℕ) → allows_bar kind ≡ false → end_at kind (bar ∷ rest) ≡ refuse BarNotAllowed (bar ∷ rest)
unfolding end_at
end_bar kind rest h = ap (λ (t : Bool). cond t (follows (bar ∷ rest)) (refuse BarNotAllowed (bar ∷ rest))) h

none_by : (t u : Bool) (kind : Kind) (text : List ℕ) → (t || u) ≡ false
    → cond t (follows text) (cond u (barred kind text) (refuse Trailing text)) ≡ refuse Trailing text
none_by true u kind text h = absurd cc
none_by false true kind text h = absurd cc
none_by false false kind text h = refl

end_other : (kind : Kind) (b : ℕ) (bs : List ℕ) → (eqb b comma || eqb b bar) ≡ false → end_at kind (b ∷ bs) ≡ refuse Trailing (b ∷ bs)
unfolding end_at
end_other kind b bs h = none_by (eqb b comma) (eqb b bar) kind (b ∷ bs) h

-- a text that an atom may end at begins with nothing else
pub ends_fail : (f : ℕ → Bool) (kind : Kind) → f comma ≡ false → f bar ≡ false → (b : ℕ) → ends_atom kind b ≡ true → f b ≡ false
ends_fail f kind p q b h =
    elim (or_cases (eqb b comma) (eqb b bar && allows_bar kind) h) [
      | inl e ↦ fails_at f comma p b e
      | inr e ↦ fails_at f bar q b (both_true (eqb b bar) (allows_bar kind) e).0
    ]

pub Stops-ends : (f : ℕ → Bool) (kind : Kind) (r : List ℕ) → f comma ≡ false → f bar ≡ false → Meets (ends_atom kind) r → Stops f r
Stops-ends f kind r p q h = Stops-meets f (ends_atom kind) r (ends_fail f kind p q) h

-- ---- an atom in steps

-- white space and what an atom may end at end a head
bare_ends : (qualifier : Qualifier) (kind : Kind) (space r : List ℕ) → IsBlank space → Meets (ends_atom kind) r → EndsHead qualifier (space ++ r)
bare_ends Plain kind space r blank h = (
  Stops-blank is_name_byte space r refl refl refl blank (Stops-ends is_name_byte kind r refl refl h),
  Stops-blank is_colon space r refl refl refl blank (Stops-ends is_colon kind r refl refl h),
)
bare_ends (Named name) kind space r blank h = Stops-blank is_name_byte space r refl refl refl blank (Stops-ends is_name_byte kind r refl refl h)

abbrev finish : List ℕ → Qualifier → Option Bound → Result (List ℕ) Fault → Result (Atom × List ℕ) Fault
finish name qualifier bound x = x >>= λ rest. Ok (record { name = name; qualifier = qualifier; bound = bound }, rest)

abbrev bounded : Kind → List ℕ → Qualifier → Result (Option Bound × List ℕ) Fault → Result (Atom × List ℕ) Fault
bounded kind name qualifier x = x >>= λ bound. end_at kind bound.1 >>= λ rest. Ok (record { name = name; qualifier = qualifier; bound = bound.0 }, rest)

abbrev headed : Kind → Result (List ℕ × Qualifier × List ℕ) Fault → Result (Atom × List ℕ) Fault
headed kind x = x >>= λ head. maybe_bound_at kind (skip head.2) >>= λ bound. end_at kind bound.1 >>= λ rest. Ok
    (record { name = head.0; qualifier = head.1; bound = bound.0 }, rest)

abbrev some_bound : Result (Bound × List ℕ) Fault → Result (Option Bound × List ℕ) Fault
some_bound x = x >>= λ bound. Ok (Some bound.0, bound.1)

no_bound : (kind : Kind) (r : List ℕ) → Stops is_opening r → maybe_bound_at kind r ≡ Ok (None, r)
unfolding maybe_bound_at
no_bound kind [] h = refl
no_bound kind (b ∷ bs) h = ap (λ (t : Bool). cond t (some_bound (bound_at kind bs)) (Ok (None, b ∷ bs))) h

-- an atom without a bound is read up to what follows it
bare_again : (kind : Kind) (head space name : List ℕ) (qualifier : Qualifier) (r : List ℕ) → Head head name qualifier → IsBlank space
    → EndsHead qualifier (space ++ r) → Stops is_white r → Stops is_opening r
    → atom_at kind (head ++ (space ++ r)) ≡ finish name qualifier None (end_at kind r)
unfolding atom_at
bare_again kind head space name qualifier r h blank ends skipped shut =
    ap (headed kind) (head_again head name qualifier (space ++ r) h ends)
    ∙ ap (λ (t : List ℕ). bounded kind name qualifier (maybe_bound_at kind t)) (past-append is_white space r blank skipped)
    ∙ ap (bounded kind name qualifier) (no_bound kind r shut)

-- white space and an opening parenthesis end a head
ends_before : (qualifier : Qualifier) (gap text : List ℕ) → IsBlank gap → EndsHead qualifier (gap ++ (opening ∷ text))
ends_before Plain gap text blank = (
  Stops-blank is_name_byte gap (opening ∷ text) refl refl refl blank refl,
  Stops-blank is_colon gap (opening ∷ text) refl refl refl blank refl,
)
ends_before (Named name) gap text blank = Stops-blank is_name_byte gap (opening ∷ text) refl refl refl blank refl

opened_bound : (kind : Kind) (text : List ℕ) → maybe_bound_at kind (opening ∷ text) ≡ some_bound (bound_at kind text)
unfolding maybe_bound_at
opened_bound kind text = refl

-- behind a head, white space and an opening parenthesis the bound is read
opened_again : (kind : Kind) (head gap name : List ℕ) (qualifier : Qualifier) (text : List ℕ) → Head head name qualifier → IsBlank gap
    → atom_at kind (head ++ (gap ++ (opening ∷ text))) ≡ bounded kind name qualifier (some_bound (bound_at kind text))
unfolding atom_at
opened_again kind head gap name qualifier text h blank =
    ap (headed kind) (head_again head name qualifier (gap ++ (opening ∷ text)) h (ends_before qualifier gap text blank))
    ∙ ap (λ (t : List ℕ). bounded kind name qualifier (maybe_bound_at kind t)) (past-append is_white gap (opening ∷ text) blank refl)
    ∙ ap (bounded kind name qualifier) (opened_bound kind text)

closed_again : (kind : Kind) (head gap name : List ℕ) (qualifier : Qualifier) (text : List ℕ) (bound : Bound) (r : List ℕ) → Head head name qualifier
    → IsBlank gap → BoundWhole kind text bound r
    → atom_at kind (head ++ (gap ++ (opening ∷ text))) ≡ finish name qualifier (Some bound) (end_at kind r)
closed_again kind head gap name qualifier text bound r h blank whole =
    opened_again kind head gap name qualifier text h blank ∙ ap (λ (x : Result (Bound × List ℕ) Fault). bounded kind name qualifier (some_bound x))
    (bound_again kind text bound r whole)

-- ---- the grammar's steps, as a head and a text behind a parenthesis

opened_parts : (opened name : List ℕ) (qualifier : Qualifier) (o : Opened opened name qualifier) (r : List ℕ)
    → opened ++ r ≡ o.head ++ (o.gap ++ (opening ∷ (o.space ++ r)))
opened_parts opened name qualifier o r = ap (λ (t : List ℕ). t ++ r) o.parts ∙ simp append_assoc

-- what stands behind the parenthesis, where r follows
abbrev after_opened : (kind : Kind) (compared name : List ℕ) (qualifier : Qualifier) (op : Op) → Compared kind compared name qualifier op → List ℕ → List ℕ
after_opened kind compared name qualifier op c r = c.is_opened.space ++ (c.operator ++ (c.space ++ r))

compared_parts : (kind : Kind) (compared name : List ℕ) (qualifier : Qualifier) (op : Op) (c : Compared kind compared name qualifier op) (r : List ℕ)
    → compared ++ r ≡ c.is_opened.head ++ (c.is_opened.gap ++ (opening ∷ after_opened kind compared name qualifier op c r))
compared_parts kind compared name qualifier op c r =
    ap (λ (t : List ℕ). t ++ r) c.parts ∙ append_assoc c.opened (c.operator ++ c.space) r
    ∙ ap (λ (t : List ℕ). c.opened ++ t) (append_assoc c.operator c.space r)
    ∙ opened_parts c.opened name qualifier c.is_opened (c.operator ++ (c.space ++ r))

compared_start : (kind : Kind) (compared name : List ℕ) (qualifier : Qualifier) (op : Op) (c : Compared kind compared name qualifier op) (r : List ℕ)
    → Stops is_operator_byte (c.space ++ r)
    → BoundStart kind (after_opened kind compared name qualifier op c r) op (c.space ++ r)
compared_start kind compared name qualifier op c r whole =
    record {
      space = c.is_opened.space;
      operator = c.operator;
      blank = c.is_opened.blank;
      is_operator = c.is_operator;
      allowed = c.allowed;
      parts = refl;
      whole = whole;
    }

abbrev after_versioned : (kind : Kind) (versioned name : List ℕ) (qualifier : Qualifier) (bound : Bound) → Versioned kind versioned name qualifier bound
    → List ℕ → List ℕ
after_versioned kind versioned name qualifier bound v r = after_opened kind v.compared name qualifier bound.op v.is_compared (bound.version ++ (v.space ++ r))

versioned_parts : (kind : Kind) (versioned name : List ℕ) (qualifier : Qualifier) (bound : Bound) (v : Versioned kind versioned name qualifier bound)
    (r : List ℕ)
    → versioned ++ r ≡ v.is_compared.is_opened.head ++ (v.is_compared.is_opened.gap ++ (opening ∷ after_versioned kind versioned name qualifier bound v r))
versioned_parts kind versioned name qualifier bound v r =
    ap (λ (t : List ℕ). t ++ r) v.parts ∙ append_assoc v.compared (bound.version ++ v.space) r
    ∙ ap (λ (t : List ℕ). v.compared ++ t) (append_assoc bound.version v.space r)
    ∙ compared_parts kind v.compared name qualifier bound.op v.is_compared (bound.version ++ (v.space ++ r))

versioned_bound : (kind : Kind) (versioned name : List ℕ) (qualifier : Qualifier) (bound : Bound) (v : Versioned kind versioned name qualifier bound)
    (r : List ℕ) → Stops is_word_byte (v.space ++ r)
    → BoundVersion kind (after_versioned kind versioned name qualifier bound v r) bound (v.space ++ r)
versioned_bound kind versioned name qualifier bound v r whole =
    let c = v.is_compared in
    let rest : List ℕ = bound.version ++ (v.space ++ r) in
    let starts : Stops is_operator_byte (c.space ++ rest) =
    Stops-blank is_operator_byte c.space rest refl refl refl c.blank (version_no_operator bound.version (v.space ++ r) v.is_version) in
    record {
      after = c.space ++ rest;
      start = compared_start kind v.compared name qualifier bound.op c rest starts;
      space = c.space;
      blank = c.blank;
      is_version = v.is_version;
      parts = refl;
      whole = whole;
    }

closed_bound : (kind : Kind) (versioned name : List ℕ) (qualifier : Qualifier) (bound : Bound) (v : Versioned kind versioned name qualifier bound)
    (space r : List ℕ) → IsBlank space → Stops is_white r
    → BoundWhole kind (after_versioned kind versioned name qualifier bound v (closing ∷ (space ++ r))) bound r
closed_bound kind versioned name qualifier bound v space r blank skipped =
    let rest : List ℕ = closing ∷ (space ++ r) in
    let whole : Stops is_word_byte (v.space ++ rest) = Stops-blank is_word_byte v.space rest refl refl refl v.blank refl in
    record {
      after = v.space ++ rest;
      version = versioned_bound kind versioned name qualifier bound v rest whole;
      gap = v.space;
      space = space;
      blank_gap = v.blank;
      blank = blank;
      parts = refl;
      skipped = skipped;
    }

-- behind an atom with a bound what follows is tried
after_closed : (kind : Kind) (versioned name : List ℕ) (qualifier : Qualifier) (bound : Bound) (v : Versioned kind versioned name qualifier bound)
    (space r : List ℕ) → IsBlank space → Stops is_white r
    → atom_at kind (versioned ++ (closing ∷ (space ++ r))) ≡ finish name qualifier (Some bound) (end_at kind r)
after_closed kind versioned name qualifier bound v space r blank skipped =
    let o = v.is_compared.is_opened in
    let rest : List ℕ = closing ∷ (space ++ r) in
    ap (atom_at kind) (versioned_parts kind versioned name qualifier bound v rest)
    ∙ closed_again kind o.head o.gap name qualifier (after_versioned kind versioned name qualifier bound v rest) bound r o.is_head o.blank_gap
    (closed_bound kind versioned name qualifier bound v space r blank skipped)

-- ---- what is spelled is read

spelled_again : (kind : Kind) (a name : List ℕ) (qualifier : Qualifier) (bound : Option Bound) (r : List ℕ) → SpellsBounded kind a name qualifier bound
    → Meets (ends_atom kind) r
    → atom_at kind (a ++ r) ≡ done (record { name = name; qualifier = qualifier; bound = bound }) r
spelled_again kind a name qualifier None r h ends =
    let whole : a ++ r ≡ h.head ++ (h.space ++ r) = ap (λ (t : List ℕ). t ++ r) h.parts ∙ append_assoc h.head h.space r in
    ap (atom_at kind) whole
    ∙ bare_again kind h.head h.space name qualifier r h.is_head h.blank (bare_ends qualifier kind h.space r h.blank ends)
    (Stops-ends is_white kind r refl refl ends) (Stops-ends is_opening kind r refl refl ends)
    ∙ ap (finish name qualifier None) (end_again kind r ends)
spelled_again kind a name qualifier (Some bound) r h ends =
    let whole : a ++ r ≡ h.versioned ++ (closing ∷ (h.space ++ r)) = ap (λ (t : List ℕ). t ++ r) h.parts ∙ append_assoc h.versioned (closing ∷ h.space) r in
    ap (atom_at kind) whole
    ∙ after_closed kind h.versioned name qualifier bound h.is_versioned h.space r h.blank (Stops-ends is_white kind r refl refl ends)
    ∙ ap (finish name qualifier (Some bound)) (end_again kind r ends)

-- An atom's spelling is read as that atom, whatever an atom may end at follows.
pub atom_again : (kind : Kind) (a : List ℕ) (atom : Atom) (r : List ℕ) → SpellsAtom kind a atom → Meets (ends_atom kind) r
    → atom_at kind (a ++ r) ≡ Ok (atom, r)
atom_again kind a atom r h ends = spelled_again kind a atom.name atom.qualifier atom.bound r (in_steps kind a atom.name atom.qualifier atom.bound h) ends

-- ---- what has a problem is refused for it

from_opened : (kind : Kind) (text here : List ℕ) (problem : Problem) (head gap name : List ℕ) (qualifier : Qualifier) (inner : List ℕ)
    → Head head name qualifier → IsBlank gap → text ≡ head ++ (gap ++ (opening ∷ inner)) → BoundHas kind inner here problem
    → atom_at kind text ≡ refuse problem here
from_opened kind text here problem head gap name qualifier inner h blank parts has =
    ap (atom_at kind) parts ∙ opened_again kind head gap name qualifier inner h blank
    ∙ ap (λ (x : Result (Bound × List ℕ) Fault). bounded kind name qualifier (some_bound x)) (bound_refused kind inner here problem has)

forbidden_skips : (here : List ℕ) (op : Op) → SpellsOperator (take_while is_operator_byte here) op → Stops is_white here
forbidden_skips here op h = subst (Stops is_white) (take_while-past is_operator_byte here)
    ((operator_facts op (take_while is_operator_byte here) h).no_blank (past is_operator_byte here))

after_atom : (kind : Kind) (text here : List ℕ) (problem : Problem) → AfterAtom kind text here → end_at kind here ≡ refuse problem here
    → atom_at kind text ≡ refuse problem here
after_atom kind text here problem (inl a) e =
    ap (atom_at kind) a.parts ∙ bare_again kind a.head a.space a.name a.qualifier here a.is_head a.blank a.whole_head a.skipped a.not_opened
    ∙ ap (finish a.name a.qualifier None) e
after_atom kind text here problem (inr a) e =
    ap (atom_at kind) a.parts ∙ after_closed kind a.versioned a.name a.qualifier a.bound a.is_versioned a.space here a.blank a.skipped
    ∙ ap (finish a.name a.qualifier (Some a.bound)) e

-- A text with a problem is refused for that problem at its place.
pub atom_refused : (kind : Kind) (text here : List ℕ) (problem : Problem) → Has kind text here problem → atom_at kind text ≡ refuse problem here
unfolding atom_at
atom_refused kind text here BadName (inl h) = ap (headed kind) (head_lacks_name text here h)
atom_refused kind text here BadName (inr h) = ap (headed kind) (head_lacks_qualifier text here h)
atom_refused kind text here BadOp h =
    let o = h.is_opened in
    from_opened kind text here BadOp o.head o.gap h.name h.qualifier (o.space ++ here) o.is_head o.blank_gap
    (h.parts ∙ opened_parts h.opened h.name h.qualifier o here)
    (record { space = o.space; blank = o.blank; parts = refl; skipped = h.skipped; missing = h.missing })
atom_refused kind text here (BadVersion fault) h =
    let c = h.is_compared in
    from_opened kind text here (BadVersion fault) c.is_opened.head c.is_opened.gap h.name h.qualifier
    (after_opened kind h.compared h.name h.qualifier h.op c here) c.is_opened.is_head c.is_opened.blank_gap
    (h.parts ∙ compared_parts kind h.compared h.name h.qualifier h.op c here)
    (record {
      op = h.op;
      after = c.space ++ here;
      space = c.space;
      start = compared_start kind h.compared h.name h.qualifier h.op c here h.whole_operator;
      blank = c.blank;
      parts = refl;
      skipped = h.skipped;
      missing = h.missing;
    })
atom_refused kind text here Unclosed h =
    let v = h.is_versioned in
    let o = v.is_compared.is_opened in
    from_opened kind text here Unclosed o.head o.gap h.name h.qualifier (after_versioned kind h.versioned h.name h.qualifier h.bound v here) o.is_head
    o.blank_gap (h.parts ∙ versioned_parts kind h.versioned h.name h.qualifier h.bound v here)
    (record {
      bound = h.bound;
      after = v.space ++ here;
      space = v.space;
      version = versioned_bound kind h.versioned h.name h.qualifier h.bound v here h.whole_version;
      blank = v.blank;
      parts = refl;
      skipped = h.skipped;
      missing = h.missing;
    })
atom_refused kind text here BarNotAllowed h = after_atom kind text here BarNotAllowed h.after_atom
    (ap (end_at kind) h.stands ∙ end_bar kind h.rest h.forbidden ∙ ap (refuse BarNotAllowed) (sym h.stands))
atom_refused kind text here Trailing h = after_atom kind text here Trailing h.after_atom
    (ap (end_at kind) h.stands ∙ end_other kind h.first h.rest h.other ∙ ap (refuse Trailing) (sym h.stands))
atom_refused kind text here OpInProvides h =
    let o = h.is_opened in
    from_opened kind text here OpInProvides o.head o.gap h.name h.qualifier (o.space ++ here) o.is_head o.blank_gap
    (h.parts ∙ opened_parts h.opened h.name h.qualifier o here)
    (record {
      space = o.space;
      op = h.op;
      blank = o.blank;
      parts = refl;
      skipped = forbidden_skips here h.op h.is_operator;
      is_operator = h.is_operator;
      forbidden = h.forbidden;
    })
