-- The reader of a bound, behind its opening parenthesis, gives the bound, or the fault of a missing part.
use Rattle.std.proofs.Common.{◌≡◌, ℕ, Bool, true, false, ◌⊎◌, inl, inr, eqb, cond, List, [], ◌∷◌, ◌++◌, refl, sym, ap, ◌∙◌, subst, Some}
use Rattle.std.specs.List.{take_while}
use Rattle.std.specs.Prelude.{Result, Ok, IsTrue}
use Rattle.std.proofs.lemmas.Bool.{eqb-true}
use Rattle.dist_base.specs.Ascii.{closing, is_closing, is_white}
use Rattle.dist_version.specs.Spelling.{IsVersion}
use Rattle.dist_version.specs.Faults.{fault_of}
use Rattle.dist_version.specs.declared.error.VersionError.{VersionError}
use Rattle.dist_relation.specs.declared.atom.Bound.{Bound}
use Rattle.dist_relation.specs.declared.atom.Kind.{Kind}
use Rattle.dist_relation.specs.declared.atom.Op.{Op}
use Rattle.dist_relation.specs.declared.error.Fault.{Fault}
use Rattle.dist_relation.specs.declared.error.Problem.{Problem}
use Rattle.dist_relation.specs.declared.error.Problem.TheVariants.{BadName, BadOp, BadVersion, Unclosed, BarNotAllowed, Trailing, OpInProvides}
use Rattle.dist_relation.specs.Bytes.{is_operator_byte, is_word_byte, IsBlank, Stops}
use Rattle.dist_relation.specs.Grammar.{allows_operator, SpellsOperator}
use Rattle.dist_relation.specs.ReadingPrivate.{◌>>=◌, refuse, skip, operator_at, version_at, closing_at, bound_at}
use Rattle.dist_relation.proofs.Runs.{past-append, take_while-past, take_while_all, past_stops}
use Rattle.dist_relation.proofs.Words.{operator_facts, operator_again, operator_missing, operator_forbidden, OperatorRead, OperatorFault, operator_cases}
use Rattle.dist_relation.proofs.Words.{version_again, version_refused, VersionRead, version_cases, version_no_blank}

-- what follows is left
abbrev pub follows : List ℕ → Result (List ℕ) Fault
follows rest = Ok rest

-- ---- the closing parenthesis

pub closing_again : (space r : List ℕ) → IsBlank space → Stops is_white r → closing_at (closing ∷ (space ++ r)) ≡ Ok r
unfolding closing_at
closing_again space r blank stops = ap follows (past-append is_white space r blank stops)

pub closing_missing : (here : List ℕ) → Stops is_closing here → closing_at here ≡ refuse Unclosed here
unfolding closing_at
closing_missing [] h = refl
closing_missing (b ∷ bs) h = ap (λ (t : Bool). cond t (Ok (skip bs)) (refuse Unclosed (b ∷ bs))) h

-- ---- texts behind an opening parenthesis

-- white space and an operator, and rest follows
pub record BoundStart (kind : Kind) (text : List ℕ) (op : Op) (rest : List ℕ) : Type 0 where
  pub space : List ℕ
  pub operator : List ℕ
  pub blank : IsBlank space
  pub is_operator : SpellsOperator operator op
  pub allowed : IsTrue (allows_operator kind op)
  pub parts : text ≡ space ++ (operator ++ rest)
  pub whole : Stops is_operator_byte rest

-- then white space and a version, and rest follows
pub record BoundVersion (kind : Kind) (text : List ℕ) (bound : Bound) (rest : List ℕ) : Type 0 where
  pub after : List ℕ
  pub start : BoundStart kind text bound.op after
  pub space : List ℕ
  pub blank : IsBlank space
  pub is_version : IsVersion bound.version
  pub parts : after ≡ space ++ (bound.version ++ rest)
  pub whole : Stops is_word_byte rest

-- then white space and a closing parenthesis and white space, and rest follows
pub record BoundWhole (kind : Kind) (text : List ℕ) (bound : Bound) (rest : List ℕ) : Type 0 where
  pub after : List ℕ
  pub version : BoundVersion kind text bound after
  pub gap : List ℕ
  pub space : List ℕ
  pub blank_gap : IsBlank gap
  pub blank : IsBlank space
  pub parts : after ≡ gap ++ (closing ∷ (space ++ rest))
  pub skipped : Stops is_white rest

abbrev pub close_with : Op → List ℕ → Result (List ℕ) Fault → Result (Bound × List ℕ) Fault
close_with op version x = x >>= λ rest. Ok (record { op = op; version = version }, rest)

abbrev pub version_with : Op → Result (List ℕ × List ℕ) Fault → Result (Bound × List ℕ) Fault
version_with op x = x >>= λ version. closing_at (skip version.1) >>= λ rest. Ok (record { op = op; version = version.0 }, rest)

abbrev pub operator_with : Result (Op × List ℕ) Fault → Result (Bound × List ℕ) Fault
operator_with x = x >>= λ op. version_at (skip op.1) >>= λ version. closing_at (skip version.1) >>= λ rest. Ok (record { op = op.0; version = version.0 }, rest)

pub start_again : (kind : Kind) (text : List ℕ) (op : Op) (rest : List ℕ) → BoundStart kind text op rest
    → bound_at kind text ≡ version_with op (version_at (skip rest))
unfolding bound_at
start_again kind text op rest h =
    let skipped : skip text ≡ h.operator ++ rest = ap skip h.parts
    ∙ past-append is_white h.space (h.operator ++ rest) h.blank ((operator_facts op h.operator h.is_operator).no_blank rest) in
    ap (λ (t : List ℕ). operator_with (operator_at kind t)) skipped
    ∙ ap operator_with (operator_again kind h.operator op rest h.is_operator h.allowed h.whole)

pub version_read : (kind : Kind) (text : List ℕ) (bound : Bound) (rest : List ℕ) → BoundVersion kind text bound rest
    → bound_at kind text ≡ close_with bound.op bound.version (closing_at (skip rest))
version_read kind text bound rest h =
    let skipped : skip h.after ≡ bound.version ++ rest = ap skip h.parts
    ∙ past-append is_white h.space (bound.version ++ rest) h.blank (version_no_blank bound.version rest h.is_version) in
    start_again kind text bound.op h.after h.start
    ∙ ap (λ (t : List ℕ). version_with bound.op (version_at t)) skipped
    ∙ ap (version_with bound.op) (version_again bound.version rest h.is_version h.whole)

pub bound_again : (kind : Kind) (text : List ℕ) (bound : Bound) (rest : List ℕ) → BoundWhole kind text bound rest → bound_at kind text ≡ Ok (bound, rest)
bound_again kind text bound rest h =
    let skipped : skip h.after ≡ closing ∷ (h.space ++ rest) = ap skip h.parts ∙ past-append is_white h.gap (closing ∷ (h.space ++ rest)) h.blank_gap refl in
    version_read kind text bound h.after h.version
    ∙ ap (λ (t : List ℕ). close_with bound.op bound.version (closing_at t)) skipped
    ∙ ap (close_with bound.op bound.version) (closing_again h.space rest h.blank h.skipped)

-- ---- what may be missing there

pub record StartMissing (text here : List ℕ) : Type 0 where
  pub space : List ℕ
  pub blank : IsBlank space
  pub parts : text ≡ space ++ here
  pub skipped : Stops is_white here
  pub missing : (op : Op) → SpellsOperator (take_while is_operator_byte here) op → ⊥

pub record StartForbidden (kind : Kind) (text here : List ℕ) : Type 0 where
  pub space : List ℕ
  pub op : Op
  pub blank : IsBlank space
  pub parts : text ≡ space ++ here
  pub skipped : Stops is_white here
  pub is_operator : SpellsOperator (take_while is_operator_byte here) op
  pub forbidden : allows_operator kind op ≡ false

pub record WordMissing (kind : Kind) (text here : List ℕ) (fault : VersionError) : Type 0 where
  pub op : Op
  pub after : List ℕ
  pub space : List ℕ
  pub start : BoundStart kind text op after
  pub blank : IsBlank space
  pub parts : after ≡ space ++ here
  pub skipped : Stops is_white here
  pub missing : fault_of (take_while is_word_byte here) ≡ Some fault

pub record EndMissing (kind : Kind) (text here : List ℕ) : Type 0 where
  pub bound : Bound
  pub after : List ℕ
  pub space : List ℕ
  pub version : BoundVersion kind text bound after
  pub blank : IsBlank space
  pub parts : after ≡ space ++ here
  pub skipped : Stops is_white here
  pub missing : Stops is_closing here

abbrev pub BoundHas : Kind → List ℕ → List ℕ → Problem → Type 0
BoundHas kind text here BadName = IsTrue false
BoundHas kind text here BadOp = StartMissing text here
BoundHas kind text here (BadVersion fault) = WordMissing kind text here fault
BoundHas kind text here Unclosed = EndMissing kind text here
BoundHas kind text here BarNotAllowed = IsTrue false
BoundHas kind text here Trailing = IsTrue false
BoundHas kind text here OpInProvides = StartForbidden kind text here

pub bound_refused : (kind : Kind) (text here : List ℕ) (problem : Problem) → BoundHas kind text here problem → bound_at kind text ≡ refuse problem here
unfolding bound_at
bound_refused kind text here BadName h = absurd cc
bound_refused kind text here BadOp h =
    ap (λ (t : List ℕ). operator_with (operator_at kind t)) (ap skip h.parts ∙ past-append is_white h.space here h.blank h.skipped)
    ∙ ap operator_with (operator_missing kind here h.missing)
bound_refused kind text here (BadVersion fault) h =
    start_again kind text h.op h.after h.start
    ∙ ap (λ (t : List ℕ). version_with h.op (version_at t)) (ap skip h.parts ∙ past-append is_white h.space here h.blank h.skipped)
    ∙ ap (version_with h.op) (version_refused here fault h.missing)
bound_refused kind text here Unclosed h =
    version_read kind text h.bound h.after h.version
    ∙ ap (λ (t : List ℕ). close_with h.bound.op h.bound.version (closing_at t)) (ap skip h.parts ∙ past-append is_white h.space here h.blank h.skipped)
    ∙ ap (close_with h.bound.op h.bound.version) (closing_missing here h.missing)
bound_refused kind text here BarNotAllowed h = absurd cc
bound_refused kind text here Trailing h = absurd cc
bound_refused kind text here OpInProvides h =
    ap (λ (t : List ℕ). operator_with (operator_at kind t)) (ap skip h.parts ∙ past-append is_white h.space here h.blank h.skipped)
    ∙ ap operator_with (operator_forbidden kind here h.op h.is_operator h.forbidden)

-- ---- a bound is read, or one of its parts is missing

pub record BoundRead (kind : Kind) (text : List ℕ) : Type 0 where
  pub bound : Bound
  pub rest : List ℕ
  pub whole : BoundWhole kind text bound rest

pub record BoundFault (kind : Kind) (text : List ℕ) : Type 0 where
  pub here : List ℕ
  pub problem : Problem
  pub has : BoundHas kind text here problem

spaces : List ℕ → List ℕ
spaces text = take_while is_white text

spaces_blank : (text : List ℕ) → IsBlank (spaces text)
unfolding spaces
spaces_blank text = take_while_all is_white text

spaces_parts : (text : List ℕ) → text ≡ spaces text ++ skip text
unfolding spaces
spaces_parts text = sym (take_while-past is_white text)

end_cases : (kind : Kind) (text : List ℕ) (bound : Bound) (after here : List ℕ) → BoundVersion kind text bound after → here ≡ skip after → BoundRead kind text
    ⊎ BoundFault kind text
end_cases kind text bound after [] v e = inr (record {
  here = [];
  problem = Unclosed;
  has = record {
    bound = bound;
    after = after;
    space = spaces after;
    version = v;
    blank = spaces_blank after;
    parts = spaces_parts after ∙ ap (λ (t : List ℕ). spaces after ++ t) (sym e);
    skipped = tt;
    missing = tt;
  };
})
end_cases kind text bound after (b ∷ bs) v e = by_first (eqb b closing) refl
  where
    parts : after ≡ spaces after ++ (b ∷ bs)
    parts = spaces_parts after ∙ ap (λ (t : List ℕ). spaces after ++ t) (sym e)

    skipped : Stops is_white (b ∷ bs)
    skipped = subst (Stops is_white) (sym e) (past_stops is_white after)

    by_first : (t : Bool) → eqb b closing ≡ t → BoundRead kind text ⊎ BoundFault kind text
    by_first false f = inr (record {
      here = b ∷ bs;
      problem = Unclosed;
      has = record {
        bound = bound;
        after = after;
        space = spaces after;
        version = v;
        blank = spaces_blank after;
        parts = parts;
        skipped = skipped;
        missing = f;
      };
    })
    by_first true f =
        inl (record {
          bound = bound;
          rest = skip bs;
          whole = record {
            after = after;
            version = v;
            gap = spaces after;
            space = spaces bs;
            blank_gap = spaces_blank after;
            blank = spaces_blank bs;
            parts = parts ∙ ap (λ (c : ℕ). spaces after ++ (c ∷ bs)) (eqb-true b closing f)
                ∙ ap (λ (t : List ℕ). spaces after ++ (closing ∷ t)) (spaces_parts bs);
            skipped = past_stops is_white bs;
          };
        })

word_cases : (kind : Kind) (text : List ℕ) (op : Op) (after : List ℕ) → BoundStart kind text op after → VersionRead (skip after)
    ⊎ ((fault : VersionError) × (fault_of (take_while is_word_byte (skip after)) ≡ Some fault)) → BoundRead kind text ⊎ BoundFault kind text
word_cases kind text op after start (inl v) =
    end_cases kind text (record { op = op; version = v.version }) v.rest (skip v.rest)
    (record {
      after = after;
      start = start;
      space = spaces after;
      blank = spaces_blank after;
      is_version = v.is_version;
      parts = spaces_parts after ∙ ap (λ (t : List ℕ). spaces after ++ t) v.parts;
      whole = v.ends;
    }) refl
word_cases kind text op after start (inr f) =
    inr (record {
      here = skip after;
      problem = BadVersion f.0;
      has = record {
        op = op;
        after = after;
        space = spaces after;
        start = start;
        blank = spaces_blank after;
        parts = spaces_parts after;
        skipped = past_stops is_white after;
        missing = f.1;
      };
    })

start_cases : (kind : Kind) (text : List ℕ) → (OperatorRead kind (skip text) ⊎ OperatorFault kind (skip text))
    ⊎ ((op : Op) → SpellsOperator (take_while is_operator_byte (skip text)) op → ⊥) → BoundRead kind text ⊎ BoundFault kind text
start_cases kind text (inl (inl o)) =
    let start : BoundStart kind text o.op o.rest = record {
      space = spaces text;
      operator = o.operator;
      blank = spaces_blank text;
      is_operator = o.is_operator;
      allowed = o.allowed;
      parts = spaces_parts text ∙ ap (λ (t : List ℕ). spaces text ++ t) o.parts;
      whole = o.ends;
    } in
    word_cases kind text o.op o.rest start (version_cases (skip o.rest))
start_cases kind text (inl (inr f)) =
    inr (record {
      here = skip text;
      problem = OpInProvides;
      has = record {
        space = spaces text;
        op = f.op;
        blank = spaces_blank text;
        parts = spaces_parts text;
        skipped = past_stops is_white text;
        is_operator = f.is_operator;
        forbidden = f.forbidden;
      };
    })
start_cases kind text (inr never) =
    inr (record {
      here = skip text;
      problem = BadOp;
      has = record {
        space = spaces text;
        blank = spaces_blank text;
        parts = spaces_parts text;
        skipped = past_stops is_white text;
        missing = never;
      };
    })

pub bound_cases : (kind : Kind) (text : List ℕ) → BoundRead kind text ⊎ BoundFault kind text
bound_cases kind text = start_cases kind text (operator_cases kind (skip text))
