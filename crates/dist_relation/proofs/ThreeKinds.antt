-- The three kinds of values: what is read is spelled, what is refused has that first fault, and each value has one answer.
use Rattle.std.proofs.Common.{◌≡◌, ◌≢◌, ℕ, suc, ◌-◌, Bool, true, false, true≢false, ◌||◌, ◌&&◌, ◌⊎◌, inl, inr, eqb, List, [], ◌∷◌, ◌++◌, length, length-append}
use Rattle.std.proofs.Common.{◌≤◌, arith, refl, sym, ap, ◌∙◌, subst, Option, None, Some, option_map}
use Rattle.std.specs.List.{take_while}
use Rattle.std.specs.Char.{is_ascii_alphanumeric}
use Rattle.std.specs.Prelude.{Result, Ok, Err}
use Rattle.dist_base.specs.Ascii.{bar, comma, is_comma, is_white}
use Rattle.dist_relation.specs.declared.atom.Atom.{Atom}
use Rattle.dist_relation.specs.declared.atom.Bound.{Bound}
use Rattle.dist_relation.specs.declared.atom.Kind.{Kind}
use Rattle.dist_relation.specs.declared.atom.Kind.TheVariants as kinds
use Rattle.dist_relation.specs.declared.atom.Op.{Op}
use Rattle.dist_relation.specs.declared.atom.Op.TheVariants.{Lt, Le, Eq, Ge, Gt}
use Rattle.dist_relation.specs.declared.atom.Provide.{Provide}
use Rattle.dist_relation.specs.declared.atom.Qualifier.{Qualifier}
use Rattle.dist_relation.specs.declared.error.Fault.{Fault}
use Rattle.dist_relation.specs.declared.error.Problem.{Problem}
use Rattle.dist_relation.specs.declared.error.Problem.TheVariants.{BadName, BadOp, BadVersion, Unclosed, BarNotAllowed, Trailing, OpInProvides}
use Rattle.dist_relation.specs.declared.error.ReadError.{ReadError}
use Rattle.dist_relation.specs.declared.error.ReadError.TheVariants as stops
use Rattle.dist_relation.specs.declared.error.RelationError.TheVariants as errors
use Rattle.dist_base.specs.Answers.{IsExact}
use Rattle.dist_version.specs.declared.error.VersionError.{VersionError}
use Rattle.dist_version.specs.TextLaws.{no_memory_fault}
use Rattle.dist_relation.specs.declared.error.RelationError.{RelationError}
use Rattle.dist_relation.specs.Bytes.{is_word_byte, Meets}
use Rattle.dist_relation.specs.Grammar.{allows_operator, SpellsBound, SpellsBoundOf, SpellsAtom, Ended, SpellsPiece, ReadsValue, SpellsAlternatives, atom_of}
use Rattle.dist_relation.specs.Grammar.{SpellsProvide}
use Rattle.dist_relation.specs.Faults.{NameMissing, AfterAtom, Has, Comes, PassedOver, allows_bar, error_at, FirstFault}
use Rattle.dist_relation.specs.ReadingPrivate.{version_of, ◌>>=◌, Fails, FitsIn, error_in, atom_at, joined_at, alternatives_at, provide_of, provide_at}
use Rattle.dist_relation.specs.ReadingPrivate.{items_of}
use Rattle.dist_relation.proofs.ByteFacts.{or_true, or_cases, Stops-meets, fails_at}
use Rattle.dist_relation.proofs.Heads.{done}
use Rattle.dist_relation.proofs.AtomReading.{ends_atom, atom_again, atom_refused}
use Rattle.dist_relation.proofs.AtomCases.{AtomRead, AtomFault, atom_cases}
use Rattle.dist_relation.proofs.Joining.{Found, Reader, EndsBetween, JoinedFaulty, joined_reader}
use Rattle.dist_relation.proofs.Loops.{left_of}
use Rattle.dist_relation.proofs.Pieces.{PieceFaulty, ValueLaws, value_laws}

-- ---- readers with other words for where they end and what they refuse

meets_as : (f g : ℕ → Bool) (rest : List ℕ) → ((b : ℕ) → f b ≡ true → g b ≡ true) → Meets f rest → Meets g rest
meets_as f g [] k h = tt
meets_as f g (b ∷ bs) k h = k b h

ending_at : {X : Type 0} (Spells : List ℕ → X → Type 0) (f g : ℕ → Bool) (Faulty : List ℕ → Fault → Type 0) (one : List ℕ → Result (X × List ℕ) Fault)
    → ((b : ℕ) → f b ≡ true → g b ≡ true) → ((b : ℕ) → g b ≡ true → f b ≡ true) → Reader Spells f Faulty one → Reader Spells g Faulty one
ending_at {X} Spells f g Faulty one to from r =
    record {
      cases = λ text. by_cases text (r.cases text);
      again = λ front item rest h stops. r.again front item rest h (meets_as g f rest from stops);
      refused = r.refused;
    }
  where
    by_cases : (text : List ℕ) → Found Spells f text ⊎ ((fault : Fault) × Faulty text fault) → Found Spells g text ⊎ ((fault : Fault) × Faulty text fault)
    by_cases text (inl h) = inl (record {
      front = h.front;
      item = h.item;
      rest = h.rest;
      spelled = h.spelled;
      parts = h.parts;
      stops = meets_as f g h.rest to h.stops;
    })
    by_cases text (inr h) = inr h

refusing : {X : Type 0} (Spells : List ℕ → X → Type 0) (ends : ℕ → Bool) (F G : List ℕ → Fault → Type 0) (one : List ℕ → Result (X × List ℕ) Fault)
    → ((text : List ℕ) (fault : Fault) → F text fault → G text fault) → ((text : List ℕ) (fault : Fault) → G text fault → F text fault)
    → Reader Spells ends F one → Reader Spells ends G one
refusing {X} Spells ends F G one to from r =
    record { cases = λ text. by_cases text (r.cases text); again = r.again; refused = λ text fault h. r.refused text fault (from text fault h) }
  where
    by_cases : (text : List ℕ) → Found Spells ends text ⊎ ((fault : Fault) × F text fault) → Found Spells ends text ⊎ ((fault : Fault) × G text fault)
    by_cases text (inl h) = inl h
    by_cases text (inr (fault, h)) = inr (fault, to text fault h)

-- ---- atoms

abbrev fault_at : Problem → List ℕ → Fault
fault_at problem here = record { problem = problem; left = length here }

pub record AtomFaulty (kind : Kind) (text : List ℕ) (fault : Fault) : Type 0 where
  pub here : List ℕ
  pub problem : Problem
  pub has : Has kind text here problem
  pub is_fault : fault ≡ fault_at problem here

abbrev failed : {X : Type 0} → Fault → Result X Fault
failed fault = Err fault

pub atom_reader : (kind : Kind) → Reader (SpellsAtom kind) (ends_atom kind) (AtomFaulty kind) (atom_at kind)
atom_reader kind =
    record {
      cases = λ text. by_cases text (atom_cases kind text);
      again = atom_again kind;
      refused = λ text fault h. atom_refused kind text h.here h.problem h.has ∙ ap failed (sym h.is_fault);
    }
  where
    by_cases : (text : List ℕ) → AtomRead kind text ⊎ AtomFault kind text → Found (SpellsAtom kind) (ends_atom kind) text
        ⊎ ((fault : Fault) × AtomFaulty kind text fault)
    by_cases text (inl r) = inl (record { front = r.front; item = r.atom; rest = r.rest; spelled = r.spelled; parts = r.parts; stops = r.ends })
    by_cases text (inr f) = inr (fault_at f.problem f.here, record { here = f.here; problem = f.problem; has = f.has; is_fault = refl })

-- no atom is passed over
atom_needed : (kind : Kind) (text : List ℕ) → PassedOver text → (fault : Fault) × AtomFaulty kind text fault
atom_needed kind text p =
    let missing : NameMissing text p.rest = record {
      space = p.space;
      blank = p.blank;
      parts = p.parts;
      skipped = Stops-meets is_white is_comma p.rest (fails_at is_white comma refl) p.ends;
      missing = Stops-meets is_ascii_alphanumeric is_comma p.rest (fails_at is_ascii_alphanumeric comma refl) p.ends;
    } in
    (fault_at BadName p.rest, record { here = p.rest; problem = BadName; has = inl missing; is_fault = refl })

-- ---- items: atoms, each with its bar, and then an atom with a problem

pub record ItemFaulty (kind : Kind) (text : List ℕ) (fault : Fault) : Type 0 where
  pub alternatives : List ℕ
  pub atoms : List Atom
  pub rest : List ℕ
  pub is_alternatives : Ended bar (SpellsAtom kind) alternatives atoms
  pub barred : allows_bar kind ≡ false → atoms ≡ []
  pub parts : text ≡ alternatives ++ rest
  pub faulty : AtomFaulty kind rest fault

single_to : (kind : Kind) (text : List ℕ) (fault : Fault) → AtomFaulty kind text fault → ItemFaulty kind text fault
single_to kind text fault h = record { alternatives = []; atoms = []; rest = text; is_alternatives = refl; barred = λ e. refl; parts = refl; faulty = h }

single_from : (kind : Kind) (text : List ℕ) (fault : Fault) → allows_bar kind ≡ false → ItemFaulty kind text fault → AtomFaulty kind text fault
single_from kind text fault e h =
    let none : Ended bar (SpellsAtom kind) h.alternatives [] = subst (Ended bar (SpellsAtom kind) h.alternatives) (h.barred e) h.is_alternatives in
    subst (λ (t : List ℕ). AtomFaulty kind t fault) (sym (h.parts ∙ ap (λ (t : List ℕ). t ++ h.rest) none)) h.faulty

-- without alternatives an atom ends at a comma alone
comma_alone : (b : ℕ) → (eqb b comma || (eqb b bar && false)) ≡ true → eqb b comma ≡ true
comma_alone b h = elim (or_cases (eqb b comma) (eqb b bar && false) h) [ inl e ↦ e | inr e ↦ absurd (no_and (eqb b bar) e) ]
  where
    no_and : (t : Bool) → (t && false) ≡ true → ⊥
    no_and true e = true≢false (sym e)
    no_and false e = true≢false (sym e)

pub conflict_reader : Reader (SpellsAtom kinds.Conflicts) is_comma (ItemFaulty kinds.Conflicts) (atom_at kinds.Conflicts)
conflict_reader =
    refusing (SpellsAtom kinds.Conflicts) is_comma (AtomFaulty kinds.Conflicts) (ItemFaulty kinds.Conflicts) (atom_at kinds.Conflicts)
    (single_to kinds.Conflicts) (λ text fault h. single_from kinds.Conflicts text fault refl h)
    (ending_at (SpellsAtom kinds.Conflicts) (ends_atom kinds.Conflicts) is_comma (AtomFaulty kinds.Conflicts) (atom_at kinds.Conflicts) comma_alone
    (λ b h. or_true (eqb b comma) _ h) (atom_reader kinds.Conflicts))

-- ---- alternatives

bar_between : EndsBetween (ends_atom kinds.Depends) is_comma bar
bar_between = record {
  one_ends = refl;
  goes_on = refl;
  both = λ b h. or_true (eqb b comma) _ h;
  last = λ b h e. elim (or_cases (eqb b comma) (eqb b bar && true) h) [ inl f ↦ f | inr f ↦ absurd (true≢false (sym (and_first (eqb b bar) f) ∙ e)) ];
}
  where
    and_first : (t : Bool) → (t && true) ≡ true → t ≡ true
    and_first true h = refl
    and_first false h = h

item_to : (text : List ℕ) (fault : Fault) → JoinedFaulty bar (SpellsAtom kinds.Depends) (AtomFaulty kinds.Depends) text fault
    → ItemFaulty kinds.Depends text fault
item_to text fault h = record {
  alternatives = h.lead;
  atoms = h.items;
  rest = h.rest;
  is_alternatives = h.is_lead;
  barred = λ e. absurd (true≢false e);
  parts = h.parts;
  faulty = h.faulty;
}

item_from : (text : List ℕ) (fault : Fault) → ItemFaulty kinds.Depends text fault
    → JoinedFaulty bar (SpellsAtom kinds.Depends) (AtomFaulty kinds.Depends) text fault
item_from text fault h = record { lead = h.alternatives; items = h.atoms; rest = h.rest; is_lead = h.is_alternatives; parts = h.parts; faulty = h.faulty }

pub alternatives_reader : Reader SpellsAlternatives is_comma (ItemFaulty kinds.Depends) alternatives_at
unfolding alternatives_at
alternatives_reader =
    refusing SpellsAlternatives is_comma (JoinedFaulty bar (SpellsAtom kinds.Depends) (AtomFaulty kinds.Depends)) (ItemFaulty kinds.Depends)
    (λ text. joined_at bar (atom_at kinds.Depends) (suc (length text)) text) item_to item_from
    (joined_reader (SpellsAtom kinds.Depends) (ends_atom kinds.Depends) is_comma bar (AtomFaulty kinds.Depends) (atom_at kinds.Depends)
    (atom_reader kinds.Depends) bar_between)

-- ---- entries of Provides

abbrev provided : Result (Atom × List ℕ) Fault → Result (Provide × List ℕ) Fault
provided x = x >>= λ y. Ok (provide_of y.0, y.1)

-- an operator that Provides allows is `=`
provided_bound : (bound : Option Bound) (text : List ℕ) → SpellsBoundOf kinds.Provides text bound
    → SpellsBoundOf kinds.Provides text (option_map (λ version. record { op = Eq; version = version }) (version_of bound))
provided_bound None text h = h
provided_bound (Some bound) text h = by_op bound.op bound.version h
  where
    by_op : (op : Op) (version : List ℕ) → SpellsBound kinds.Provides text (record { op = op; version = version })
        → SpellsBound kinds.Provides text (record { op = Eq; version = version })
    by_op Lt version b = absurd (true≢false (sym b.allowed))
    by_op Le version b = absurd (true≢false (sym b.allowed))
    by_op Eq version b = b
    by_op Ge version b = absurd (true≢false (sym b.allowed))
    by_op Gt version b = absurd (true≢false (sym b.allowed))

provide_bound : (front : List ℕ) (atom : Atom) → SpellsAtom kinds.Provides front atom → SpellsProvide front (provide_of atom)
provide_bound front atom h = record {
  before = h.before;
  between = h.between;
  bound = h.bound;
  after = h.after;
  whole = h.whole;
  blank_before = h.blank_before;
  blank_between = h.blank_between;
  blank_after = h.blank_after;
  is_name = h.is_name;
  is_qualifier = h.is_qualifier;
  is_bound = provided_bound atom.bound h.bound h.is_bound;
}

provide_back : (name : List ℕ) (qualifier : Qualifier) (version : Option (List ℕ))
    → provide_of (atom_of (record { name = name; qualifier = qualifier; version = version })) ≡ record { name = name; qualifier = qualifier; version = version }
provide_back name qualifier None = refl
provide_back name qualifier (Some version) = refl

abbrev provided_at : List ℕ → Provide → Result (Provide × List ℕ) Fault
provided_at rest provide = Ok (provide, rest)

pub provide_reader : Reader SpellsProvide is_comma (ItemFaulty kinds.Provides) provide_at
unfolding provide_at
provide_reader =
    record {
      cases = λ text. by_cases text (single.cases text);
      again = λ front provide rest h stops. ap provided (single.again front (atom_of provide) rest h stops)
          ∙ ap (provided_at rest) (provide_back provide.name provide.qualifier provide.version);
      refused = λ text fault h. ap provided (single.refused text fault h);
    }
  where
    single : Reader (SpellsAtom kinds.Provides) is_comma (ItemFaulty kinds.Provides) (atom_at kinds.Provides)
    single =
        refusing (SpellsAtom kinds.Provides) is_comma (AtomFaulty kinds.Provides) (ItemFaulty kinds.Provides) (atom_at kinds.Provides)
        (single_to kinds.Provides) (λ text fault h. single_from kinds.Provides text fault refl h)
        (ending_at (SpellsAtom kinds.Provides) (ends_atom kinds.Provides) is_comma (AtomFaulty kinds.Provides) (atom_at kinds.Provides) comma_alone
        (λ b h. or_true (eqb b comma) _ h) (atom_reader kinds.Provides))

    by_cases : (text : List ℕ) → Found (SpellsAtom kinds.Provides) is_comma text ⊎ ((fault : Fault) × ItemFaulty kinds.Provides text fault)
        → Found SpellsProvide is_comma text ⊎ ((fault : Fault) × ItemFaulty kinds.Provides text fault)
    by_cases text (inl f) = inl (record {
      front = f.front;
      item = provide_of f.item;
      rest = f.rest;
      spelled = provide_bound f.front f.item f.spelled;
      parts = f.parts;
      stops = f.stops;
    })
    by_cases text (inr f) = inr f

-- ---- whole values

-- the fault with its place counted from the start
abbrev pub placed : List ℕ → Fault → RelationError
placed value fault = error_at fault.problem (length value - fault.left)

after_left : (kind : Kind) (text here : List ℕ) → AfterAtom kind text here → length here ≤ length text
after_left kind text here (inl h) = omega (arith, ap length h.parts, length-append h.head (h.space ++ here), length-append h.space here)
after_left kind text here (inr h) = omega (arith, ap length h.parts, length-append h.versioned (41 ∷ (h.space ++ here)), length-append h.space here)

abbrev some_fault : VersionError → Option VersionError
some_fault fault = Some fault

-- what follows a fault's place is a part of the text
has_left : (kind : Kind) (text here : List ℕ) (problem : Problem) → Has kind text here problem → length here ≤ length text
has_left kind text here BadName (inl h) = omega (arith, ap length h.parts, length-append h.space here)
has_left kind text here BadName (inr h) = omega (arith, ap length h.parts, length-append h.head (58 ∷ here))
has_left kind text here BadOp h = omega (arith, ap length h.parts, length-append h.opened here)
has_left kind text here (BadVersion fault) h = omega (arith, ap length h.parts, length-append h.compared here)
has_left kind text here Unclosed h = omega (arith, ap length h.parts, length-append h.versioned here)
has_left kind text here BarNotAllowed h = after_left kind text here h.after_atom
has_left kind text here Trailing h = after_left kind text here h.after_atom
has_left kind text here OpInProvides h = omega (arith, ap length h.parts, length-append h.opened here)

no_bar : (kind : Kind) → allows_bar kind ≡ false → kind ≢ kinds.Depends
no_bar kind h e = true≢false (sym (ap allows_bar e) ∙ h)

only_provides : (kind : Kind) (op : Op) → allows_operator kind op ≡ false → kind ≡ kinds.Provides
only_provides kinds.Depends op h = absurd (true≢false h)
only_provides kinds.Conflicts op h = absurd (true≢false h)
only_provides kinds.Provides op h = refl

has_comes : (kind : Kind) (text here : List ℕ) (problem : Problem) (place : ℕ) → Has kind text here problem → Comes kind (error_at problem place)
has_comes kind text here BadName place h = tt
has_comes kind text here BadOp place h = tt
has_comes kind text here (BadVersion fault) place h = λ e. no_memory_fault (take_while is_word_byte here) (h.missing ∙ ap some_fault e)
has_comes kind text here Unclosed place h = tt
has_comes kind text here BarNotAllowed place h = no_bar kind h.forbidden
has_comes kind text here Trailing place h = tt
has_comes kind text here OpInProvides place h = only_provides kind h.op h.forbidden

module _ {X : Type 0} (kind : Kind) (Spells : List ℕ → X → Type 0) (one : List ℕ → Result (X × List ℕ) Fault)
    (reader : Reader Spells is_comma (ItemFaulty kind) one) where
  needed : (text : List ℕ) → PassedOver text → (fault : Fault) × (one text ≡ Err fault)
  needed text p = let n = atom_needed kind text p in (n.0, reader.refused text n.0 (single_to kind text n.0 n.1))

  laws : ValueLaws Spells (ItemFaulty kind) one
  laws = value_laws Spells (ItemFaulty kind) one reader needed

  abbrev Faulty : List ℕ → Fault → Type 0
  Faulty value fault = JoinedFaulty comma (SpellsPiece Spells) (PieceFaulty (ItemFaulty kind)) value fault

  first_fault : (value : List ℕ) (fault : Fault) → Faulty value fault → FirstFault kind Spells value (placed value fault)
  first_fault value fault h =
      let i = h.faulty.faulty in
      record {
        before = h.lead;
        pieces = h.items;
        alternatives = i.alternatives;
        atoms = i.atoms;
        text = i.rest;
        here = i.faulty.here;
        problem = i.faulty.problem;
        parts = h.parts ∙ ap (λ (t : List ℕ). h.lead ++ t) i.parts;
        is_before = h.is_lead;
        not_passed_over = subst (λ (t : List ℕ). PassedOver t → ⊥) i.parts h.faulty.not_passed_over;
        is_alternatives = i.is_alternatives;
        barred = i.barred;
        has = i.faulty.has;
        is_error = ap (placed value) i.faulty.is_fault;
      }

  fault_of_first : (value : List ℕ) (error : RelationError) → FirstFault kind Spells value error → (fault : Fault) × Faulty value fault
      × (error ≡ placed value fault)
  fault_of_first value error h =
      let fault : Fault = fault_at h.problem h.here in
      let atom : AtomFaulty kind h.text fault = record { here = h.here; problem = h.problem; has = h.has; is_fault = refl } in
      let item : ItemFaulty kind (h.alternatives ++ h.text) fault =
      record {
        alternatives = h.alternatives;
        atoms = h.atoms;
        rest = h.text;
        is_alternatives = h.is_alternatives;
        barred = h.barred;
        parts = refl;
        faulty = atom;
      } in (
        fault,
        record {
          lead = h.before;
          items = h.pieces;
          rest = h.alternatives ++ h.text;
          is_lead = h.is_before;
          parts = h.parts;
          faulty = record { not_passed_over = h.not_passed_over; faulty = item };
        },
        h.is_error,
      )

  -- what was read is spelled
  pub value_reads : (value : List ℕ) (items : List X) → items_of one value ≡ Ok items → ReadsValue Spells value items
  value_reads value items e = by_cases (laws.cases value)
    where
      by_cases : ((items : List X) × ReadsValue Spells value items) ⊎ ((fault : Fault) × Faulty value fault) → ReadsValue Spells value items
      by_cases (inl (others, h)) = let same : others ≡ items = cc (laws.again value others h, e) in subst (ReadsValue Spells value) same h
      by_cases (inr (fault, h)) = let never = laws.refused value fault h in absurd (cc (never, e))

  -- what was refused has that first fault
  pub value_fault : (value : List ℕ) (fault : Fault) → items_of one value ≡ Err fault → FirstFault kind Spells value (placed value fault)
  value_fault value fault e = by_cases (laws.cases value)
    where
      by_cases : ((items : List X) × ReadsValue Spells value items) ⊎ ((fault : Fault) × Faulty value fault) → FirstFault kind Spells value (placed value fault)
      by_cases (inl (others, h)) = let never = laws.again value others h in absurd (cc (never, e))
      by_cases (inr (other, h)) = let same : other ≡ fault = cc (laws.refused value other h, e) in
          subst (λ (f : Fault). FirstFault kind Spells value (placed value f)) same (first_fault value other h)

  pub one_answer : (value : List ℕ) → IsExact (ReadsValue Spells value) (FirstFault kind Spells value)
  one_answer value =
      record {
        some = by_cases (laws.cases value);
        never_both = λ items error h f. let g = fault_of_first value error f in let clash = sym (laws.again value items h) ∙ laws.refused value g.0 g.1 in
            absurd cc;
        one_reading = λ first second h k. cc (laws.again value first h, laws.again value second k);
        one_fault = λ first second f g.
            let a = fault_of_first value first f in
            let b = fault_of_first value second g in
            let same : a.0 ≡ b.0 = cc (laws.refused value a.0 a.1, laws.refused value b.0 b.1) in
            a.2 ∙ ap (placed value) same ∙ sym b.2;
      }
    where
      by_cases : ((items : List X) × ReadsValue Spells value items) ⊎ ((fault : Fault) × Faulty value fault)
          → ((items : List X) × ReadsValue Spells value items)
          ⊎ ((error : RelationError) × FirstFault kind Spells value error)
      by_cases (inl h) = inl h
      by_cases (inr (fault, h)) = inr (placed value fault, first_fault value fault h)

  -- which errors come
  pub fault_comes : (value : List ℕ) (error : RelationError) → FirstFault kind Spells value error → Comes kind error
  fault_comes value error f = subst (Comes kind) (sym f.is_error) (has_comes kind f.text f.here f.problem (length value - length f.here) f.has)

  -- what is left from the fault on is no more than the value
  pub value_left : (value : List ℕ) (fault : Fault) → items_of one value ≡ Err fault → fault.left ≤ length value
  value_left value fault e = by_cases (laws.cases value)
    where
      by_cases : ((items : List X) × ReadsValue Spells value items) ⊎ ((fault : Fault) × Faulty value fault) → fault.left ≤ length value
      by_cases (inl (others, h)) = let never = laws.again value others h in absurd (cc (never, e))
      by_cases (inr (other, h)) =
          let same : other ≡ fault = cc (laws.refused value other h, e) in
          let i = h.faulty.faulty in
          let left : length i.faulty.here ≤ length i.rest = has_left kind i.rest i.faulty.here i.faulty.problem i.faulty.has in
          omega (
            arith,
            left,
            ap (λ (f : Fault). f.left) (sym same ∙ i.faulty.is_fault),
            ap length h.parts,
            length-append h.lead h.rest,
            ap length i.parts,
            length-append i.alternatives i.rest,
          )

  pub read_fits : (error : ReadError) (value : List ℕ) → Fails error (items_of one value) → FitsIn (length value) error
  read_fits stops.NoMemory value h = tt
  read_fits (stops.Fault fault) value h = value_left value fault h

  pub read_fault : (error : ReadError) (value : List ℕ) → Fails error (items_of one value) → (error_in (length value) error ≡ errors.NoMemory)
      ⊎ FirstFault kind Spells value (error_in (length value) error)
  read_fault stops.NoMemory value h = inl refl
  read_fault (stops.Fault fault) value h = inr (value_fault value fault h)

-- ---- a reader leaves no more than was there

reader_shorter : {X : Type 0} (Spells : List ℕ → X → Type 0) (ends : ℕ → Bool) (F : List ℕ → Fault → Type 0) (one : List ℕ → Result (X × List ℕ) Fault)
    → Reader Spells ends F one → (text : List ℕ) (x : X) (rest : List ℕ) → one text ≡ Ok (x, rest) → length rest ≤ length text
reader_shorter {X} Spells ends F one r text x rest e = by_cases (r.cases text)
  where
    by_cases : Found Spells ends text ⊎ ((fault : Fault) × F text fault) → length rest ≤ length text
    by_cases (inl f) =
        let read : one text ≡ done f.item f.rest = ap one f.parts ∙ r.again f.front f.item f.rest f.spelled f.stops in
        omega (arith, ap (λ y. length (left_of y)) (sym e ∙ read), ap length f.parts, length-append f.front f.rest)
    by_cases (inr (fault, f)) = let never = r.refused text fault f in absurd (cc (never, e))

pub alternatives_shorter : (text : List ℕ) (x : List Atom) (rest : List ℕ) → alternatives_at text ≡ Ok (x, rest) → length rest ≤ length text
alternatives_shorter text x rest e = reader_shorter SpellsAlternatives is_comma (ItemFaulty kinds.Depends) alternatives_at alternatives_reader text x rest e

pub atom_shorter : (kind : Kind) (text : List ℕ) (x : Atom) (rest : List ℕ) → atom_at kind text ≡ Ok (x, rest) → length rest ≤ length text
atom_shorter kind text x rest e = reader_shorter (SpellsAtom kind) (ends_atom kind) (AtomFaulty kind) (atom_at kind) (atom_reader kind) text x rest e

pub conflict_shorter : (text : List ℕ) (x : Atom) (rest : List ℕ) → atom_at kinds.Conflicts text ≡ Ok (x, rest) → length rest ≤ length text
conflict_shorter text x rest e = atom_shorter kinds.Conflicts text x rest e

pub provide_shorter : (text : List ℕ) (x : Provide) (rest : List ℕ) → provide_at text ≡ Ok (x, rest) → length rest ≤ length text
provide_shorter text x rest e = reader_shorter SpellsProvide is_comma (ItemFaulty kinds.Provides) provide_at provide_reader text x rest e
