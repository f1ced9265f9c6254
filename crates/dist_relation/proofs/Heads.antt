-- The reader of a name and its qualifier gives the head of an atom, or the fault of a missing name.
use Rattle.std.proofs.Common.{◌≡◌, subst, ℕ, Bool, true, false, ◌⊎◌, inl, inr, eqb, cond, List, [], ◌∷◌, ◌++◌, refl, sym, ap, ◌∙◌, append_assoc}
use Rattle.std.specs.Char.{is_ascii_alphanumeric}
use Rattle.std.specs.List.{list_all, take_while}
use Rattle.std.specs.Prelude.{Result, Ok}
use Rattle.std.proofs.lemmas.Bool.{eqb-true}
use Rattle.std.proofs.lemmas.List.{append-nil}
use Rattle.dist_base.specs.Ascii.{colon, is_white}
use Rattle.dist_relation.specs.declared.atom.Qualifier.{Qualifier}
use Rattle.dist_relation.specs.declared.atom.Qualifier.TheVariants.{Plain, Named}
use Rattle.dist_relation.specs.declared.error.Fault.{Fault}
use Rattle.dist_relation.specs.declared.error.Problem.TheVariants.{BadName}
use Rattle.dist_relation.specs.Bytes.{is_name_byte, IsBlank, IsName, Stops}
use Rattle.dist_relation.specs.Grammar.{qualifier_text, IsQualifier}
use Rattle.dist_relation.specs.Faults.{Head, NameMissing, QualifierMissing, EndsHead}
use Rattle.dist_relation.specs.ReadingPrivate.{◌>>=◌, refuse, past, skip, name_at, qualifier_at, head_at}
use Rattle.dist_relation.proofs.Runs.{true_both, take_while-append, past-append, take_while-past, take_while_all, take_while-yes, past_stops}
use Rattle.dist_relation.proofs.ByteFacts.{or_true, name_bytes, name_starts, Stops-name}

-- what was read, and what follows
abbrev pub done : {A B : Type 0} → A → B → Result (A × B) Fault
done x rest = Ok (x, rest)

pub ok_pair : {A B : Type 0} (x y : A) (a b : B) → x ≡ y → a ≡ b → done x a ≡ done y b
ok_pair x y a b p q = rw (p, q) refl

-- ---- names

pub name_again : (name r : List ℕ) → IsName name → Stops is_name_byte r → name_at (name ++ r) ≡ Ok (name, r)
unfolding name_at
name_again [] r h stops = absurd cc
name_again (b ∷ bs) r h stops =
    let all = name_bytes b bs h in
    let text : List ℕ = b ∷ (bs ++ r) in
    ap (λ (t : Bool). cond t (Ok (take_while is_name_byte text, past is_name_byte text)) (refuse BadName text)) (name_starts b bs h)
    ∙ ok_pair (take_while is_name_byte text) (b ∷ bs) (past is_name_byte text) r (take_while-append is_name_byte (b ∷ bs) r all stops)
    (past-append is_name_byte (b ∷ bs) r all stops)

pub name_refused : (here : List ℕ) → Stops is_ascii_alphanumeric here → name_at here ≡ refuse BadName here
unfolding name_at
name_refused [] h = refl
name_refused (b ∷ bs) h = ap (λ (t : Bool). cond t (Ok (take_while is_name_byte (b ∷ bs), past is_name_byte (b ∷ bs))) (refuse BadName (b ∷ bs))) h

pub record NameRead (text : List ℕ) : Type 0 where
  pub name : List ℕ
  pub rest : List ℕ
  pub is_name : IsName name
  pub parts : text ≡ name ++ rest
  pub ends : Stops is_name_byte rest
  pub read : name_at text ≡ Ok (name, rest)

pub IsName-run : (b : ℕ) (bs : List ℕ) → is_ascii_alphanumeric b ≡ true → IsName (take_while is_name_byte (b ∷ bs))
IsName-run b bs h =
    subst IsName (sym (take_while-yes is_name_byte b bs (or_true (is_ascii_alphanumeric b) _ h)))
    (true_both (is_ascii_alphanumeric b) (list_all is_name_byte (take_while is_name_byte bs)) h (take_while_all is_name_byte bs))

name_cases_by : (t : Bool) (b : ℕ) (bs : List ℕ) → is_ascii_alphanumeric b ≡ t → NameRead (b ∷ bs) ⊎ (t ≡ false)
name_cases_by false b bs h = inr refl
name_cases_by true b bs h =
    let name : List ℕ = take_while is_name_byte (b ∷ bs) in
    let rest : List ℕ = past is_name_byte (b ∷ bs) in
    let is_name : IsName name = IsName-run b bs h in
    let parts : name ++ rest ≡ b ∷ bs = take_while-past is_name_byte (b ∷ bs) in
    let ends : Stops is_name_byte rest = past_stops is_name_byte (b ∷ bs) in
    let again : name_at (name ++ rest) ≡ Ok (name, rest) = name_again name rest is_name ends in
    inl (record {
      name = name;
      rest = rest;
      is_name = is_name;
      parts = sym parts;
      ends = ends;
      read = subst (λ (text : List ℕ). name_at text ≡ Ok (name, rest)) parts again;
    })

pub name_cases : (text : List ℕ) → NameRead text ⊎ Stops is_ascii_alphanumeric text
name_cases [] = inr tt
name_cases (b ∷ bs) = name_cases_by (is_ascii_alphanumeric b) b bs refl

-- ---- qualifiers

abbrev after_colon : List ℕ → Result (Qualifier × List ℕ) Fault
after_colon bs = name_at bs >>= λ x. Ok (Named x.0, x.1)

pub qualifier_again : (q : Qualifier) (r : List ℕ) → IsQualifier q → EndsHead q r → qualifier_at (qualifier_text q ++ r) ≡ Ok (q, r)
unfolding qualifier_at
qualifier_again Plain [] h ends = refl
qualifier_again Plain (b ∷ bs) h ends = ap (λ (t : Bool). cond t (after_colon bs) (Ok (Plain, b ∷ bs))) ends.1
qualifier_again (Named name) r h ends = ap (λ (x : Result (List ℕ × List ℕ) Fault). x >>= λ y. Ok (Named y.0, y.1)) (name_again name r h ends)

pub qualifier_refused : (here : List ℕ) → Stops is_ascii_alphanumeric here → qualifier_at (colon ∷ here) ≡ refuse BadName here
unfolding qualifier_at
qualifier_refused here h = ap (λ (x : Result (List ℕ × List ℕ) Fault). x >>= λ y. Ok (Named y.0, y.1)) (name_refused here h)

pub record QualifierRead (text : List ℕ) : Type 0 where
  pub qualifier : Qualifier
  pub rest : List ℕ
  pub is_qualifier : IsQualifier qualifier
  pub parts : text ≡ qualifier_text qualifier ++ rest
  pub ends : EndsHead qualifier rest
  pub read : qualifier_at text ≡ Ok (qualifier, rest)

pub record QualifierFault (text : List ℕ) : Type 0 where
  pub here : List ℕ
  pub parts : text ≡ colon ∷ here
  pub missing : Stops is_ascii_alphanumeric here

colon_cases : (bs : List ℕ) → NameRead bs ⊎ Stops is_ascii_alphanumeric bs → QualifierRead (colon ∷ bs) ⊎ QualifierFault (colon ∷ bs)
colon_cases bs (inl n) =
    let again : qualifier_at (colon ∷ (n.name ++ n.rest)) ≡ Ok (Named n.name, n.rest) = qualifier_again (Named n.name) n.rest n.is_name n.ends in
    inl (record {
      qualifier = Named n.name;
      rest = n.rest;
      is_qualifier = n.is_name;
      parts = ap (λ (t : List ℕ). colon ∷ t) n.parts;
      ends = n.ends;
      read = subst (λ (t : List ℕ). qualifier_at (colon ∷ t) ≡ Ok (Named n.name, n.rest)) (sym n.parts) again;
    })
colon_cases bs (inr h) = inr (record { here = bs; parts = refl; missing = h })

qualifier_cases_by : (t : Bool) (b : ℕ) (bs : List ℕ) → eqb b colon ≡ t → Stops is_name_byte (b ∷ bs) → QualifierRead (b ∷ bs) ⊎ QualifierFault (b ∷ bs)
qualifier_cases_by false b bs e h =
    let ends : EndsHead Plain (b ∷ bs) = (h, e) in
    inl (record { qualifier = Plain; rest = b ∷ bs; is_qualifier = tt; parts = refl; ends = ends; read = qualifier_again Plain (b ∷ bs) tt ends })
qualifier_cases_by true b bs e h =
    subst (λ (c : ℕ). QualifierRead (c ∷ bs) ⊎ QualifierFault (c ∷ bs)) (sym (eqb-true b colon e)) (colon_cases bs (name_cases bs))

pub qualifier_cases : (text : List ℕ) → Stops is_name_byte text → QualifierRead text ⊎ QualifierFault text
qualifier_cases [] h = inl (record {
  qualifier = Plain;
  rest = [];
  is_qualifier = tt;
  parts = refl;
  ends = (tt, tt);
  read = qualifier_again Plain [] tt (tt, tt);
})
qualifier_cases (b ∷ bs) h = qualifier_cases_by (eqb b colon) b bs refl h

-- ---- heads

-- after the name comes the qualifier, if there is one
abbrev with_name : List ℕ × List ℕ → Result (List ℕ × Qualifier × List ℕ) Fault
with_name name = qualifier_at name.1 >>= λ qualifier. Ok (name.0, qualifier.0, qualifier.1)

abbrev from_name : Result (List ℕ × List ℕ) Fault → Result (List ℕ × Qualifier × List ℕ) Fault
from_name x = x >>= with_name

abbrev from_qualifier : List ℕ → Result (Qualifier × List ℕ) Fault → Result (List ℕ × Qualifier × List ℕ) Fault
from_qualifier name x = x >>= λ qualifier. Ok (name, qualifier.0, qualifier.1)

-- a qualifier and what may end it begin with no byte of a name
Stops-qualifier : (q : Qualifier) (r : List ℕ) → EndsHead q r → Stops is_name_byte (qualifier_text q ++ r)
Stops-qualifier Plain r h = h.0
Stops-qualifier (Named name) r h = refl

pub head_again : (head name : List ℕ) (q : Qualifier) (r : List ℕ) → Head head name q → EndsHead q r → head_at (head ++ r) ≡ Ok (name, q, r)
unfolding head_at
head_again head name q r h ends =
    let whole : head ++ r ≡ h.space ++ (name ++ (qualifier_text q ++ r)) = ap (λ (t : List ℕ). t ++ r) h.parts ∙ simp append_assoc in
    let skipped : skip (head ++ r) ≡ name ++ (qualifier_text q ++ r) = ap skip whole
    ∙ past-append is_white h.space (name ++ (qualifier_text q ++ r)) h.blank (Stops-name name (qualifier_text q ++ r) h.is_name) in
    ap (λ (t : List ℕ). from_name (name_at t)) skipped
    ∙ ap from_name (name_again name (qualifier_text q ++ r) h.is_name (Stops-qualifier q r ends))
    ∙ ap (from_qualifier name) (qualifier_again q r h.is_qualifier ends)

pub head_lacks_name : (text here : List ℕ) → NameMissing text here → head_at text ≡ refuse BadName here
unfolding head_at
head_lacks_name text here h =
    let skipped : skip text ≡ here = ap skip h.parts ∙ past-append is_white h.space here h.blank h.skipped in
    ap (λ (t : List ℕ). from_name (name_at t)) skipped ∙ ap from_name (name_refused here h.missing)

pub head_lacks_qualifier : (text here : List ℕ) → QualifierMissing text here → head_at text ≡ refuse BadName here
unfolding head_at
head_lacks_qualifier text here h =
    let whole : text ≡ h.is_head.space ++ (h.name ++ (colon ∷ here)) = h.parts
    ∙ ap (λ (t : List ℕ). t ++ (colon ∷ here)) (h.is_head.parts ∙ ap (λ (t : List ℕ). h.is_head.space ++ t) (append-nil h.name))
    ∙ append_assoc h.is_head.space h.name (colon ∷ here) in
    let skipped : skip text ≡ h.name ++ (colon ∷ here) = ap skip whole
    ∙ past-append is_white h.is_head.space (h.name ++ (colon ∷ here)) h.is_head.blank (Stops-name h.name (colon ∷ here) h.is_head.is_name) in
    ap (λ (t : List ℕ). from_name (name_at t)) skipped
    ∙ ap from_name (name_again h.name (colon ∷ here) h.is_head.is_name refl)
    ∙ ap (from_qualifier h.name) (qualifier_refused here h.missing)

pub record HeadRead (text : List ℕ) : Type 0 where
  pub head : List ℕ
  pub name : List ℕ
  pub qualifier : Qualifier
  pub rest : List ℕ
  pub is_head : Head head name qualifier
  pub parts : text ≡ head ++ rest
  pub ends : EndsHead qualifier rest
  pub read : head_at text ≡ Ok (name, qualifier, rest)

pub record HeadFault (text : List ℕ) : Type 0 where
  pub here : List ℕ
  pub has : NameMissing text here ⊎ QualifierMissing text here
  pub read : head_at text ≡ refuse BadName here

named_cases : (text space : List ℕ) (n : NameRead (skip text)) → IsBlank space → text ≡ space ++ skip text → QualifierRead n.rest ⊎ QualifierFault n.rest
    → HeadRead text ⊎ HeadFault text
named_cases text space n blank split (inl q) =
    let head : List ℕ = space ++ (n.name ++ qualifier_text q.qualifier) in
    let is_head : Head head n.name q.qualifier = record { space = space; blank = blank; is_name = n.is_name; is_qualifier = q.is_qualifier; parts = refl } in
    let parts : text ≡ head ++ q.rest = split ∙ ap (λ (t : List ℕ). space ++ t) (n.parts ∙ ap (λ (t : List ℕ). n.name ++ t) q.parts) ∙ simp append_assoc in
    inl (record {
      head = head;
      name = n.name;
      qualifier = q.qualifier;
      rest = q.rest;
      is_head = is_head;
      parts = parts;
      ends = q.ends;
      read = ap head_at parts ∙ head_again head n.name q.qualifier q.rest is_head q.ends;
    })
named_cases text space n blank split (inr f) =
    let head : List ℕ = space ++ (n.name ++ []) in
    let is_head : Head head n.name Plain = record { space = space; blank = blank; is_name = n.is_name; is_qualifier = tt; parts = refl } in
    let parts : text ≡ head ++ (colon ∷ f.here) = split ∙ ap (λ (t : List ℕ). space ++ t) (n.parts ∙ ap (λ (t : List ℕ). n.name ++ t) f.parts)
    ∙ simp append_assoc in
    let missing : QualifierMissing text f.here = record { name = n.name; head = head; is_head = is_head; parts = parts; missing = f.missing } in
    inr (record { here = f.here; has = inr missing; read = head_lacks_qualifier text f.here missing })

skipped_cases : (text space : List ℕ) → IsBlank space → text ≡ space ++ skip text → NameRead (skip text) ⊎ Stops is_ascii_alphanumeric (skip text)
    → HeadRead text ⊎ HeadFault text
skipped_cases text space blank split (inl n) = named_cases text space n blank split (qualifier_cases n.rest n.ends)
skipped_cases text space blank split (inr h) =
    let missing : NameMissing text (skip text) = record { space = space; blank = blank; parts = split; skipped = past_stops is_white text; missing = h } in
    inr (record { here = skip text; has = inl missing; read = head_lacks_name text (skip text) missing })

-- a text begins with a head, or its name or its qualifier is missing
pub head_cases : (text : List ℕ) → HeadRead text ⊎ HeadFault text
head_cases text = skipped_cases text (take_while is_white text) (take_while_all is_white text) (sym (take_while-past is_white text)) (name_cases (skip text))
