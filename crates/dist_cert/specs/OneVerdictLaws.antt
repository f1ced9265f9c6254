-- Laws of acceptance and refusal: a text has one verdict at most.
use Rattle.std.proofs.Common.{◌≡◌, ◌≢◌, ◌⊎◌, ⊎_elim, inl, inr, ℕ, ◌+◌, List, [], ◌∷◌, ◌++◌, length, refl, ap, sym}
use Rattle.std.proofs.Common.{subst, ◌∙◌, append_assoc, arith}
use Rattle.std.specs.List.{All}
use Rattle.std.proofs.lemmas.Bool.{false≢true}
use Rattle.std.proofs.lemmas.List.{append-nil}
use Rattle.std.proofs.lemmas.List.Elements.{All-tail}
use Rattle.dist_base.specs.Ascii.{line_feed}
use Rattle.dist_outside.specs.declared.limits.Limits.{Limits}
use Rattle.dist_cert.specs.declared.faults.CertCause.{CertCause}
use Rattle.dist_cert.specs.declared.faults.CertFault.{CertFault}
use Rattle.dist_cert.specs.declared.records.CertRecord.{CertRecord}
use Rattle.dist_cert.specs.Form.{record_text, HasForm}
use Rattle.dist_cert.specs.Groups.{is_some_number}
use Rattle.dist_cert.specs.ClearFormsLaws.{AreClear, RecordsAreClear}
use Rattle.dist_cert.specs.FileLines.{Rules, IsOneLine, lines_text, file_text, ReadsAs, HasHeadingFault}
use Rattle.dist_cert.specs.FileLines.{HasFaultBehind, in_order, IsFirstOf, AreRight, IsRefusedFirst, IsRefusedLater}
use Rattle.dist_cert.specs.FileLines.{IsRefusedWith, IsWhole}

-- ---- first causes

pub has_first : (Has : CertCause → Type 0) (causes : List CertCause) (cause : CertCause) → IsFirstOf causes Has cause
    → Has cause
has_first Has [] cause h = absurd h
has_first Has (next ∷ later) cause h = ⊎_elim (λ x. subst Has (sym x.1) x.0) (λ x. has_first Has later cause x.1) h

pub one_first : (Has : CertCause → Type 0) (causes : List CertCause) (cause other : CertCause)
    → IsFirstOf causes Has cause → IsFirstOf causes Has other → cause ≡ other
one_first Has [] cause other h g = absurd h
one_first Has (next ∷ later) cause other h g = ⊎_elim
    (λ x. ⊎_elim (λ y. x.1 ∙ sym y.1) (λ y. absurd (y.0 x.0)) g)
    (λ x. ⊎_elim (λ y. absurd (x.0 y.0)) (λ y. one_first Has later cause other x.1 y.1) g)
    h

-- ---- lines

head_or : ℕ → List ℕ → ℕ
head_or n [] = n
head_or n (x ∷ xs) = x

tail_of : List ℕ → List ℕ
tail_of [] = []
tail_of (x ∷ xs) = xs

same_head : (x y : ℕ) (xs ys : List ℕ) → x ∷ xs ≡ y ∷ ys → x ≡ y
unfolding head_or
same_head x y xs ys e = ap (head_or 0) e

same_tail : (x y : ℕ) (xs ys : List ℕ) → x ∷ xs ≡ y ∷ ys → xs ≡ ys
unfolding tail_of
same_tail x y xs ys e = ap tail_of e

first_other : (x : ℕ) (xs : List ℕ) → IsOneLine (x ∷ xs) → x ≢ line_feed
first_other x xs h = h 0 0 (omega arith)

-- two lines with their line feeds, each with more behind, are the same where the whole texts are
pub one_line : (a b more other : List ℕ) → IsOneLine a → IsOneLine b → a ++ line_feed ∷ more ≡ b ++ line_feed ∷ other
    → (a ≡ b) × (more ≡ other)
one_line [] [] more other ha hb e = (refl, same_tail line_feed line_feed more other e)
one_line [] (y ∷ b) more other ha hb e = absurd
    (first_other y b hb (sym (same_head line_feed y more (b ++ line_feed ∷ other) e)))
one_line (x ∷ a) [] more other ha hb e = absurd
    (first_other x a ha (same_head x line_feed (a ++ line_feed ∷ more) other e))
one_line (x ∷ a) (y ∷ b) more other ha hb e =
    let first : x ≡ y = same_head x y (a ++ line_feed ∷ more) (b ++ line_feed ∷ other) e in
    let rest = one_line a b more other (All-tail (λ byte. byte ≢ line_feed) x a ha)
    (All-tail (λ byte. byte ≢ line_feed) y b hb) (same_tail x y (a ++ line_feed ∷ more) (b ++ line_feed ∷ other) e)
    in
    (subst (λ z. x ∷ a ≡ z ∷ b) first (ap (λ c. x ∷ c) rest.0), rest.1)

AreRecords : List CertRecord → Type 0
AreRecords steps = All (λ step. HasForm (record_text step) step) steps

pub first_line_of : (step : CertRecord) (steps : List CertRecord) (rest : List ℕ)
    → lines_text (step ∷ steps) ++ rest ≡ record_text step ++ line_feed ∷ (lines_text steps ++ rest)
first_line_of step steps rest = append_assoc (record_text step ++ line_feed ∷ []) (lines_text steps) rest
    ∙ append_assoc (record_text step) (line_feed ∷ []) (lines_text steps ++ rest)

-- the first list is a front of the second, with the rest that this leaves
IsFront : List CertRecord → List ℕ → List CertRecord → List ℕ → Type 0
IsFront few rest many other = (more : List CertRecord) × (many ≡ few ++ more) × (rest ≡ lines_text more ++ other)

abbrev pub IsShorter : List CertRecord → List ℕ → List CertRecord → List ℕ → Type 0
IsShorter few rest many other = (step : CertRecord) × (more : List CertRecord) × (many ≡ few ++ step ∷ more)
    × (rest ≡ lines_text (step ∷ more) ++ other)

-- of two readings of a text one is a front of the other
one_is_front : RecordsAreClear → (ones twos : List CertRecord) (rest other : List ℕ) → AreRecords ones → AreRecords twos
    → lines_text ones ++ rest ≡ lines_text twos ++ other
    → IsFront ones rest twos other ⊎ IsShorter twos other ones rest
unfolding AreRecords IsFront
one_is_front clear [] twos rest other ha hb e = inl (twos, refl, e)
one_is_front clear (a ∷ ones) [] rest other ha hb e = inr (a, ones, refl, sym e)
one_is_front clear (a ∷ ones) (b ∷ twos) rest other ha hb e =
    let Form : CertRecord → Type 0 = λ step. HasForm (record_text step) step in
    let lines = one_line (record_text a) (record_text b) (lines_text ones ++ rest) (lines_text twos ++ other)
    (clear.record_line a (ha 0 a (omega arith))) (clear.record_line b (hb 0 b (omega arith)))
    (sym (first_line_of a ones rest) ∙ e ∙ first_line_of b twos other) in
    let same : a ≡ b = clear.one_record (record_text a) a b (ha 0 a (omega arith))
    (subst (λ line. HasForm line b) (sym lines.0) (hb 0 b (omega arith))) in
    ⊎_elim
    (λ h. inl (h.0, subst (λ c. b ∷ twos ≡ c ∷ ones ++ h.0) (sym same) (ap (λ ds. b ∷ ds) h.1), h.2))
    (λ h. inr (h.0, h.1, subst (λ c. c ∷ ones ≡ b ∷ twos ++ h.0 ∷ h.1) (sym same) (ap (λ ds. b ∷ ds) h.2), h.3))
    (one_is_front clear ones twos rest other (All-tail Form a ones ha) (All-tail Form b twos hb) lines.1)

-- ---- readings of one text

same_lines : (rules : Rules) → AreClear rules → (text : List ℕ) (h other : rules.Heading) (ones twos : List CertRecord)
    (rest more : List ℕ) → ReadsAs rules.heading_text rules.HasHeadingForm text h ones rest
    → ReadsAs rules.heading_text rules.HasHeadingForm text other twos more
    → (h ≡ other) × (lines_text ones ++ rest ≡ lines_text twos ++ more)
same_lines rules clear text h other ones twos rest more r s =
    let split : (k : rules.Heading) (steps : List CertRecord) (tail : List ℕ)
    → file_text (rules.heading_text k) steps ++ tail ≡ rules.heading_text k ++ line_feed ∷ (lines_text steps ++ tail)
    = λ k steps tail. append_assoc (rules.heading_text k) (line_feed ∷ lines_text steps) tail in
    let lines = one_line (rules.heading_text h) (rules.heading_text other) (lines_text ones ++ rest)
    (lines_text twos ++ more) (clear.heading_line h r.header) (clear.heading_line other s.header)
    (sym (split h ones rest) ∙ sym r.text_is ∙ s.text_is ∙ split other twos more) in (
      clear.one_heading (rules.heading_text h) h other r.header
          (subst (λ line. rules.HasHeadingForm line other) (sym lines.0) s.header),
      lines.1,
    )

-- ---- the laws

-- a line of faultless lines has no fault
pub not_faulty : (rules : Rules) (limits : Limits) (text : List ℕ) (h other : rules.Heading)
    (few many : List CertRecord) (rest more : List ℕ) (cause : CertCause)
    → h ≡ other → AreRight rules limits text other many more → IsShorter few rest many more
    → ¬ HasFaultBehind (rules.HasFault h) limits few rest cause
not_faulty rules limits text h other few many rest more cause same faultless shorter fault =
    faultless.later few shorter.0 shorter.1 shorter.2 cause
    (subst (λ bytes. HasFaultBehind (rules.HasFault other) limits few bytes cause) shorter.3
    (subst (λ k. HasFaultBehind (rules.HasFault k) limits few rest cause) same fault))

same_fault : (fault other : CertFault) → fault.line ≡ other.line → fault.cause ≡ other.cause → fault ≡ other
same_fault fault other line cause = subst (λ n. fault ≡ record { line = n; cause = other.cause }) line
    (ap (λ c. record { line = fault.line; cause = c }) cause)

front_cases : (few many : List CertRecord) (rest more : List ℕ) → IsFront few rest many more
    → ((few ≡ many) × (rest ≡ more)) ⊎ IsShorter few rest many more
unfolding IsFront
front_cases few many rest more h = cases h.0 h.1 h.2
  where
    cases : (others : List CertRecord) → many ≡ few ++ others → rest ≡ lines_text others ++ more
        → ((few ≡ many) × (rest ≡ more)) ⊎ ((step : CertRecord) × (later : List CertRecord)
        × (many ≡ few ++ step ∷ later) × (rest ≡ lines_text (step ∷ later) ++ more))
    cases [] e f = inl (sym (e ∙ append-nil few), f)
    cases (step ∷ later) e f = inr (step, later, e, f)

-- two readings of one text have one header, and are the same or one is shorter
pub readings : (rules : Rules) → AreClear rules
    → (text : List ℕ) (h other : rules.Heading) (ones twos : List CertRecord)
    (rest more : List ℕ) → ReadsAs rules.heading_text rules.HasHeadingForm text h ones rest
    → ReadsAs rules.heading_text rules.HasHeadingForm text other twos more
    → (h ≡ other) × (((ones ≡ twos) × (rest ≡ more)) ⊎ (IsShorter ones rest twos more ⊎ IsShorter twos more ones rest))
unfolding AreRecords
readings rules clear text h other ones twos rest more r s =
    let same = same_lines rules clear text h other ones twos rest more r s in (
      same.0,
      ⊎_elim (λ front. ⊎_elim inl (λ shorter. inr (inl shorter)) (front_cases ones twos rest more front))
          (λ shorter. inr (inr shorter)) (one_is_front clear.records ones twos rest more r.records s.records same.1),
    )

not_first_and_later : (rules : Rules) (limits : Limits) (text : List ℕ) (fault : CertFault) (h : rules.Heading)
    (before : List CertRecord) (rest : List ℕ)
    → IsRefusedFirst rules limits text fault → ¬ AreRight rules limits text h before rest
not_first_and_later rules limits text fault h before rest first faultless =
    faultless.first fault.cause (has_first (HasHeadingFault rules limits text) in_order fault.cause first.cause)

one_later : (rules : Rules) → AreClear rules → (limits : Limits) (text : List ℕ) (fault gault : CertFault)
    (h other : rules.Heading) (ones twos : List CertRecord) (rest more : List ℕ)
    → IsRefusedLater rules limits text h ones rest fault → IsRefusedLater rules limits text other twos more gault
    → fault ≡ gault
one_later rules clear limits text fault gault h other ones twos rest more x y =
    let read = readings rules clear text h other ones twos rest more x.faultless.reads y.faultless.reads in
    ⊎_elim
    (λ same.
    let there : IsFirstOf in_order (HasFaultBehind (rules.HasFault other) limits twos more) fault.cause
    = subst (λ bytes. IsFirstOf in_order (HasFaultBehind (rules.HasFault other) limits twos bytes) fault.cause) same.1
    (subst (λ steps. IsFirstOf in_order (HasFaultBehind (rules.HasFault other) limits steps rest) fault.cause) same.0
    (subst (λ k. IsFirstOf in_order (HasFaultBehind (rules.HasFault k) limits ones rest) fault.cause) read.0 x.cause))
    in
    same_fault fault gault (x.line ∙ ap (λ steps. length steps + 2) same.0 ∙ sym y.line)
    (one_first (HasFaultBehind (rules.HasFault other) limits twos more) in_order fault.cause gault.cause there y.cause))
    (λ apart. ⊎_elim
    (λ shorter. absurd (not_faulty rules limits text h other ones twos rest more fault.cause read.0 y.faultless
    shorter (has_first (HasFaultBehind (rules.HasFault h) limits ones rest) in_order fault.cause x.cause)))
    (λ shorter. absurd (not_faulty rules limits text other h twos ones more rest gault.cause (sym read.0) x.faultless
    shorter (has_first (HasFaultBehind (rules.HasFault other) limits twos more) in_order gault.cause y.cause)))
    apart)
    read.1

-- nothing stands behind the end of a text
pub nothing_more : (few many : List CertRecord) (more : List ℕ) → ¬ IsShorter few [] many more
nothing_more few many more h = false≢true (ap is_some_number h.3)

-- A text has one refusal at most.
pub one_refusal : (rules : Rules) → AreClear rules → (limits : Limits) (text : List ℕ) (fault other : CertFault)
    → IsRefusedWith rules limits text fault → IsRefusedWith rules limits text other → fault ≡ other
one_refusal rules clear limits text fault gault r s = ⊎_elim
    (λ x. ⊎_elim
    (λ y. same_fault fault gault (x.line ∙ sym y.line)
    (one_first (HasHeadingFault rules limits text) in_order fault.cause gault.cause x.cause y.cause))
    (λ y. absurd (not_first_and_later rules limits text fault y.0 y.1 y.2 x y.3.faultless))
    s)
    (λ x. ⊎_elim
    (λ y. absurd (not_first_and_later rules limits text gault x.0 x.1 x.2 y x.3.faultless))
    (λ y. one_later rules clear limits text fault gault x.0 y.0 x.1 y.1 x.2 y.2 x.3 y.3)
    s)
    r

-- A text without a fault has no refusal.
pub never_both : (rules : Rules) → AreClear rules → (limits : Limits) (text : List ℕ) (h : rules.Heading)
    (steps : List CertRecord) (fault : CertFault)
    → IsWhole rules limits text h steps → ¬ IsRefusedWith rules limits text fault
never_both rules clear limits text h steps fault whole refusal = ⊎_elim
    (λ x. not_first_and_later rules limits text fault h steps [] x whole.faultless)
    (λ x.
    let read = readings rules clear text x.0 h x.1 steps x.2 [] x.3.faultless.reads whole.faultless.reads in
    let faulty : HasFaultBehind (rules.HasFault x.0) limits x.1 x.2 fault.cause =
    has_first (HasFaultBehind (rules.HasFault x.0) limits x.1 x.2) in_order fault.cause x.3.cause in
    ⊎_elim
    (λ same. whole.ends fault.cause
    (subst (λ bytes. HasFaultBehind (rules.HasFault h) limits steps bytes fault.cause) same.1
    (subst (λ lines. HasFaultBehind (rules.HasFault h) limits lines x.2 fault.cause) same.0
    (subst (λ k. HasFaultBehind (rules.HasFault k) limits x.1 x.2 fault.cause) read.0 faulty))))
    (λ apart. ⊎_elim
    (λ shorter. not_faulty rules limits text x.0 h x.1 steps x.2 [] fault.cause read.0 whole.faultless shorter faulty)
    (λ shorter. nothing_more steps x.1 x.2 shorter)
    apart)
    read.1)
    refusal

-- A text is whole with one heading and one list of records at most.
pub one_acceptance : (rules : Rules) → AreClear rules → (limits : Limits) (text : List ℕ) (h other : rules.Heading)
    (ones twos : List CertRecord) → IsWhole rules limits text h ones → IsWhole rules limits text other twos
    → (h ≡ other) × (ones ≡ twos)
one_acceptance rules clear limits text h other ones twos x y =
    let read = readings rules clear text h other ones twos [] [] x.faultless.reads y.faultless.reads in (
      read.0,
      ⊎_elim (λ same. same.0)
          (λ apart. ⊎_elim (λ shorter. absurd (nothing_more ones twos [] shorter))
          (λ shorter. absurd (nothing_more twos ones [] shorter)) apart)
          read.1,
    )
