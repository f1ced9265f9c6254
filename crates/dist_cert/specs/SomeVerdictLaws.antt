-- A law of acceptance and refusal: no text is neither accepted nor refused.
use Rattle.std.proofs.Common.{◌≡◌, ◌≢◌, ◌⊎◌, ⊎_elim, inl, inr, ℕ, zero, suc, ◌+◌, ◌<◌, List, [], ◌∷◌, ◌++◌, length}
use Rattle.std.proofs.Common.{refl, ap, sym, subst, ◌∙◌, append_assoc, arith, length-append}
use Rattle.std.proofs.lemmas.Bool.{cases_eq}
use Rattle.std.proofs.lemmas.Grind.{flat_map-append}
use Rattle.std.proofs.lemmas.List.Elements.{All-nil, All-cons, All-push}
use Rattle.dist_base.specs.Ascii.{line_feed}
use Rattle.dist_outside.specs.declared.limits.Limits.{Limits}
use Rattle.dist_cert.specs.declared.faults.CertCause.{CertCause}
use Rattle.dist_cert.specs.declared.faults.CertCause.TheVariants as causes
use Rattle.dist_cert.specs.declared.faults.CertFault.{CertFault}
use Rattle.dist_cert.specs.declared.records.CertRecord.{CertRecord}
use Rattle.dist_cert.specs.ClearFormsLaws.{AreClear}
use Rattle.dist_cert.specs.Form.{record_text, HasForm}
use Rattle.dist_cert.specs.FileLines.{Rules, IsOneLine, BeginsWith, lines_text, in_order, IsFirstOf, HasHeadingFault}
use Rattle.dist_cert.specs.FileLines.{HasFaultBehind, AreRight, IsRefusedWith, IsWhole}

-- ---- causes

NoneOf : List CertCause → (CertCause → Type 0) → Type 0
NoneOf [] Has = Unit {0}
NoneOf (next ∷ later) Has = (¬ Has next) × NoneOf later Has

-- it cannot be that something neither holds nor fails
either_way : (P : Type 0) → ¬ ¬ (P ⊎ (¬ P))
either_way P never = never (inr (λ p. never (inl p)))

first_or_none : (Has : CertCause → Type 0) (list : List CertCause)
    → ¬ ¬ (((cause : CertCause) × IsFirstOf list Has cause) ⊎ NoneOf list Has)
unfolding NoneOf
first_or_none Has [] never = never (inr tt)
first_or_none Has (next ∷ later) never = either_way (Has next) (λ told. ⊎_elim
    (λ yes. never (inl (next, inl (yes, refl))))
    (λ none. first_or_none Has later (λ rest. ⊎_elim (λ found. never (inl (found.0, inr (none, found.1))))
    (λ all. never (inr (none, all))) rest))
    told)

-- the list has all causes
not_any : (Has : CertCause → Type 0) → NoneOf in_order Has → (cause : CertCause) → ¬ Has cause
unfolding NoneOf
not_any Has n causes.LineTooLong = n.0
not_any Has n causes.Truncated = n.1.0
not_any Has n causes.BadHeader = n.1.1.0
not_any Has n causes.BadRecord = n.1.1.1.0
not_any Has n causes.OutOfRange = n.1.1.1.1.0
not_any Has n causes.OutOfOrder = n.1.1.1.1.1.0
not_any Has n causes.UnknownLine = n.1.1.1.1.1.1.0
not_any Has n causes.BadLine = n.1.1.1.1.1.1.1.0
not_any Has n causes.NotAFuture = n.1.1.1.1.1.1.1.1.0
not_any Has n causes.NotAnInstallation = n.1.1.1.1.1.1.1.1.1.0
not_any Has n causes.LimitNotReached = n.1.1.1.1.1.1.1.1.1.1.0
not_any Has n causes.NotNew = n.1.1.1.1.1.1.1.1.1.1.1.0
not_any Has n causes.WrongClaim = n.1.1.1.1.1.1.1.1.1.1.1.1.0
not_any Has n causes.Incomplete = n.1.1.1.1.1.1.1.1.1.1.1.1.1.0

-- ---- lines

pub split_line : (text : List ℕ) → ((line : List ℕ) × (more : List ℕ) × BeginsWith text line more) ⊎ IsOneLine text
split_line [] = inr (All-nil (λ byte. byte ≢ line_feed))
split_line (x ∷ text) = ⊎_elim
    (λ feed. inl ([], text, record { ended = ap (λ y. y ∷ text) feed; one_line = All-nil (λ byte. byte ≢ line_feed) }))
    (λ other. ⊎_elim
    (λ h. inl (
      x ∷ h.0,
      h.1,
      record {
        ended = ap (λ ys. x ∷ ys) h.2.ended;
        one_line = All-cons (λ byte. byte ≢ line_feed) x h.0 other h.2.one_line;
      },
    ))
    (λ one. inr (All-cons (λ byte. byte ≢ line_feed) x text other one))
    (split_line text))
    (cases_eq x line_feed)

tail_of : {X : Type 0} → List X → List X
tail_of [] = []
tail_of (x ∷ xs) = xs

head_or : {X : Type 0} → X → List X → X
head_or d [] = d
head_or d (x ∷ xs) = x

-- an element of a list with one more behind: the last one, or one of those before
pub split_push : (before earlier others : List CertRecord) (step last : CertRecord)
    → before ++ last ∷ [] ≡ earlier ++ step ∷ others
    → ((earlier ≡ before) × (step ≡ last) × (others ≡ []))
    ⊎ ((more : List CertRecord) × (before ≡ earlier ++ step ∷ more) × (others ≡ more ++ last ∷ []))
unfolding tail_of head_or
split_push [] [] others step last e = inl (refl, sym (ap (head_or last) e), sym (ap tail_of e))
split_push [] (x ∷ earlier) others step last e = absurd (nothing earlier (ap tail_of e))
  where
    nothing : (xs : List CertRecord) → [] ≡ xs ++ step ∷ others → ⊥
    nothing xs f = let n = ap length f in omega (arith, n, length-append xs (step ∷ others))
split_push (b ∷ before) [] others step last e =
    inr (before, ap (λ s. s ∷ before) (ap (head_or b) e), sym (ap tail_of e))
split_push (b ∷ before) (x ∷ earlier) others step last e = ⊎_elim
    (λ h. inl (subst (λ y. x ∷ earlier ≡ y ∷ before) (sym (ap (head_or b) e)) (ap (λ ys. x ∷ ys) h.0), h.1, h.2))
    (λ h. inr (
      h.0,
      subst (λ y. b ∷ before ≡ y ∷ earlier ++ step ∷ h.0) (ap (head_or b) e) (ap (λ ys. b ∷ ys) h.1),
      h.2,
    ))
    (split_push before earlier others step last (ap tail_of e))

-- ---- one line more

-- the text of some lines and one more, with what stands behind
push_text : (steps : List CertRecord) (step : CertRecord) (rest line more : List ℕ) → BeginsWith rest line more
    → HasForm line step
    → lines_text (steps ++ step ∷ []) ++ more ≡ lines_text steps ++ rest
push_text steps step rest line more begins form =
    let one : CertRecord → List ℕ = λ s. record_text s ++ line_feed ∷ [] in
    let last : lines_text (step ∷ []) ++ more ≡ rest
    = append_assoc (record_text step ++ line_feed ∷ []) [] more ∙ append_assoc (record_text step) (line_feed ∷ []) more
    ∙ ap (λ l. l ++ line_feed ∷ more) (sym form.text) ∙ sym begins.ended in
    ap (λ bytes. bytes ++ more) (flat_map-append one steps (step ∷ []))
    ∙ append_assoc (lines_text steps) (lines_text (step ∷ [])) more ∙ ap (λ bytes. lines_text steps ++ bytes) last

pub grown : (rules : Rules) (limits : Limits) (text : List ℕ) (h : rules.Heading) (before : List CertRecord)
    (rest line more : List ℕ) (step : CertRecord)
    → AreRight rules limits text h before rest
    → ((cause : CertCause) → ¬ HasFaultBehind (rules.HasFault h) limits before rest cause)
    → BeginsWith rest line more → HasForm line step → AreRight rules limits text h (before ++ step ∷ []) more
grown rules limits text h before rest line more step faultless none begins form = record {
  reads = record {
    text_is = faultless.reads.text_is ∙ append_assoc (rules.heading_text h) (line_feed ∷ lines_text before) rest
        ∙ ap (λ bytes. rules.heading_text h ++ line_feed ∷ bytes)
        (sym (push_text before step rest line more begins form))
        ∙ sym (append_assoc (rules.heading_text h) (line_feed ∷ lines_text (before ++ step ∷ [])) more);
    header = faultless.reads.header;
    records = All-push (λ s. HasForm (record_text s) s) before step faultless.reads.records
        (subst (λ l. HasForm l step) form.text form);
  };
  first = faultless.first;
  later = later;
}
  where
    later : (earlier : List CertRecord) (s : CertRecord) (others : List CertRecord)
        → before ++ step ∷ [] ≡ earlier ++ s ∷ others
        → (cause : CertCause) → ¬ HasFaultBehind (rules.HasFault h) limits earlier
        (lines_text (s ∷ others) ++ more) cause
    later earlier s others e cause fault = ⊎_elim
        (λ x.
        let bytes : lines_text (s ∷ others) ++ more ≡ rest
        = ap (λ r. lines_text (r ∷ others) ++ more) x.1 ∙ ap (λ rs. lines_text (step ∷ rs) ++ more) x.2
        ∙ push_text [] step rest line more begins form in
        none cause (subst (λ bs. HasFaultBehind (rules.HasFault h) limits before bs cause) bytes
        (subst (λ steps. HasFaultBehind (rules.HasFault h) limits steps (lines_text (s ∷ others) ++ more) cause) x.0
        fault)))
        (λ x.
        let bytes : lines_text (s ∷ others) ++ more ≡ lines_text (s ∷ x.0) ++ rest
        = ap (λ rs. lines_text (s ∷ rs) ++ more) x.2 ∙ push_text (s ∷ x.0) step rest line more begins form in
        faultless.later earlier s x.0 x.1 cause
        (subst (λ bs. HasFaultBehind (rules.HasFault h) limits earlier bs cause) bytes
        fault))
        (split_push before earlier others s step e)

-- ---- the law

abbrev IsJudged : Rules → Limits → List ℕ → Type 0
IsJudged rules limits text = ((h : rules.Heading) × (steps : List CertRecord) × IsWhole rules limits text h steps)
    ⊎ ((fault : CertFault) × IsRefusedWith rules limits text fault)

some_byte : (x : ℕ) (xs : List ℕ) → x ∷ xs ≢ []
some_byte x xs e = let n = ap length e in omega (arith, n)

judge_rest : (rules : Rules) (limits : Limits) (text : List ℕ) (h : rules.Heading) (fuel : ℕ) (before : List CertRecord)
    (rest : List ℕ)
    → length rest < fuel → AreRight rules limits text h before rest → ¬ ¬ IsJudged rules limits text
judge_rest rules limits text h zero before rest enough faultless never = omega (arith, enough)
judge_rest rules limits text h (suc fuel) before rest enough faultless never =
    first_or_none (HasFaultBehind (rules.HasFault h) limits before rest) in_order (λ told. ⊎_elim
    (λ found. never (inr (
      record { line = length before + 2; cause = found.0 },
      inr (h, before, rest, record { faultless = faultless; line = refl; cause = found.1 }),
    )))
    (λ n.
    let none : (cause : CertCause) → ¬ HasFaultBehind (rules.HasFault h) limits before rest cause =
    not_any (HasFaultBehind (rules.HasFault h) limits before rest) n in
    read_on none (λ line more step begins form.
    let size : length rest ≡ length line + length (line_feed ∷ more) = ap length begins.ended
    ∙ length-append line (line_feed ∷ more) in
    judge_rest rules limits text h fuel (before ++ step ∷ []) more (omega (arith, enough, size))
    (grown rules limits text h before rest line more step faultless none begins form) never))
    told)
  where
    at_the_end : (left : List ℕ) → IsOneLine left → AreRight rules limits text h before left
        → ((cause : CertCause) → ¬ HasFaultBehind (rules.HasFault h) limits before left cause)
        → IsJudged rules limits text
    at_the_end [] one all none = inl (h, before, record { faultless = all; ends = none })
    at_the_end (x ∷ left) one all none = absurd (none causes.Truncated (one, inl (some_byte x left)))

    read_on : ((cause : CertCause) → ¬ HasFaultBehind (rules.HasFault h) limits before rest cause)
        → ((line more : List ℕ) (step : CertRecord) → BeginsWith rest line more → ¬ HasForm line step) → ⊥
    read_on none go = ⊎_elim
        (λ s. either_way ((step : CertRecord) × HasForm s.0 step) (λ form. ⊎_elim
        (λ f. go s.0 s.1 f.0 s.2 f.1)
        (λ f. none causes.BadRecord (s.0, s.1, s.2, inr (λ step has. f (step, has))))
        form))
        (λ one. never (at_the_end rest one faultless none))
        (split_line rest)

-- No text is neither accepted nor refused.
pub some_verdict : (rules : Rules) → AreClear rules → (limits : Limits) (text : List ℕ)
    → ¬ ¬ (((h : rules.Heading) × (steps : List CertRecord) × IsWhole rules limits text h steps)
    ⊎ ((fault : CertFault) × IsRefusedWith rules limits text fault))
some_verdict rules clear limits text never = first_or_none (HasHeadingFault rules limits text) in_order (λ told. ⊎_elim
    (λ found. never (inr (record { line = 1; cause = found.0 }, inl (record { line = refl; cause = found.1 }))))
    (λ n. read_on (not_any (HasHeadingFault rules limits text) n))
    told)
  where
    not_among : (earlier : List CertRecord) (step : CertRecord) (others : List CertRecord)
        → [] ≡ earlier ++ step ∷ others → ⊥
    not_among earlier step others e = let n = ap length e in omega (arith, n, length-append earlier (step ∷ others))

    read_on : ((cause : CertCause) → ¬ HasHeadingFault rules limits text cause) → ⊥
    read_on none = ⊎_elim
        (λ s. either_way ((h : rules.Heading) × rules.HasHeadingForm s.0 h) (λ form. ⊎_elim
        (λ f. judge_rest rules limits text f.0 (suc (length s.1)) [] s.1 (omega arith) (record {
          reads = record {
            text_is = s.2.ended ∙ ap (λ l. l ++ line_feed ∷ s.1) (clear.heading_is s.0 f.0 f.1)
                ∙ sym (append_assoc (rules.heading_text f.0) (line_feed ∷ []) s.1);
            header = subst (λ l. rules.HasHeadingForm l f.0) (clear.heading_is s.0 f.0 f.1) f.1;
            records = All-nil (λ step. HasForm (record_text step) step);
          };
          first = none;
          later = λ earlier step others e. absurd (not_among earlier step others e);
        }) never)
        (λ f. none causes.BadHeader (s.0, s.1, s.2, λ h form. absurd (f (h, form))))
        form))
        (λ one. none causes.Truncated one)
        (split_line text)
