-- What a reader answers, from where the reading of a line ended.
use Rattle.std.proofs.Common.{◌≡◌, ◌≢◌, ℕ, ◌+◌, ◌-◌, ◌^◌, ◌<◌, Bool, true, false, List, [], ◌∷◌, ◌++◌, length, drop, Option, Some, None, Result, Ok, Err}
use Rattle.std.proofs.Common.{⊎_elim, inl, inr, refl, ap, sym, subst, ◌∙◌, arith, append_assoc}
use Rattle.std.specs.Prelude.{◌⊎◌}
use Rattle.std.proofs.lemmas.Bool.{false≢true}
use Rattle.dist_base.specs.Ascii.{line_feed}
use Rattle.dist_outside.specs.DeskView.{DeskView}
use Rattle.dist_outside.specs.declared.limits.Limits.{Limits}
use Rattle.dist_outside.specs.declared.trouble.What.TheVariants.{Certificate}
use Rattle.dist_outside.specs.declared.trouble.WorkError.{WorkError}
use Rattle.dist_outside.specs.declared.trouble.WorkError.TheVariants.{TooLarge}
use Rattle.dist_cert.specs.declared.faults.CertCause.TheVariants as causes
use Rattle.dist_cert.specs.declared.faults.ReadCertError.{ReadCertError}
use Rattle.dist_cert.specs.declared.faults.ReadCertError.TheVariants.{Bad, Work}
use Rattle.dist_cert.specs.declared.lines.Reached.{Reached}
use Rattle.dist_cert.specs.declared.lines.Reached.TheVariants.{Feed, File, Within}
use Rattle.dist_cert.specs.declared.records.CertRecord.{CertRecord}
use Rattle.dist_cert.specs.declared.records.Header.{Header}
use Rattle.dist_cert.specs.FileLines.{IsOneLine, BeginsWith, IsTooLong}
use Rattle.dist_cert.specs.Reading.{ReaderView, in_front, text_left, WhereTold, PassesWhole, KeepsLimits, HeaderAnswers, RecordAnswers}
use Rattle.dist_cert.specs.Reading.{HeaderOfSome, RecordOfSome}
use Rattle.dist_cert.specs.FirstLine.{IsLineNext, FirstAnswers, FirstOfSome}
use Rattle.dist_cert.specs.Held.{Held}
use Rattle.dist_cert.specs.LineReadingPrivate.{unread, held_text, text_held, Ends, EndsAt, EndsAtSome, HasFeed, HasEnd, AtFileEnd}
use Rattle.dist_cert.specs.LooseHeaderPrivate.{IsReadAs, IsReadAsHeader}
use Rattle.dist_cert.proofs.Filling.{told_weaker}
use Rattle.dist_cert.proofs.LineEnds.{begins}

pub feed : (limits : Limits) (given : ℕ) (new : Held) (reached : Reached) → reached ≡ Feed → HasEnd limits given new reached → HasFeed limits given new
feed limits given new reached is end = subst (HasEnd limits given new) is end

-- there is room to count a line that keeps the limit of the whole
pub counted : (limits : Limits) (given : ℕ) (new : Held) (reached : Reached) → reached ≡ Feed → HasEnd limits given new reached → (line : List ℕ)
    → line ≡ new.line
    → given + length line < 2 ^ 64 - 1
counted limits given new reached is end line same =
    let next : HasFeed limits given new = feed limits given new reached is end in
    subst (λ l. given + length l < 2 ^ 64 - 1) (sym same) (omega (arith, next.within, next.fits))

-- what a line is read as is what this line is
pub header_as : (line other : List ℕ) (found one : Option Header) → line ≡ other → found ≡ one → IsReadAsHeader line found → IsReadAsHeader other one
header_as line other found one same is read = subst (λ l. IsReadAsHeader l one) same (subst (IsReadAsHeader line) is read)

pub record_as : (line other : List ℕ) (found one : Option CertRecord) → line ≡ other → found ≡ one → IsReadAs line found → IsReadAs other one
record_as line other found one same is read = subst (λ l. IsReadAs l one) same (subst (IsReadAs line) is read)

-- a reader that holds these bytes
abbrev pub view_of : Limits → ℕ → ℕ → Bool → Held → ReaderView
view_of limits given lines ended held = record { limits = limits; held = held_text held; given = given; lines = lines; ended = ended }

-- what is held and told begins with the line
module _ (limits : Limits) (given : ℕ) (new : Held) (is : HasFeed limits given new) where
  begun : (rest more : List ℕ) → rest ≡ held_text new ++ more → BeginsWith rest new.line (is.more ++ more)
  begun rest more e = record { ended = e ∙ append_assoc new.line new.behind more ∙ ap (λ b. new.line ++ (b ++ more)) is.next; one_line = is.one_line }

  -- of a line that was not given
  pub kept : (before left : Option (List ℕ)) (At : List ℕ → Type 0) → WhereTold before (in_front (held_text new) left) (Ends (KeepsLimits limits given))
      → ((rest more : List ℕ) → KeepsLimits limits given rest → BeginsWith rest new.line more → At rest)
      → WhereTold before (in_front (held_text new) left) (λ rest more. At rest × (more ≡ rest))
  kept None left At h f = h
  kept (Some rest) left At h f =
      let b = begins (held_text new) left h.0 h.1 in
      (h.0, h.1, (f rest (is.more ++ b.0) h.2.1 (begun rest b.0 (sym h.2.0 ∙ b.1)), h.2.0))

  -- and of one that was
  pub passed : (before left : Option (List ℕ)) (R : List ℕ → List ℕ → Type 0)
      → WhereTold before (in_front (held_text new) left) (Ends (KeepsLimits limits given))
      → ((rest more : List ℕ) → KeepsLimits limits given rest → BeginsWith rest new.line more → R rest more)
      → WhereTold before (in_front ([] ++ drop 1 new.behind) left) R
  passed None None R h f = refl
  passed None (Some bytes) R h f = absurd (let bad = h in cc)
  passed (Some rest) None R h f = absurd (let bad = h.1 in cc)
  passed (Some rest) (Some bytes) R h f =
      let both = h.1 in
      let all : held_text new ++ bytes ≡ h.0 = cc in
      let behind : drop 1 new.behind ≡ is.more = ap (drop 1) is.next in (
        drop 1 new.behind ++ bytes,
        refl,
        f rest (drop 1 new.behind ++ bytes) h.2.1
            (subst (λ b. BeginsWith rest new.line (b ++ bytes)) (sym behind) (begun rest bytes (sym h.2.0 ∙ sym all))),
      )

-- ---- the first line

module _ (limits : Limits) (given lines : ℕ) (ended : Bool) (old new : Held) (r : ReaderView) (is : view_of limits given lines ended old ≡ r)
    (left after : DeskView) (reached : Reached)
    (read : WhereTold (text_held old left) (text_held new after) (Ends (λ rest. EndsAt limits given new rest (Ok reached))))
    (end : HasEnd limits given new reached) where
  -- the text that the reader left, where the view of the reader is opened
  opened : (R : ReaderView → List ℕ → List ℕ → Type 0) (told : Option (List ℕ)) → WhereTold (text_held old left) told (R (view_of limits given lines ended old))
      → WhereTold (text_left r left) told (R r)
  opened R told h = subst (λ v. WhereTold (text_left v left) told (R v)) is h

  reached_as : (other : Reached) → reached ≡ other → WhereTold (text_held old left) (text_held new after)
      (Ends (λ rest. EndsAt limits given new rest (Ok other)))
  reached_as other e = subst (λ to. WhereTold (text_held old left) (text_held new after) (Ends (λ rest. EndsAt limits given new rest (Ok to)))) e read

  pub header_cut : reached ≡ File → (line : ℕ) (error : ReadCertError) → error ≡ Bad (record { line = line; cause = causes.Truncated })
      → WhereTold (text_left r left) (text_held new after) (λ rest more. HeaderAnswers r rest more (Err error))
  header_cut at line error e = subst (λ x. WhereTold (text_left r left) (text_held new after) (λ rest more. HeaderAnswers r rest more (Err x))) (sym e)
      (opened (λ v rest more. HeaderAnswers v rest more (Err (Bad (record { line = line; cause = causes.Truncated })))) (text_held new after)
      (told_weaker (text_held old left) (text_held new after) _ _
      (λ rest more h. ((h.1.0, subst IsOneLine (sym h.1.1) (subst (HasEnd limits given new) at end)), h.0)) (reached_as File at)))

  pub header_bad : reached ≡ Feed → IsReadAsHeader new.line None → (line : ℕ) (error : ReadCertError)
      → error ≡ Bad (record { line = line; cause = causes.BadHeader })
      → WhereTold (text_left r left) (text_held new after) (λ rest more. HeaderAnswers r rest more (Err error))
  header_bad at none line error e = subst (λ x. WhereTold (text_left r left) (text_held new after) (λ rest more. HeaderAnswers r rest more (Err x))) (sym e)
      (opened (λ v rest more. HeaderAnswers v rest more (Err (Bad (record { line = line; cause = causes.BadHeader })))) (text_held new after)
      (kept limits given new (feed limits given new reached at end) (text_held old left) (unread after) _ (reached_as Feed at)
      (λ rest more keeps line_is. (keeps, (new.line, more, line_is, none)))))

  pub header_ok : reached ≡ Feed → (h : Header) → IsReadAsHeader new.line (Some h) → (next : Held) → next ≡ record { line = []; behind = drop 1 new.behind }
      → WhereTold (text_left r left) (text_held next after) (λ rest more. HeaderAnswers r rest more (Ok h))
  header_ok at h form next on = subst (λ n. WhereTold (text_left r left) (text_held n after) (λ rest more. HeaderAnswers r rest more (Ok h))) (sym on)
      (opened (λ v rest more. HeaderAnswers v rest more (Ok h)) (in_front ([] ++ drop 1 new.behind) (unread after))
      (passed limits given new (feed limits given new reached at end) (text_held old left) (unread after) _ (reached_as Feed at)
      (λ rest more keeps line_is. record { limits = keeps; line = new.line; begins = line_is; form = form })))

  -- ---- the first line, whatever its form

  pub first_cut : reached ≡ File → (line : ℕ) (error : ReadCertError) → error ≡ Bad (record { line = line; cause = causes.Truncated })
      → WhereTold (text_left r left) (text_held new after) (λ rest more. FirstAnswers r rest more (Err error))
  first_cut at line error e =
      subst (λ x. WhereTold (text_left r left) (text_held new after) (λ rest more. FirstAnswers r rest more (Err x))) (sym e)
      (opened (λ v rest more. FirstAnswers v rest more (Err (Bad (record { line = line; cause = causes.Truncated })))) (text_held new after)
      (told_weaker (text_held old left) (text_held new after) _ _
      (λ rest more h. ((h.1.0, subst IsOneLine (sym h.1.1) (subst (HasEnd limits given new) at end)), h.0)) (reached_as File at)))

  pub first_ok : reached ≡ Feed → (line : List ℕ) → line ≡ new.line → (next : Held) → next ≡ record { line = []; behind = drop 1 new.behind }
      → WhereTold (text_left r left) (text_held next after) (λ rest more. FirstAnswers r rest more (Ok line))
  first_ok at line same next on =
      subst (λ n. WhereTold (text_left r left) (text_held n after) (λ rest more. FirstAnswers r rest more (Ok line))) (sym on)
      (opened (λ v rest more. FirstAnswers v rest more (Ok line)) (in_front ([] ++ drop 1 new.behind) (unread after))
      (passed limits given new (feed limits given new reached at end) (text_held old left) (unread after) _ (reached_as Feed at)
      (λ rest more keeps line_is. record { limits = keeps; begins = subst (λ l. BeginsWith rest l more) (sym same) line_is })))

  -- ---- a later line

  record_end : reached ≡ File → ended ≡ true → new.line ≡ []
      → WhereTold (text_left r left) (text_held new after) (λ rest more. RecordAnswers r rest more (Ok None))
  record_end at over nothing = opened (λ v rest more. RecordAnswers v rest more (Ok None)) (text_held new after)
      (told_weaker (text_held old left) (text_held new after) _ _
      (λ rest more h. (record { limits = h.1.0; ended = over; nothing = h.1.1 ∙ nothing }, h.0)) (reached_as File at))

  record_cut : reached ≡ File → (new.line ≢ []) ⊎ (ended ≡ false) → (line : ℕ) (error : ReadCertError)
      → error ≡ Bad (record { line = line; cause = causes.Truncated })
      → WhereTold (text_left r left) (text_held new after) (λ rest more. RecordAnswers r rest more (Err error))
  record_cut at cut line error e = subst (λ x. WhereTold (text_left r left) (text_held new after) (λ rest more. RecordAnswers r rest more (Err x))) (sym e)
      (opened (λ v rest more. RecordAnswers v rest more (Err (Bad (record { line = line; cause = causes.Truncated })))) (text_held new after)
      (told_weaker (text_held old left) (text_held new after) _ _
      (λ rest more h. (
        (
          h.1.0,
          (
            subst IsOneLine (sym h.1.1) (subst (HasEnd limits given new) at end),
            ⊎_elim (λ some. inl (λ none. some (sym h.1.1 ∙ none))) (λ not_over. inr (λ over. false≢true (sym not_over ∙ over))) cut,
          ),
        ),
        h.0,
      )) (reached_as File at)))

  pub record_file : reached ≡ File → (line : List ℕ) → line ≡ new.line → (result : Result (Option CertRecord) ReadCertError) → AtFileEnd ended lines line result
      → WhereTold (text_left r left) (text_held new after) (λ rest more. RecordAnswers r rest more result)
  record_file at line same (Ok None) h = record_end at h.0 (sym same ∙ h.1)
  record_file at line same (Ok (Some step)) h = absurd h
  record_file at line same (Err error) h = record_cut at (⊎_elim (λ some. inl (λ none. some (same ∙ none))) (λ not_over. inr not_over) h.1) (lines + 1) error
      h.0

  -- what is behind the end, or no form of a record
  pub record_bad : reached ≡ Feed → (ended ≡ true) ⊎ IsReadAs new.line None → (line : ℕ) (error : ReadCertError)
      → error ≡ Bad (record { line = line; cause = causes.BadRecord })
      → WhereTold (text_left r left) (text_held new after) (λ rest more. RecordAnswers r rest more (Err error))
  record_bad at none line error e = subst (λ x. WhereTold (text_left r left) (text_held new after) (λ rest more. RecordAnswers r rest more (Err x))) (sym e)
      (opened (λ v rest more. RecordAnswers v rest more (Err (Bad (record { line = line; cause = causes.BadRecord })))) (text_held new after)
      (kept limits given new (feed limits given new reached at end) (text_held old left) (unread after) _ (reached_as Feed at)
      (λ rest more keeps line_is. (keeps, (new.line, more, line_is, none)))))

  pub record_ok : reached ≡ Feed → ended ≡ false → (step : CertRecord) → IsReadAs new.line (Some step) → (next : Held)
      → next ≡ record { line = []; behind = drop 1 new.behind }
      → WhereTold (text_left r left) (text_held next after) (λ rest more. RecordAnswers r rest more (Ok (Some step)))
  record_ok at not_over step form next on = subst (λ n. WhereTold (text_left r left) (text_held n after)
      (λ rest more. RecordAnswers r rest more (Ok (Some step)))) (sym on)
      (opened (λ v rest more. RecordAnswers v rest more (Ok (Some step))) (in_front ([] ++ drop 1 new.behind) (unread after))
      (passed limits given new (feed limits given new reached at end) (text_held old left) (unread after) _ (reached_as Feed at)
      (λ rest more keeps line_is. record { limits = keeps; not_ended = not_over; line = new.line; begins = line_is; form = form })))

  -- ---- some bytes that have the answer

  module _ (some : EndsAtSome limits given new (Ok reached)) where
    feed_some : reached ≡ Feed → (more : List ℕ) → KeepsLimits limits given (new.line ++ line_feed ∷ more)
    feed_some at = subst (λ to. EndsAtSome limits given new (Ok to)) at some

    file_some : reached ≡ File → KeepsLimits limits given new.line
    file_some at = subst (λ to. EndsAtSome limits given new (Ok to)) at some

    within_some : reached ≡ Within → (rest : List ℕ) × (¬ PassesWhole limits given rest) × IsTooLong limits rest
    within_some at = subst (λ to. EndsAtSome limits given new (Ok to)) at some

    line_begins : reached ≡ Feed → (more : List ℕ) → BeginsWith (new.line ++ line_feed ∷ more) new.line more
    line_begins at more = record { ended = refl; one_line = (feed limits given new reached at end).one_line }

    pub header_long_some : reached ≡ Within → (line : ℕ) (error : ReadCertError) → error ≡ Bad (record { line = line; cause = causes.LineTooLong })
        → HeaderOfSome r (Err error)
    header_long_some at line error e =
        let found = within_some at in
        subst (λ x. HeaderOfSome r (Err x)) (sym e) (subst (λ v. HeaderOfSome v (Err (Bad (record { line = line; cause = causes.LineTooLong })))) is
        (found.0, ((found.1, found.2), refl)))

    pub header_cut_some : reached ≡ File → (line : ℕ) (error : ReadCertError) → error ≡ Bad (record { line = line; cause = causes.Truncated })
        → HeaderOfSome r (Err error)
    header_cut_some at line error e =
        subst (λ x. HeaderOfSome r (Err x)) (sym e) (subst (λ v. HeaderOfSome v (Err (Bad (record { line = line; cause = causes.Truncated })))) is
        (new.line, ((file_some at, subst (HasEnd limits given new) at end), refl)))

    pub header_bad_some : reached ≡ Feed → IsReadAsHeader new.line None → (line : ℕ) (error : ReadCertError)
        → error ≡ Bad (record { line = line; cause = causes.BadHeader }) → HeaderOfSome r (Err error)
    header_bad_some at none line error e =
        subst (λ x. HeaderOfSome r (Err x)) (sym e) (subst (λ v. HeaderOfSome v (Err (Bad (record { line = line; cause = causes.BadHeader })))) is
        (new.line ++ line_feed ∷ [], ((feed_some at [], (new.line, [], line_begins at [], none)), refl)))

    pub header_ok_some : reached ≡ Feed → (h : Header) → IsReadAsHeader new.line (Some h) → HeaderOfSome r (Ok h)
    header_ok_some at h form = λ more.
        subst (λ line. HeaderAnswers r (line ++ line_feed ∷ more) more (Ok h)) form.text
        (subst (λ v. HeaderAnswers v (new.line ++ line_feed ∷ more) more (Ok h)) is
        (record { limits = feed_some at more; line = new.line; begins = line_begins at more; form = form }))

    pub first_ok_some : reached ≡ Feed → (line : List ℕ) → line ≡ new.line → FirstOfSome r (Ok line)
    first_ok_some at line same = λ more.
        subst (λ l. IsLineNext r (l ++ line_feed ∷ more) more l) (sym same)
        (subst (λ v. IsLineNext v (new.line ++ line_feed ∷ more) more new.line) is
        (record { limits = feed_some at more; begins = line_begins at more }))

    pub record_long_some : reached ≡ Within → (line : ℕ) (error : ReadCertError) → error ≡ Bad (record { line = line; cause = causes.LineTooLong })
        → RecordOfSome r (Err error)
    record_long_some at line error e =
        let found = within_some at in
        subst (λ x. RecordOfSome r (Err x)) (sym e) (subst (λ v. RecordOfSome v (Err (Bad (record { line = line; cause = causes.LineTooLong })))) is
        (found.0, ((found.1, found.2), refl)))

    pub record_bad_some : reached ≡ Feed → (ended ≡ true) ⊎ IsReadAs new.line None → (line : ℕ) (error : ReadCertError)
        → error ≡ Bad (record { line = line; cause = causes.BadRecord }) → RecordOfSome r (Err error)
    record_bad_some at none line error e =
        subst (λ x. RecordOfSome r (Err x)) (sym e) (subst (λ v. RecordOfSome v (Err (Bad (record { line = line; cause = causes.BadRecord })))) is
        (new.line ++ line_feed ∷ [], ((feed_some at [], (new.line, [], line_begins at [], none)), refl)))

    pub record_ok_some : reached ≡ Feed → ended ≡ false → (step : CertRecord) → IsReadAs new.line (Some step) → RecordOfSome r (Ok (Some step))
    record_ok_some at not_over step form = λ more.
        subst (λ line. RecordAnswers r (line ++ line_feed ∷ more) more (Ok (Some step))) form.text
        (subst (λ v. RecordAnswers v (new.line ++ line_feed ∷ more) more (Ok (Some step))) is
        (record { limits = feed_some at more; not_ended = not_over; line = new.line; begins = line_begins at more; form = form }))

    cut_some : reached ≡ File → (new.line ≢ []) ⊎ (ended ≡ false) → (error : ReadCertError)
        → error ≡ Bad (record { line = lines + 1; cause = causes.Truncated }) → RecordOfSome r (Err error)
    cut_some at cut error e =
        subst (λ x. RecordOfSome r (Err x)) (sym e) (subst (λ v. RecordOfSome v (Err (Bad (record { line = lines + 1; cause = causes.Truncated })))) is (
          new.line,
          (
            (
              file_some at,
              (
                subst (HasEnd limits given new) at end,
                ⊎_elim (λ some_line. inl some_line) (λ not_over. inr (λ over. false≢true (sym not_over ∙ over))) cut,
              ),
            ),
            refl,
          ),
        ))

    pub record_file_some : reached ≡ File → (line : List ℕ) → line ≡ new.line → (result : Result (Option CertRecord) ReadCertError)
        → AtFileEnd ended lines line result → RecordOfSome r result
    record_file_some at line same (Ok None) h =
        let nothing : new.line ≡ [] = sym same ∙ h.1 in
        subst (λ v. RecordOfSome v (Ok None)) is
        (record { limits = subst (KeepsLimits limits given) nothing (file_some at); ended = h.0; nothing = refl }, refl)
    record_file_some at line same (Ok (Some step)) h = absurd h
    record_file_some at line same (Err error) h =
        cut_some at (⊎_elim (λ some_line. inl (λ none. some_line (same ∙ none))) (λ not_over. inr not_over) h.1) error h.0

-- where the work was given up: of too many bytes there are some that pass the limit
module _ (limits : Limits) (given lines : ℕ) (ended : Bool) (old new : Held) (r : ReaderView) (is : view_of limits given lines ended old ≡ r) where
  pub header_work_some : (work : WorkError) → EndsAtSome limits given new (Err work) → HeaderOfSome r (Err (Work work))
  header_work_some (TooLarge Certificate) some = subst (λ v. HeaderOfSome v (Err (Work (TooLarge Certificate)))) is (some.0, (some.1, refl))
  header_work_some (TooLarge what) some = ([], refl)
  header_work_some work some = ([], refl)

  pub record_work_some : (work : WorkError) → EndsAtSome limits given new (Err work) → RecordOfSome r (Err (Work work))
  record_work_some (TooLarge Certificate) some = subst (λ v. RecordOfSome v (Err (Work (TooLarge Certificate)))) is (some.0, (some.1, refl))
  record_work_some (TooLarge what) some = ([], refl)
  record_work_some work some = ([], refl)
