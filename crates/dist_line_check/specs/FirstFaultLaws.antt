-- Which faults a record may have, and the first of them.
use Rattle.std.proofs.Common.{◌≡◌, inl, inr, ℕ, ◌<◌, Bool, true, false, List, [], refl, arith, lit<}
use Rattle.std.specs.List.{Any}
use Rattle.std.proofs.lemmas.Bool.{true≢false, false≢true, cases_Bool}
use Rattle.dist_cert.specs.declared.faults.CertCause.{CertCause}
use Rattle.dist_cert.specs.declared.faults.CertCause.TheVariants as causes
use Rattle.dist_cert.specs.declared.records.CertKind.{CertKind}
use Rattle.dist_cert.specs.declared.records.CertKind.TheVariants as kinds
use Rattle.dist_cert.specs.declared.records.CertRecord.{CertRecord}
use Rattle.dist_cert.specs.declared.records.CertRecord.TheVariants as lines
use Rattle.dist_cert.specs.declared.records.Header.{Header}
use Rattle.dist_cert.specs.Subject.{Matter}
use Rattle.dist_cert.specs.LineRules.{IsOutOfRange, IsOutOfOrder, IsUnknownLine, IsBadLine, IsNoFuture}
use Rattle.dist_cert.specs.LineRules.{IsNoInstallation, IsTooEarly, HasOldLine, IsWrongClaim}
use Rattle.dist_cert.specs.LineRules.{IsIncomplete, HasRecordFault}
use Rattle.dist_cert.specs.FileLines.{in_order, IsFirstOf}

-- the place of a cause in the order
abbrev pub rank : CertCause → ℕ
rank causes.LineTooLong = 0
rank causes.Truncated = 1
rank causes.BadHeader = 2
rank causes.BadRecord = 3
rank causes.OutOfRange = 4
rank causes.OutOfOrder = 5
rank causes.UnknownLine = 6
rank causes.BadLine = 7
rank causes.NotAFuture = 8
rank causes.NotAnInstallation = 9
rank causes.LimitNotReached = 10
rank causes.NotNew = 11
rank causes.WrongClaim = 12
rank causes.Incomplete = 13

-- a cause before which no other is
pub first_of : (Has : CertCause → Type 0) (cause : CertCause) → Has cause
    → ((earlier : CertCause) → rank earlier < rank cause → ¬ Has earlier)
    → IsFirstOf in_order Has cause
first_of Has causes.LineTooLong has none = inl (has, refl)
first_of Has causes.Truncated has none = inr (none causes.LineTooLong (lit< tt), inl (has, refl))
first_of Has causes.BadHeader has none = inr
    (none causes.LineTooLong (lit< tt), inr (none causes.Truncated (lit< tt), inl (has, refl)))
first_of Has causes.BadRecord has none = inr (
  none causes.LineTooLong (lit< tt),
  inr (none causes.Truncated (lit< tt), inr (none causes.BadHeader (lit< tt), inl (has, refl))),
)
first_of Has causes.OutOfRange has none = inr (
  none causes.LineTooLong (lit< tt),
  inr (
    none causes.Truncated (lit< tt),
    inr
        (none causes.BadHeader (lit< tt), inr (none causes.BadRecord (lit< tt), inl (has, refl))),
  ),
)
first_of Has causes.OutOfOrder has none = inr (
  none causes.LineTooLong (lit< tt),
  inr (
    none causes.Truncated (lit< tt),
    inr (
      none causes.BadHeader (lit< tt),
      inr (none causes.BadRecord (lit< tt), inr (none causes.OutOfRange (lit< tt), inl (has, refl))),
    ),
  ),
)
first_of Has causes.UnknownLine has none = inr (
  none causes.LineTooLong (lit< tt),
  inr (
    none causes.Truncated (lit< tt),
    inr (
      none causes.BadHeader (lit< tt),
      inr (
        none causes.BadRecord (lit< tt),
        inr
            (none causes.OutOfRange (lit< tt), inr (none causes.OutOfOrder (lit< tt), inl (has, refl))),
      ),
    ),
  ),
)
first_of Has causes.BadLine has none = inr (
  none causes.LineTooLong (lit< tt),
  inr (
    none causes.Truncated (lit< tt),
    inr (
      none causes.BadHeader (lit< tt),
      inr (
        none causes.BadRecord (lit< tt),
        inr (
          none causes.OutOfRange (lit< tt),
          inr (none causes.OutOfOrder (lit< tt), inr (none causes.UnknownLine (lit< tt), inl (has, refl))),
        ),
      ),
    ),
  ),
)
first_of Has causes.NotAFuture has none = inr (
  none causes.LineTooLong (lit< tt),
  inr (
    none causes.Truncated (lit< tt),
    inr (
      none causes.BadHeader (lit< tt),
      inr (
        none causes.BadRecord (lit< tt),
        inr (
          none causes.OutOfRange (lit< tt),
          inr (
            none causes.OutOfOrder (lit< tt),
            inr
                (none causes.UnknownLine (lit< tt), inr (none causes.BadLine (lit< tt), inl (has, refl))),
          ),
        ),
      ),
    ),
  ),
)
first_of Has causes.NotAnInstallation has none = inr (
  none causes.LineTooLong (lit< tt),
  inr (
    none causes.Truncated (lit< tt),
    inr (
      none causes.BadHeader (lit< tt),
      inr (
        none causes.BadRecord (lit< tt),
        inr (
          none causes.OutOfRange (lit< tt),
          inr (
            none causes.OutOfOrder (lit< tt),
            inr (
              none causes.UnknownLine (lit< tt),
              inr (none causes.BadLine (lit< tt), inr (none causes.NotAFuture (lit< tt), inl (has, refl))),
            ),
          ),
        ),
      ),
    ),
  ),
)
first_of Has causes.LimitNotReached has none = inr (
  none causes.LineTooLong (lit< tt),
  inr (
    none causes.Truncated (lit< tt),
    inr (
      none causes.BadHeader (lit< tt),
      inr (
        none causes.BadRecord (lit< tt),
        inr (
          none causes.OutOfRange (lit< tt),
          inr (
            none causes.OutOfOrder (lit< tt),
            inr (
              none causes.UnknownLine (lit< tt),
              inr (
                none causes.BadLine (lit< tt),
                inr
                    (none causes.NotAFuture (lit< tt), inr (none causes.NotAnInstallation (lit< tt), inl (has, refl))),
              ),
            ),
          ),
        ),
      ),
    ),
  ),
)
first_of Has causes.NotNew has none = inr (
  none causes.LineTooLong (lit< tt),
  inr (
    none causes.Truncated (lit< tt),
    inr (
      none causes.BadHeader (lit< tt),
      inr (
        none causes.BadRecord (lit< tt),
        inr (
          none causes.OutOfRange (lit< tt),
          inr (
            none causes.OutOfOrder (lit< tt),
            inr (
              none causes.UnknownLine (lit< tt),
              inr (
                none causes.BadLine (lit< tt),
                inr (
                  none causes.NotAFuture (lit< tt),
                  inr (
                    none causes.NotAnInstallation (lit< tt),
                    inr
                        (none causes.LimitNotReached (lit< tt), inl (has, refl)),
                  ),
                ),
              ),
            ),
          ),
        ),
      ),
    ),
  ),
)
first_of Has causes.WrongClaim has none = inr (
  none causes.LineTooLong (lit< tt),
  inr (
    none causes.Truncated (lit< tt),
    inr (
      none causes.BadHeader (lit< tt),
      inr (
        none causes.BadRecord (lit< tt),
        inr (
          none causes.OutOfRange (lit< tt),
          inr (
            none causes.OutOfOrder (lit< tt),
            inr (
              none causes.UnknownLine (lit< tt),
              inr (
                none causes.BadLine (lit< tt),
                inr (
                  none causes.NotAFuture (lit< tt),
                  inr (
                    none causes.NotAnInstallation (lit< tt),
                    inr (none causes.LimitNotReached (lit< tt), inr (none causes.NotNew (lit< tt), inl (has, refl))),
                  ),
                ),
              ),
            ),
          ),
        ),
      ),
    ),
  ),
)
first_of Has causes.Incomplete has none = inr (
  none causes.LineTooLong (lit< tt),
  inr (
    none causes.Truncated (lit< tt),
    inr (
      none causes.BadHeader (lit< tt),
      inr (
        none causes.BadRecord (lit< tt),
        inr (
          none causes.OutOfRange (lit< tt),
          inr (
            none causes.OutOfOrder (lit< tt),
            inr (
              none causes.UnknownLine (lit< tt),
              inr (
                none causes.BadLine (lit< tt),
                inr (
                  none causes.NotAFuture (lit< tt),
                  inr (
                    none causes.NotAnInstallation (lit< tt),
                    inr (
                      none causes.LimitNotReached (lit< tt),
                      inr (none causes.NotNew (lit< tt), inr (none causes.WrongClaim (lit< tt), inl (has, refl))),
                    ),
                  ),
                ),
              ),
            ),
          ),
        ),
      ),
    ),
  ),
)

-- the causes that a record may have
abbrev pub may_have : CertRecord → CertCause → Bool
may_have (lines.Question literals) causes.OutOfRange = true
may_have (lines.Derived literals hints) causes.OutOfRange = true
may_have (lines.Derived literals hints) causes.UnknownLine = true
may_have (lines.Derived literals hints) causes.BadLine = true
may_have (lines.Refuted hints) causes.OutOfOrder = true
may_have (lines.Refuted hints) causes.UnknownLine = true
may_have (lines.Refuted hints) causes.BadLine = true
may_have (lines.Installation variables) causes.OutOfRange = true
may_have (lines.Installation variables) causes.NotAFuture = true
may_have (lines.Installation variables) causes.NotAnInstallation = true
may_have lines.Undecided causes.OutOfOrder = true
may_have lines.Undecided causes.LimitNotReached = true
may_have lines.Undecided causes.NotNew = true
may_have (lines.NotInstallable p) causes.OutOfOrder = true
may_have (lines.NotInstallable p) causes.WrongClaim = true
may_have (lines.Unknown p) causes.OutOfOrder = true
may_have (lines.Unknown p) causes.WrongClaim = true
may_have (lines.Strong p named on undecided) causes.OutOfOrder = true
may_have (lines.Strong p named on undecided) causes.WrongClaim = true
may_have (lines.Strong p named on undecided) causes.Incomplete = true
may_have (lines.Outdated p) causes.OutOfOrder = true
may_have (lines.Outdated p) causes.WrongClaim = true
may_have (lines.Alive p i) causes.OutOfOrder = true
may_have (lines.Alive p i) causes.WrongClaim = true
may_have (lines.Challenged p named by undecided) causes.OutOfOrder = true
may_have (lines.Challenged p named by undecided) causes.WrongClaim = true
may_have (lines.Challenged p named by undecided) causes.Incomplete = true
may_have lines.End causes.Incomplete = true
may_have step cause = false

never_any : {X : Type 0} (P : X → Type 0) → ¬ Any P []
never_any P any = omega (arith, any.2)

range_none : (matter : Matter) (step : CertRecord) → may_have step causes.OutOfRange ≡ false
    → ¬ IsOutOfRange matter step
range_none matter (lines.Question literals) e f = true≢false e
range_none matter (lines.Derived literals hints) e f = true≢false e
range_none matter (lines.Installation variables) e f = true≢false e
range_none matter step e f = never_any (λ variable. matter.variables < variable) f

order_none : (matter : Matter) (before : List CertRecord) (step : CertRecord) → may_have step causes.OutOfOrder ≡ false
    → ¬ IsOutOfOrder matter before step
order_none matter before (lines.Question literals) e f = omega (arith, f.2)
order_none matter before (lines.Derived literals hints) e f = omega (arith, f.2)
order_none matter before (lines.Installation variables) e f = omega (arith, f.2)
order_none matter before lines.End e f = omega (arith, f.2)
order_none matter before step e f = true≢false e

unknown_none : (matter : Matter) (before : List CertRecord) (step : CertRecord)
    → may_have step causes.UnknownLine ≡ false → ¬ IsUnknownLine matter before step
unknown_none matter before (lines.Derived literals hints) e f = true≢false e
unknown_none matter before (lines.Refuted hints) e f = true≢false e
unknown_none matter before step e f = omega (arith, f.2)

bad_none : (matter : Matter) (before : List CertRecord) (step : CertRecord) → may_have step causes.BadLine ≡ false
    → ¬ IsBadLine matter before step
bad_none matter before (lines.Derived literals hints) e f = true≢false e
bad_none matter before (lines.Refuted hints) e f = true≢false e
bad_none matter before step e f = f

future_none : (matter : Matter) (kind : CertKind) (step : CertRecord) → may_have step causes.NotAFuture ≡ false
    → ¬ IsNoFuture matter kind step
future_none matter kind (lines.Installation variables) e f = true≢false e
future_none matter kinds.Strong step e f = f
future_none matter kinds.Outdated step e f = f
future_none matter kinds.Challenged step e f = f

installation_none : (matter : Matter) (step : CertRecord) → may_have step causes.NotAnInstallation ≡ false
    → ¬ IsNoInstallation matter step
installation_none matter (lines.Installation variables) e f = true≢false e
installation_none matter step e f = f

early_none : (h : Header) (before : List CertRecord) (step : CertRecord) → may_have step causes.LimitNotReached ≡ false
    → ¬ IsTooEarly h before step
early_none h before lines.Undecided e f = true≢false e
early_none h before step e f = f

old_none : (matter : Matter) (before : List CertRecord) (step : CertRecord) → may_have step causes.NotNew ≡ false
    → ¬ HasOldLine matter before step
old_none matter before lines.Undecided e f = true≢false e
old_none matter before step e f = f

wrong_none : (matter : Matter) (kind : CertKind) (before : List CertRecord) (step : CertRecord)
    → may_have step causes.WrongClaim ≡ false
    → ¬ IsWrongClaim matter kind before step
wrong_none matter kind before (lines.Question literals) e f = false≢true f.0
wrong_none matter kind before (lines.Derived literals hints) e f = false≢true f.0
wrong_none matter kind before (lines.Refuted hints) e f = false≢true f.0
wrong_none matter kind before (lines.Installation variables) e f = false≢true f.0
wrong_none matter kind before lines.Undecided e f = false≢true f.0
wrong_none matter kind before lines.End e f = false≢true f.0
wrong_none matter kind before step e f = true≢false e

incomplete_none : (matter : Matter) (before : List CertRecord) (step : CertRecord)
    → may_have step causes.Incomplete ≡ false → ¬ IsIncomplete matter before step
incomplete_none matter before (lines.Strong p named on undecided) e f = true≢false e
incomplete_none matter before (lines.Challenged p named by undecided) e f = true≢false e
incomplete_none matter before lines.End e f = true≢false e
incomplete_none matter before step e f = f

none_else : (matter : Matter) (h : Header) (before : List CertRecord) (step : CertRecord) (cause : CertCause)
    → may_have step cause ≡ false → ¬ HasRecordFault matter h before step cause
none_else matter h before step causes.OutOfRange e f = range_none matter step e f
none_else matter h before step causes.OutOfOrder e f = order_none matter before step e f
none_else matter h before step causes.UnknownLine e f = unknown_none matter before step e f
none_else matter h before step causes.BadLine e f = bad_none matter before step e f
none_else matter h before step causes.NotAFuture e f = future_none matter h.kind step e f
none_else matter h before step causes.NotAnInstallation e f = installation_none matter step e f
none_else matter h before step causes.LimitNotReached e f = early_none h before step e f
none_else matter h before step causes.NotNew e f = old_none matter before step e f
none_else matter h before step causes.WrongClaim e f = wrong_none matter h.kind before step e f
none_else matter h before step causes.Incomplete e f = incomplete_none matter before step e f
none_else matter h before step cause e f = f

-- ---- verdicts

abbrev pub IsFaultless : Matter → Header → List CertRecord → CertRecord → Type 0
IsFaultless matter h before step = (cause : CertCause) → ¬ HasRecordFault matter h before step cause

abbrev pub HasFirst : Matter → Header → List CertRecord → CertRecord → CertCause → Type 0
HasFirst matter h before step cause = IsFirstOf in_order (HasRecordFault matter h before step) cause

pub faultless_from : (matter : Matter) (h : Header) (before : List CertRecord) (step : CertRecord)
    → ((cause : CertCause) → may_have step cause ≡ true → ¬ HasRecordFault matter h before step cause)
    → IsFaultless matter h before step
faultless_from matter h before step none cause fault = elim (cases_Bool (may_have step cause)) [
  | inl may ↦ none cause may fault
  | inr never ↦ none_else matter h before step cause never fault
]

pub first_from : (matter : Matter) (h : Header) (before : List CertRecord) (step : CertRecord) (cause : CertCause)
    → HasRecordFault matter h before step cause
    → ((earlier : CertCause) → may_have step earlier ≡ true → rank earlier < rank cause
    → ¬ HasRecordFault matter h before step earlier)
    → HasFirst matter h before step cause
first_from matter h before step cause has none = first_of (HasRecordFault matter h before step) cause has
    (λ earlier below fault. elim (cases_Bool (may_have step earlier)) [
      | inl may ↦ none earlier may below fault
      | inr never ↦ none_else matter h before step earlier never fault
    ])
