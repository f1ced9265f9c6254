-- The lines of a sweep, claim by claim, and the end behind them.
use Rattle.std.proofs.Common.{◌≡◌, inl, inr, ℕ, ◌+◌, ◌≤◌, false, List, [], ◌∷◌, ◌++◌, length, refl, ap, sym, subst, ◌∙◌}
use Rattle.std.proofs.Common.{append_assoc, append-nil, arith, length-append}
use Rattle.std.specs.List.{list_any}
use Rattle.std.proofs.lemmas.Bool.{false≢true}
use Rattle.std.proofs.lemmas.List.Elements.{All-nil}
use Rattle.dist_base.specs.Ascii.{line_feed}
use Rattle.dist_outside.specs.DeskView.{DeskView, FileGrew}
use Rattle.dist_outside.specs.declared.trouble.WorkError.{WorkError}
use Rattle.dist_outside.specs.declared.trouble.WorkError.TheVariants.{NoMemory}
use Rattle.dist_cert.specs.declared.faults.CertCause.{CertCause}
use Rattle.dist_cert.specs.declared.records.CertRecord.{CertRecord}
use Rattle.dist_cert.specs.declared.records.CertRecord.TheVariants.{End}
use Rattle.dist_cert.specs.declared.records.Claim.{Claim}
use Rattle.dist_cert.specs.declared.records.Header.{Header}
use Rattle.dist_cert.specs.Accepted.{claims_in}
use Rattle.dist_cert.specs.Form.{IsSmall, header_text, is_end, record_text}
use Rattle.dist_cert.specs.Groups.{claim_count}
use Rattle.dist_cert.specs.LineRules.{HasRecordFault}
use Rattle.dist_cert.specs.PartByRecordsLaws.{IsLine}
use Rattle.dist_cert.specs.FileLines.{lines_text}
use Rattle.dist_cert.specs.Refusal.{certificate_text}
use Rattle.dist_cert.specs.Writing.{WriterView, ended}
use Rattle.dist_line_write.specs.Asking.{AskerView}
use Rattle.dist_line_write.specs.LineLaws.{no-future, keeps-same, none-in}
use Rattle.dist_line_write.specs.Script.{FirstMore, FirstStops, PutMore, PutStops, StopsIn, new_writer}
use Rattle.dist_line_write.specs.ScriptLaws.{BeginsLaw, TwiceLaw, lines-more, text-push}
use Rattle.dist_sweep.specs.Asking.{IsAt}
use Rattle.dist_sweep.specs.Script.{IsWriter, Setting, Stops, matter_in, script_of}
use Rattle.dist_sweep.specs.ScriptLaws.{by-later, put-behind, put-stopped, stops-after, stops-for-memory}
use Rattle.dist_sweep.specs.Sweeping.{AreClaimed, Begins, StartsClaims, ClaimsMore, ClaimsStop}
use Rattle.dist_sweep.specs.Sweeping.{StopsLater, SweepMore, SweepStops}
use Rattle.dist_sweep.specs.Claiming.{ClaimMore, ClaimStops, Keeping, MayClaim}
use Rattle.dist_sweep.specs.Window.{WindowView}
use Rattle.dist_sweep.specs.QuestionLinesLaws.{claims-push}
use Rattle.dist_cert.specs.declared.faults.CertCause.TheVariants as causes

-- ---- claim by claim

pub no-claims : {C : Type 0} (Keeps : Keeping C) → BeginsLaw → (packages : ℕ) (old : DeskView) (a : AskerView) (w : WindowView) (c : C)
    → ClaimsMore Keeps packages old old a a w w c c []
no-claims Keeps begins packages old a w c g starts =
    record { lines = []; grew = begins old; swept = starts.swept; kept = starts.keeps; counted = refl; claims = refl }

-- the claim on the next package may come behind the claims so far
may-claim : {C : Type 0} (Keeps : Keeping C) (packages : ℕ) (old mid : DeskView) (a b : AskerView) (w v : WindowView) (c d : C) (made : List Claim) (p : ℕ)
    (g : Setting) → StartsClaims Keeps g packages a w c → (x : AreClaimed g old mid b v (λ lines. Keeps g lines d) made) → p ≡ length made + 1 → p ≤ packages
    → MayClaim g x.lines b v p
may-claim Keeps packages old mid a b w v c d made p g starts x next upto = record {
  swept = x.swept;
  next = next ∙ ap (λ (n : ℕ). n + 1) (sym x.counted);
  upto = omega (arith, upto, starts.packages_are);
}

pub one-more : {C : Type 0} (Keeps : Keeping C) → TwiceLaw → (packages : ℕ) (old mid new : DeskView) (a b d : AskerView) (w v u : WindowView) (c e f : C)
    (made after : List Claim) (claim : Claim) (p : ℕ) → ClaimsMore Keeps packages old mid a b w v c e made
    → ClaimMore Keeps p mid new b d v u e f claim → p ≡ length made + 1 → p ≤ packages
    → after ≡ made ++ claim ∷ [] → ClaimsMore Keeps packages old new a d w u c f after
one-more Keeps twice packages old mid new a b d w v u c e f made after claim p all one next upto is g starts =
    let x = all g starts in
    let y = one g x.lines (may-claim Keeps packages old mid a b w v c e made p g starts x next upto) x.kept in
    record {
      lines = x.lines ++ y.added;
      grew = subst (λ bytes. FileGrew bytes old new) (sym (lines-more x.lines y.added))
          (twice (lines_text x.lines) (lines_text y.added) old mid new x.grew y.grew);
      swept = y.swept;
      kept = y.kept;
      counted = y.counted ∙ ap (λ (n : ℕ). n + 1) x.counted ∙ sym (ap length is ∙ length-append made (claim ∷ []));
      claims = y.claims ∙ ap (λ (cs : List Claim). cs ++ claim ∷ []) x.claims ∙ sym is;
    }

pub one-stops : {C : Type 0} (Keeps : Keeping C) → TwiceLaw → (packages : ℕ) (old mid new : DeskView) (a b : AskerView) (w v : WindowView) (c e : C)
    (made : List Claim) (p : ℕ) (error : WorkError) → ClaimsMore Keeps packages old mid a b w v c e made
    → ClaimStops Keeps p mid new b v e error → p ≡ length made + 1 → p ≤ packages → ClaimsStop Keeps packages old new a w c error
one-stops Keeps twice packages old mid new a b w v c e made p error all stops next upto g starts =
    let x = all g starts in
    stops-after twice g [] x.lines old mid new error x.grew
    (stops g x.lines (may-claim Keeps packages old mid a b w v c e made p g starts x next upto) x.kept)

-- want of memory for a claim
pub claims-memory : {C : Type 0} (Keeps : Keeping C) → BeginsLaw → TwiceLaw → (packages : ℕ) (old mid new : DeskView) (a b d : AskerView)
    (w v u : WindowView) (c e f : C) (made : List Claim) (claim : Claim) (p : ℕ) → ClaimsMore Keeps packages old mid a b w v c e made
    → ClaimMore Keeps p mid new b d v u e f claim → p ≡ length made + 1 → p ≤ packages → ClaimsStop Keeps packages old new a w c NoMemory
claims-memory Keeps begins twice packages old mid new a b d w v u c e f made claim p all one next upto g starts =
    let x = one-more Keeps twice packages old mid new a b d w v u c e f made (made ++ claim ∷ []) claim p all one next upto refl g starts in
    stops-after twice g [] x.lines old new new NoMemory x.grew (stops-for-memory g x.lines d.writer new new x.swept.at.writer (begins new))

-- ---- the end

end-line : (g : Setting) (before : List CertRecord) → list_any is_end before ≡ false
    → claim_count before ≡ (matter_in g).packages → IsLine (matter_in g) g.header before End
end-line g before going count = record {
  form = record { text = refl; rules = tt; numbers = All-nil (λ w. IsSmall w.0) };
  not_ended = going;
  faultless = none;
  next = tt;
}
  where
    none : (cause : CertCause) → ¬ HasRecordFault (matter_in g) g.header before End cause
    none causes.OutOfRange f = none-in _ f
    none causes.OutOfOrder f = none-in _ f
    none causes.UnknownLine f = none-in _ f
    none causes.NotAFuture f = no-future (matter_in g) g.header.kind End refl f
    none causes.WrongClaim f = false≢true f.0
    none causes.Incomplete f = omega (arith, f, count)
    none cause f = f

-- ---- all lines

-- the lines before the end
abbrev pub first-swept : {C : Type 0} → Keeping C → Header → AskerView → AskerView → WindowView → C → Type 0
first-swept Keeps header a b w c = (g : Setting) → Begins Keeps g header a w c → StartsClaims Keeps g header.packages b w c

-- the writer behind the first line
first-behind : (g : Setting) (header : Header) (w after : WriterView) → FirstMore w after (header_text header) → header ≡ g.header
    → w ≡ new_writer g.limits → IsWriter g [] after
first-behind g header w after more is nothing =
    let first = more (script_of g) (ap (λ (h : Header). header_text h) is) nothing in
    record { written = record { next = tt; within = first.written }; stands = first.stands }

pub header-swept : {C : Type 0} (Keeps : Keeping C) (header : Header) (a b : AskerView) (w : WindowView) (c : C) → b ≡ record a { writer = b.writer }
    → FirstMore a.writer b.writer (header_text header) → first-swept Keeps header a b w c
header-swept Keeps header a b w c rest more g begins = record {
  swept = record {
    at = subst (λ (v : AskerView). IsAt g [] v) (sym rest) (record {
      log = begins.log;
      writer = first-behind g header a.writer b.writer more begins.header_is begins.writer;
      stand = begins.stand;
    });
    window = begins.window;
    no_group = refl;
  };
  keeps = begins.keeps;
  packages_are = ap (λ (h : Header). h.packages) begins.header_is ∙ begins.packages;
}

-- the first line and what stands behind it
header-joined : (h : Header) (lines : List CertRecord) (cut : List ℕ) → ended (header_text h) ++ (lines_text lines ++ cut) ≡ certificate_text h lines ++ cut
header-joined h lines cut = append_assoc (header_text h) (10 ∷ []) (lines_text lines ++ cut)
    ∙ sym (append_assoc (header_text h) (line_feed ∷ lines_text lines) cut)

later : TwiceLaw → (g : Setting) (old mid new : DeskView) (error : WorkError) → FileGrew (ended (header_text g.header)) old mid → Stops g [] mid new error
    → StopsLater g old new error
later twice g old mid new error grew stops = record {
  lines = stops.added;
  cut = stops.cut;
  written = stops.written;
  grew = subst (λ bytes. FileGrew bytes old new) (header-joined g.header stops.added stops.cut)
      (twice (ended (header_text g.header)) (lines_text stops.added ++ stops.cut) old mid new grew stops.grew);
  cut_off = stops.cut_off;
  by = by-later g stops.added stops.cut old mid new error grew.counts stops.grew.counts stops.by;
}

pub sweep-first : {C : Type 0} (Keeps : Keeping C) (header : Header) (old new : DeskView) (a : AskerView) (w : WindowView) (c : C) (error : WorkError)
    → FirstStops a.writer (header_text header) old new error → SweepStops Keeps header old new a w c error
sweep-first Keeps header old new a w c error stops g begins =
    inl (subst (λ (h : Header). StopsIn (script_of g) (header_text h) [] old new error) begins.header_is
    (stops (script_of g) (ap (λ (h : Header). header_text h) begins.header_is) begins.writer))

pub sweep-later : {C : Type 0} (Keeps : Keeping C) → TwiceLaw → (header : Header) (old mid new : DeskView) (a b : AskerView) (w : WindowView) (c : C)
    (error : WorkError) → first-swept Keeps header a b w c
    → FileGrew (ended (header_text header)) old mid → ClaimsStop Keeps header.packages mid new b w c error
    → SweepStops Keeps header old new a w c error
sweep-later Keeps twice header old mid new a b w c error first grew stops g begins =
    inr (later twice g old mid new error (subst (λ (h : Header). FileGrew (ended (header_text h)) old mid) begins.header_is grew) (stops g (first g begins)))

end-next : {C : Type 0} (Keeps : Keeping C) (g : Setting) (packages : ℕ) (old new : DeskView) (a b : AskerView) (w v : WindowView) (c d : C)
    (made : List Claim) → StartsClaims Keeps g packages a w c → length made ≡ packages
    → (claimed : AreClaimed g old new b v (λ lines. Keeps g lines d) made) → IsLine (matter_in g) g.header claimed.lines End
end-next Keeps g packages old new a b w v c d made starts count claimed =
    end-line g claimed.lines claimed.swept.at.log.not_ended (claimed.counted ∙ count ∙ starts.packages_are)

pub sweep-end-stops : {C : Type 0} (Keeps : Keeping C) → TwiceLaw → (header : Header) (old mid late new : DeskView) (a b d : AskerView) (w v : WindowView)
    (c e : C) (made : List Claim) (error : WorkError)
    → first-swept Keeps header a b w c → FileGrew (ended (header_text header)) old mid
    → ClaimsMore Keeps header.packages mid late b d w v c e made → length made ≡ header.packages → PutStops d.writer End late new error
    → SweepStops Keeps header old new a w c error
sweep-end-stops Keeps twice header old mid late new a b d w v c e made error first grew more count stops g begins =
    let starts = first g begins in
    let x = more g starts in
    inr (later twice g old mid new error (subst (λ (h : Header). FileGrew (ended (header_text h)) old mid) begins.header_is grew)
    (stops-after twice g [] x.lines mid late new error x.grew
    (put-stopped g x.lines End d.writer late new error stops x.swept.at.writer
    (end-next Keeps g header.packages mid late b d w v c e made starts count x))))

pub sweep-whole : {C : Type 0} (Keeps : Keeping C) → TwiceLaw → (header : Header) (old mid late new : DeskView) (a b d e : AskerView) (w v : WindowView)
    (c f : C) (made : List Claim) → first-swept Keeps header a b w c → FileGrew (ended (header_text header)) old mid
    → ClaimsMore Keeps header.packages mid late b d w v c f made → length made ≡ header.packages
    → FileGrew (ended (record_text End)) late new → PutMore d.writer e.writer End
    → SweepMore Keeps header old new a w c made
sweep-whole Keeps twice header old mid late new a b d e w v c f made first grew more count last put g begins =
    let starts = first g begins in
    let x = more g starts in
    let behind = put-behind g x.lines End d.writer e.writer put x.swept.at.writer
    (end-next Keeps g header.packages mid late b d w v c f made starts count x)
    (keeps-same g.limits x.lines End refl x.swept.at.writer.written.within.kept) in
    let start = subst (λ (h : Header). FileGrew (ended (header_text h)) old mid) begins.header_is grew in
    record {
      lines = x.lines;
      written = behind.written;
      grew = subst (λ bytes. FileGrew bytes old new) (header-joined g.header x.lines (ended (record_text End)) ∙ sym (text-push (header_text g.header) x.lines
          End))
          (twice (ended (header_text g.header)) (lines_text x.lines ++ ended (record_text End)) old mid new start
          (twice (lines_text x.lines) (ended (record_text End)) mid late new x.grew last));
      claims = claims-push x.lines End ∙ append-nil (claims_in x.lines) ∙ x.claims;
    }
