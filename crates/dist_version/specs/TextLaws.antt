-- What holds of all texts: which spell a version, and that each spells one at most.
use Rattle.std.proofs.Common.{◌≡◌, ◌≢◌, ◌↔◌, ℕ, ◌+◌, ◌<◌, ◌≤◌, Bool, true, false, true≢false, cond, not, ◌==◌, nat_lt}
use Rattle.std.proofs.Common.{ne_eqb, ltb-false, le-ltb, lt-ltb, List, [], ◌∷◌, ◌++◌, append_assoc, append-nil, length}
use Rattle.std.proofs.Common.{length-append, Option, None, Some, option_map, position, add_assoc, add-zero, IfSome}
use Rattle.std.proofs.Common.{IsSome, MatchOption, refl, sym, ap, ◌∙◌, subst, ◌⊎◌, inl, inr, arith}
use Rattle.std.specs.Char.{is_ascii_digit}
use Rattle.std.specs.List.{list_all, position_from}
use Rattle.std.specs.Option.{option_map_or, option_or, unwrap_or}
use Rattle.std.specs.Str.Parse.{digits_value}
use Rattle.std.proofs.lemmas.Bool.{false≢true, and_parts, and_from, or_parts, or_from, false_from_ne_true, cases_Bool}
use Rattle.std.proofs.lemmas.Iterator.Adapters.{position_from-zero}
use Rattle.dist_base.specs.Ascii.{colon, hyphen}
use Rattle.dist_base.specs.Answers.{IsExact}
use Rattle.dist_version.specs.declared.TheConstants.{MAX_EPOCH}
use Rattle.dist_version.specs.declared.error.VersionError.{VersionError}
use Rattle.dist_version.specs.declared.error.VersionError.TheVariants.{NoMemory, BadEpoch, EpochTooLarge, BadByte}
use Rattle.dist_version.specs.Spelling.{ReadsVersion, has, is_upstream_byte, is_revision_byte, IsMadeOf}
use Rattle.dist_version.specs.Spelling.{Parts, Spells, SpellsEpoch, revision_text, IsVersion, split_once, rsplit_once}
use Rattle.dist_version.specs.Spelling.{epoch_digits, after_epoch, epoch_of, upstream_of, revision_of, parts_of}
use Rattle.dist_version.specs.Faults.{IsTextFault, empty_fault, epoch_fault, upstream_fault, revision_fault, bad_byte}
use Rattle.dist_version.specs.Faults.{byte_fault, upstream_start, revision_start, fault_of}
use Rattle.dist_version.specs.CutLaws.{CutsFirst, CutsLast, split_once-at, split_once-none, cases_split, rsplit_once-at}
use Rattle.dist_version.specs.CutLaws.{rsplit_once-none, cases_rsplit}

-- bytes that all pass a test lack a byte that doesn't
pub lacks : (byte : ℕ) (test : ℕ → Bool) (bytes : List ℕ) → test byte ≡ false → list_all test bytes ≡ true
    → has byte bytes ≡ false
lacks byte test [] fails all = refl
lacks byte test (x ∷ xs) fails all =
    let p = and_parts (test x) (list_all test xs) all in
    or_from (x == byte) (has byte xs) (ne_eqb x byte (λ e. true≢false (sym p.0 ∙ ap test e ∙ fails)))
    (lacks byte test xs fails p.1)

pub lacks-append : (byte : ℕ) (a b : List ℕ) → has byte a ≡ false → has byte b ≡ false → has byte (a ++ b) ≡ false
lacks-append byte [] b h k = k
lacks-append byte (x ∷ a) b h k =
    let p = or_parts (x == byte) (has byte a) h in
    or_from (x == byte) (has byte (a ++ b)) p.0 (lacks-append byte a b p.1 k)

has-append_left : (byte : ℕ) (a b : List ℕ) → has byte (a ++ b) ≡ false → has byte a ≡ false
has-append_left byte [] b h = refl
has-append_left byte (x ∷ a) b h =
    let p = or_parts (x == byte) (has byte (a ++ b)) h in
    or_from (x == byte) (has byte a) p.0 (has-append_left byte a b p.1)

-- no revision has a colon
revised_lacks : (upstream : List ℕ) (revision : Option (List ℕ)) → has colon upstream ≡ false
    → IfSome revision (IsMadeOf is_revision_byte) → has colon (upstream ++ revision_text revision) ≡ false
revised_lacks upstream None h made = lacks-append colon upstream [] h refl
revised_lacks upstream (Some r) h made = lacks-append colon upstream (hyphen ∷ r) h
    (lacks colon is_revision_byte r refl made.1)

pub epoch_fault-none : (ds : List ℕ) → IsMadeOf is_ascii_digit ds → digits_value 10 ds ≤ MAX_EPOCH
    → epoch_fault ds ≡ None
epoch_fault-none [] made small = absurd (omega (arith, made.0))
epoch_fault-none (d ∷ ds) made small = rw (made.1, le-ltb MAX_EPOCH (digits_value 10 (d ∷ ds)) small) refl

some-none : {A : Type 0} (x : A) → Some x ≡ None → ⊥
some-none x e = cc

chosen : (all large : Bool) → cond (not all) (Some BadEpoch) (cond large (Some EpochTooLarge) None) ≡ None
    → (all ≡ true) × (large ≡ false)
chosen true true e = absurd (some-none _ e)
chosen true false e = (refl, refl)
chosen false large e = absurd (some-none _ e)

pub epoch_fault-none_is : (ds : List ℕ) → epoch_fault ds ≡ None → IsMadeOf is_ascii_digit ds
    × (digits_value 10 ds ≤ MAX_EPOCH)
epoch_fault-none_is [] e = absurd (some-none _ e)
epoch_fault-none_is (d ∷ ds) e =
    let p = chosen (list_all is_ascii_digit (d ∷ ds)) (nat_lt MAX_EPOCH (digits_value 10 (d ∷ ds))) e in
    ((omega arith, p.0), ltb-false MAX_EPOCH (digits_value 10 (d ∷ ds)) p.1)

pub epoch_fault-large : (ds : List ℕ) → 0 < length ds → list_all is_ascii_digit ds ≡ true
    → MAX_EPOCH < digits_value 10 ds → epoch_fault ds ≡ Some EpochTooLarge
epoch_fault-large [] some all large = absurd (omega arith)
epoch_fault-large (d ∷ ds) some all large = rw (all, lt-ltb MAX_EPOCH (digits_value 10 (d ∷ ds)) large) refl

-- ---- the epoch's colon

-- what stands after the epoch, and the epoch's value
pub record StartsWith (text after : List ℕ) (value : ℕ) : Type 0 where
  pub rest : after_epoch text ≡ after
  pub epoch : epoch_of text ≡ value
  pub fault : option_map_or epoch_fault (epoch_digits text) None ≡ None

pub with_colon : (text digits after : List ℕ) → split_once colon text ≡ Some (digits, after) → epoch_fault digits ≡ None
    → StartsWith text after (digits_value 10 digits)
unfolding after_epoch epoch_of epoch_digits
with_colon text digits after e f = record { rest = rw e refl; epoch = rw e refl; fault = rw e f }

pub fault_with_colon : (text digits after : List ℕ) (fault : VersionError)
    → split_once colon text ≡ Some (digits, after) → epoch_fault digits ≡ Some fault
    → option_map_or epoch_fault (epoch_digits text) None ≡ Some fault
unfolding epoch_digits
fault_with_colon text digits after fault e f = rw e f

pub without_colon : (text : List ℕ) → split_once colon text ≡ None → StartsWith text text 0
unfolding after_epoch epoch_of epoch_digits
without_colon text e = record { rest = rw e refl; epoch = rw e refl; fault = rw e refl }

starts_with : (text front after : List ℕ) (value : ℕ) → text ≡ front ++ after → SpellsEpoch front value
    → value ≤ MAX_EPOCH → (front ≡ [] → has colon after ≡ false) → StartsWith text after value
starts_with text front after value whole (inl w) small none =
    let cut : split_once colon text ≡ Some (w.0, after) =
    rw (whole, w.1, append_assoc) (split_once-at colon w.0 after (lacks colon is_ascii_digit w.0 refl w.2.1)) in
    rw (← w.3) (with_colon text w.0 after cut (epoch_fault-none w.0 w.2 (rw w.3 small)))
starts_with text front after value whole (inr w) small none =
    let same : text ≡ after = whole ∙ ap (λ f. f ++ after) w.0 in
    rw (w.1, ← same) (without_colon text (split_once-none colon text (rw same (none w.0))))

-- ---- the revision's hyphen

cut_at : (text upstream : List ℕ) (revision : Option (List ℕ)) → after_epoch text ≡ upstream ++ revision_text revision
    → IfSome revision (IsMadeOf is_revision_byte) → (has hyphen upstream ≡ true → IsSome revision)
    → (upstream_of text ≡ upstream) × (revision_of text ≡ revision)
unfolding upstream_of revision_of
cut_at text upstream None rest made some =
    let lack : has hyphen upstream ≡ false = false_from_ne_true (has hyphen upstream) (λ h. false≢true (some h)) in
    let same : after_epoch text ≡ upstream = rest ∙ append-nil upstream in
    rw (same, rsplit_once-none hyphen upstream lack) (refl, refl)
cut_at text upstream (Some r) rest made some =
    rw (rest, rsplit_once-at hyphen upstream r (lacks hyphen is_revision_byte r refl made.1)) (refl, refl)

pub one_version : (text : List ℕ) (version : Parts) → Spells text version → version ≡ parts_of text
one_version text version s =
    let whole : text ≡ s.front ++ (version.upstream ++ revision_text version.revision) = s.whole
    ∙ append_assoc s.front version.upstream (revision_text version.revision) in
    let lacking : s.front ≡ [] → has colon (version.upstream ++ revision_text version.revision) ≡ false =
    λ e. revised_lacks version.upstream version.revision
    (false_from_ne_true (has colon version.upstream) (λ h. s.written h e)) s.revision in
    let start = starts_with text s.front (version.upstream ++ revision_text version.revision) version.epoch whole
    s.epoch s.small lacking in
    let cut = cut_at text version.upstream version.revision start.rest s.revision s.revised in
    sym (λ i. record { epoch = start.epoch i; upstream = cut.0 i; revision = cut.1 i })

-- ---- no fault

or-none : (a b : Option VersionError) → a ≡ None → b ≡ None → option_or a b ≡ None
or-none a b e f = rw e f

or-none_is : (a b : Option VersionError) → option_or a b ≡ None → (a ≡ None) × (b ≡ None)
or-none_is None b e = (refl, e)
or-none_is (Some f) b e = absurd (some-none f e)

-- each fault is none
record Faultless (text : List ℕ) : Type 0 where
  empty : empty_fault text ≡ None
  epoch : option_map_or epoch_fault (epoch_digits text) None ≡ None
  upstream : upstream_fault (upstream_of text) ≡ None
  revision : revision_fault (revision_of text) ≡ None
  byte : byte_fault text ≡ None

fault_of-none : (text : List ℕ) → Faultless text → fault_of text ≡ None
unfolding fault_of
fault_of-none text f = or-none _ _ f.empty
    (or-none _ _ f.epoch (or-none _ _ f.upstream (or-none _ _ f.revision f.byte)))

faultless : (text : List ℕ) → fault_of text ≡ None → Faultless text
unfolding fault_of
faultless text none =
    let a = or-none_is _ _ none in
    let b = or-none_is _ _ a.1 in
    let c = or-none_is _ _ b.1 in
    let d = or-none_is _ _ c.1 in
    record { empty = a.0; epoch = b.0; upstream = c.0; revision = d.0; byte = d.1 }

pub empty_fault-none : (text : List ℕ) → 0 < length text → empty_fault text ≡ None
empty_fault-none [] h = absurd (omega arith)
empty_fault-none (b ∷ bs) h = refl

upstream_fault-none : (upstream : List ℕ) → 0 < length upstream → upstream_fault upstream ≡ None
upstream_fault-none [] h = absurd (omega arith)
upstream_fault-none (b ∷ bs) h = refl

revision_fault-none : (revision : Option (List ℕ)) → IfSome revision (IsMadeOf is_revision_byte)
    → revision_fault revision ≡ None
revision_fault-none None made = refl
revision_fault-none (Some []) made = absurd (omega (arith, made.0))
revision_fault-none (Some (b ∷ bs)) made = refl

-- the first byte that fails, where all pass or none has been found
pub bad_byte-none : (test : ℕ → Bool) (start : ℕ) (bytes : List ℕ) → list_all test bytes ≡ true
    → bad_byte test start bytes ≡ None
bad_byte-none test start [] all = refl
bad_byte-none test start (x ∷ xs) all =
    let p = and_parts (test x) (list_all test xs) all in rw p.0 (bad_byte-none test (start + 1) xs p.1)

pub bad_byte-none_is : (test : ℕ → Bool) (start : ℕ) (bytes : List ℕ) → bad_byte test start bytes ≡ None
    → list_all test bytes ≡ true
bad_byte-none_is test start [] e = refl
bad_byte-none_is test start (x ∷ xs) e = elim (cases_Bool (test x)) [
  | inl pass ↦ and_from (test x) (list_all test xs) pass (bad_byte-none_is test (start + 1) xs (rw pass at e))
  | inr fail ↦ absurd (some-none (BadByte start) (rw fail at e))
]

-- by the first place that fails
position_from-add : (test : ℕ → Bool) (start i : ℕ) (bytes : List ℕ)
    → position_from test (start + i) bytes ≡ option_map (λ k. start + k) (position_from test i bytes)
position_from-add test start i [] = refl
position_from-add test start i (x ∷ xs) = elim (cases_Bool (test x)) [
  | inl pass ↦ rw pass refl
  | inr fail ↦ rw fail (ap (λ n. position_from test n xs) (add_assoc start i 1)
      ∙ position_from-add test start (i + 1) xs)
]

option_map-map : (start : ℕ) (o : Option ℕ) → option_map (λ place. BadByte place) (option_map (λ k. start + k) o)
    ≡ option_map (λ k. BadByte (start + k)) o
option_map-map start None = refl
option_map-map start (Some k) = refl

bad_byte-position : (test : ℕ → Bool) (start : ℕ) (bytes : List ℕ)
    → bad_byte test start bytes ≡ option_map (λ k. BadByte (start + k)) (position (λ b. not (test b)) bytes)
bad_byte-position test start bytes =
    let fails : ℕ → Bool = λ b. not (test b) in
    ap (option_map (λ place. BadByte place)) (
    ap (λ n. position_from fails n bytes) (sym (add-zero start))
    ∙ position_from-add fails start 0 bytes
    ∙ ap (option_map (λ k. start + k)) (sym (position_from-zero fails bytes))
    )
    ∙ option_map-map start (position fails bytes)

pub bad_byte-found : (test : ℕ → Bool) (start : ℕ) (bytes : List ℕ) (k : ℕ)
    → position (λ b. not (test b)) bytes ≡ Some k → bad_byte test start bytes ≡ Some (BadByte (start + k))
bad_byte-found test start bytes k e = bad_byte-position test start bytes ∙ ap (option_map (λ k. BadByte (start + k))) e

pub bad_byte-passed : (test : ℕ → Bool) (start : ℕ) (bytes : List ℕ) → position (λ b. not (test b)) bytes ≡ None
    → bad_byte test start bytes ≡ None
bad_byte-passed test start bytes e = bad_byte-position test start bytes ∙ ap (option_map (λ k. BadByte (start + k))) e

byte_fault-none : (text : List ℕ) → list_all is_upstream_byte (upstream_of text) ≡ true → (revision : Option (List ℕ))
    → revision_of text ≡ revision → IfSome revision (IsMadeOf is_revision_byte) → byte_fault text ≡ None
byte_fault-none text all None e made = or-none _ _
    (bad_byte-none is_upstream_byte (upstream_start text) (upstream_of text) all) (rw e refl)
byte_fault-none text all (Some r) e made =
    or-none _ _ (bad_byte-none is_upstream_byte (upstream_start text) (upstream_of text) all)
    (rw e (bad_byte-none is_revision_byte (revision_start text) r made.1))

pub no_fault_from_version : (text : List ℕ) → IsVersion text → fault_of text ≡ None
no_fault_from_version text (version, s) =
    let whole : text ≡ s.front ++ (version.upstream ++ revision_text version.revision) = s.whole
    ∙ append_assoc s.front version.upstream (revision_text version.revision) in
    let lacking : s.front ≡ [] → has colon (version.upstream ++ revision_text version.revision) ≡ false =
    λ e. revised_lacks version.upstream version.revision
    (false_from_ne_true (has colon version.upstream) (λ h. s.written h e)) s.revision in
    let start = starts_with text s.front (version.upstream ++ revision_text version.revision) version.epoch whole
    s.epoch s.small lacking in
    let cut = cut_at text version.upstream version.revision start.rest s.revision s.revised in
    let some : 0 < length text = omega (
      arith,
      s.upstream.0,
      ap length whole,
      length-append s.front (version.upstream ++ revision_text version.revision),
      length-append version.upstream (revision_text version.revision),
    ) in
    fault_of-none text (record {
      empty = empty_fault-none text some;
      epoch = start.fault;
      upstream = rw cut.0 (upstream_fault-none version.upstream s.upstream.0);
      revision = rw cut.1 (revision_fault-none version.revision s.revision);
      byte = byte_fault-none text (rw cut.0 s.upstream.1) version.revision cut.1 s.revision;
    })

-- how a text without a fault begins
record Epoch (text : List ℕ) : Type 0 where
  front : List ℕ
  after : List ℕ
  value : ℕ
  whole : text ≡ front ++ after
  spelled : SpellsEpoch front value
  small : value ≤ MAX_EPOCH
  lacking : front ≡ [] → has colon after ≡ false
  start : StartsWith text after value

epoch_from : (text : List ℕ) (o : Option (List ℕ × List ℕ)) → split_once colon text ≡ o
    → MatchOption o (has colon text ≡ false) (CutsFirst colon text)
    → option_map_or epoch_fault (option_map (λ s. s.0) o) None ≡ None → Epoch text
epoch_from text None e cut none = record {
  front = [];
  after = text;
  value = 0;
  whole = refl;
  spelled = inr (refl, refl);
  small = omega arith;
  lacking = λ _. cut;
  start = without_colon text e;
}
epoch_from text (Some s) e cut none =
    let p = epoch_fault-none_is s.0 none in record {
      front = s.0 ++ colon ∷ [];
      after = s.1;
      value = digits_value 10 s.0;
      whole = cut.0 ∙ sym (append_assoc s.0 (colon ∷ []) s.1);
      spelled = inl (s.0, refl, p.0, refl);
      small = p.1;
      lacking = λ h. absurd (omega (arith, ap length h, length-append s.0 (colon ∷ [])));
      start = with_colon text s.0 s.1 e none;
    }

-- how it ends
record Ending (text after : List ℕ) : Type 0 where
  upstream : List ℕ
  revision : Option (List ℕ)
  whole : after ≡ upstream ++ revision_text revision
  revised : has hyphen upstream ≡ true → IsSome revision
  upstream_is : upstream_of text ≡ upstream
  revision_is : revision_of text ≡ revision

ending_from : (text after : List ℕ) → after_epoch text ≡ after → (o : Option (List ℕ × List ℕ))
    → rsplit_once hyphen after ≡ o → MatchOption o (has hyphen after ≡ false) (CutsLast hyphen after)
    → Ending text after
unfolding upstream_of revision_of
ending_from text after rest None e cut = record {
  upstream = after;
  revision = None;
  whole = sym (append-nil after);
  revised = λ h. absurd (true≢false (sym h ∙ cut));
  upstream_is = rw (rest, e) refl;
  revision_is = rw (rest, e) refl;
}
ending_from text after rest (Some s) e cut = record {
  upstream = s.0;
  revision = Some s.1;
  whole = cut.0;
  revised = λ h. refl;
  upstream_is = rw (rest, e) refl;
  revision_is = rw (rest, e) refl;
}

upstream_fault-none_is : (upstream : List ℕ) → upstream_fault upstream ≡ None → 0 < length upstream
upstream_fault-none_is [] e = absurd (some-none _ e)
upstream_fault-none_is (b ∷ bs) e = omega arith

revision_from : (revision : Option (List ℕ)) (start : ℕ) → revision_fault revision ≡ None
    → bad_byte is_revision_byte start (unwrap_or revision []) ≡ None → IfSome revision (IsMadeOf is_revision_byte)
revision_from None start e f = tt
revision_from (Some []) start e f = absurd (some-none _ e)
revision_from (Some (b ∷ bs)) start e f = (omega arith, bad_byte-none_is is_revision_byte start (b ∷ bs) f)

pub version_from_no_fault : (text : List ℕ) → fault_of text ≡ None → IsVersion text
unfolding epoch_digits
version_from_no_fault text none =
    let f = faultless text none in
    let e = or-none_is (bad_byte is_upstream_byte (upstream_start text) (upstream_of text))
    (bad_byte is_revision_byte (revision_start text) (unwrap_or (revision_of text) [])) f.byte in
    let s = epoch_from text (split_once colon text) refl (cases_split colon text) f.epoch in
    let t = ending_from text s.after s.start.rest (rsplit_once hyphen s.after) refl (cases_rsplit hyphen s.after) in
    let upstream : IsMadeOf is_upstream_byte t.upstream = (
      upstream_fault-none_is t.upstream (rw t.upstream_is at f.upstream),
      bad_byte-none_is is_upstream_byte (upstream_start text) t.upstream (rw t.upstream_is at e.0),
    ) in
    let revision = revision_from t.revision (revision_start text) (rw t.revision_is at f.revision)
    (rw t.revision_is at e.1) in (
      record { epoch = s.value; upstream = t.upstream; revision = t.revision },
      record {
        front = s.front;
        whole = s.whole ∙ ap (λ w. s.front ++ w) t.whole
            ∙ sym (append_assoc s.front t.upstream (revision_text t.revision));
        epoch = s.spelled;
        small = s.small;
        upstream = upstream;
        revision = revision;
        written = λ h e. true≢false (sym h ∙ has-append_left colon t.upstream (revision_text t.revision)
            (rw t.whole at (s.lacking e)));
        revised = t.revised;
      },
    )

pub exactly_versions : (text : List ℕ) → (fault_of text ≡ None) ↔ IsVersion text
exactly_versions text = (version_from_no_fault text, no_fault_from_version text)

pub spells_parts : (text : List ℕ) → fault_of text ≡ None → Spells text (parts_of text)
spells_parts text none =
    let v = version_from_no_fault text none in
    let P : Parts → Type 0 = Spells text in subst P (one_version text v.0 v.1) v.1

-- ---- want of memory is no fault of a text

or-other : (a b : Option VersionError) → a ≢ Some NoMemory → b ≢ Some NoMemory → option_or a b ≢ Some NoMemory
or-other None b h k = k
or-other (Some f) b h k = h

epoch_fault-other : (o : Option (List ℕ)) → option_map_or epoch_fault o None ≢ Some NoMemory
epoch_fault-other None = λ e. cc
epoch_fault-other (Some []) = λ e. cc
epoch_fault-other (Some (d ∷ ds)) = elim (cases_Bool (list_all is_ascii_digit (d ∷ ds))) [
  | inl all ↦ elim (cases_Bool (nat_lt MAX_EPOCH (digits_value 10 (d ∷ ds)))) [
    | inl large ↦ rw (all, large) (λ e. cc)
    | inr small ↦ rw (all, small) (λ e. cc)
  ]
  | inr other ↦ rw other (λ e. cc)
]

empty_fault-other : (text : List ℕ) → empty_fault text ≢ Some NoMemory
empty_fault-other [] = λ e. cc
empty_fault-other (b ∷ bs) = λ e. cc

upstream_fault-other : (upstream : List ℕ) → upstream_fault upstream ≢ Some NoMemory
upstream_fault-other [] = λ e. cc
upstream_fault-other (b ∷ bs) = λ e. cc

revision_fault-other : (revision : Option (List ℕ)) → revision_fault revision ≢ Some NoMemory
revision_fault-other None = λ e. cc
revision_fault-other (Some []) = λ e. cc
revision_fault-other (Some (b ∷ bs)) = λ e. cc

place-other : (o : Option ℕ) → option_map (λ place. BadByte place) o ≢ Some NoMemory
place-other None = λ e. cc
place-other (Some k) = λ e. cc

pub no_memory_fault : (text : List ℕ) → fault_of text ≢ Some NoMemory
unfolding fault_of
no_memory_fault text =
    or-other _ _ (empty_fault-other text) (or-other _ _ (epoch_fault-other (epoch_digits text))
    (or-other _ _ (upstream_fault-other (upstream_of text)) (or-other _ _ (revision_fault-other (revision_of text))
    (or-other _ _ (place-other _) (place-other _)))))

-- ---- a text has one reading or one first fault

some_same : (f g : VersionError) → Some f ≡ Some g → f ≡ g
some_same f g e = cc

cases_fault : (text : List ℕ) (o : Option VersionError) → fault_of text ≡ o
    → ((version : List ℕ) × ReadsVersion text version) ⊎ ((fault : VersionError) × IsTextFault text fault)
cases_fault text None e = inl (text, (refl, version_from_no_fault text e))
cases_fault text (Some fault) e = inr (fault, e)

pub exact_texts : (text : List ℕ) → IsExact (ReadsVersion text) (IsTextFault text)
exact_texts text = record {
  some = cases_fault text (fault_of text) refl;
  one_reading = λ version other h k. h.0 ∙ sym k.0;
  one_fault = λ fault other h k. some_same fault other (sym h ∙ k);
  never_both = λ version fault h k. some-none fault (sym k ∙ no_fault_from_version text h.1);
}
