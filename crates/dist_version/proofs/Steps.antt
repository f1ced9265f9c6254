-- The steps in which a text is read: which fault each of them finds, and the places that are kept.
use Rattle.std.proofs.Common.{◌≡◌, ℕ, ◌+◌, ◌-◌, ◌<◌, ◌≤◌, true, false, cond, nat_lt, le-ltb, lt-ltb, List, [], ◌∷◌, ◌++◌, append_assoc, append-nil, length}
use Rattle.std.proofs.Common.{length-append, take, drop, drop_at, take_at, slice_range, Option, None, Some, option_map, MatchOption, option_copied, Bor}
use Rattle.std.proofs.Common.{true≢false, eqb-true, ◌==◌, refl, sym, ap, ◌∙◌, arith}
use Rattle.std.specs.Option.{option_map_or, option_or, unwrap_or}
use Rattle.std.proofs.lemmas.Bool.{cond-true, cond-false}
use Rattle.dist_base.specs.Ascii.{colon, hyphen}
use Rattle.dist_version.specs.declared.error.VersionError.{VersionError}
use Rattle.dist_version.specs.declared.error.VersionError.TheVariants.{Empty}
use Rattle.dist_version.specs.Spelling.{is_upstream_byte, is_revision_byte, has, revision_text, split_once, rsplit_once, epoch_digits}
use Rattle.dist_version.specs.Spelling.{after_epoch, epoch_of, upstream_of, revision_of}
use Rattle.dist_version.specs.Faults.{empty_fault, epoch_fault, upstream_fault, revision_fault, bad_byte, byte_fault, fault_of}
use Rattle.dist_version.specs.Kept.{Keeps}
use Rattle.dist_version.specs.CutLaws.{CutsFirst, CutsLast, cases_split, cases_rsplit}
use Rattle.dist_version.specs.TextLaws.{empty_fault-none}

abbrev pub epoch_part_fault : List ℕ → Option VersionError
epoch_part_fault text = option_map_or epoch_fault (epoch_digits text) None

abbrev pub lengths_fault : List ℕ → Option (List ℕ) → Option VersionError
lengths_fault upstream revision = option_or (upstream_fault upstream) (revision_fault revision)

or-assoc : (a b c : Option VersionError) → option_or a (option_or b c) ≡ option_or (option_or a b) c
or-assoc None b c = refl
or-assoc (Some f) b c = refl

pub or-some : (a b : Option VersionError) (f : VersionError) → a ≡ Some f → option_or a b ≡ Some f
or-some a b f e = rw e refl

pub or-next : (a b c : Option VersionError) → a ≡ None → b ≡ c → option_or a b ≡ c
or-next a b c e g = rw e g

pub first_fault-empty : (text : List ℕ) → length text ≡ 0 → fault_of text ≡ Some Empty
unfolding fault_of
first_fault-empty [] e = refl
first_fault-empty (b ∷ bs) e = absurd (omega (arith, e))

pub first_fault-epoch : (text : List ℕ) (f : VersionError) → 0 < length text → epoch_part_fault text ≡ Some f → fault_of text ≡ Some f
unfolding fault_of
first_fault-epoch text f some e = or-next (empty_fault text) _ _ (empty_fault-none text some) (or-some (epoch_part_fault text) _ f e)

after_two : (text : List ℕ) → 0 < length text → epoch_part_fault text ≡ None
    → fault_of text ≡ option_or (lengths_fault (upstream_of text) (revision_of text)) (byte_fault text)
unfolding fault_of
after_two text some e =
    or-next (empty_fault text) _ _ (empty_fault-none text some)
    (or-next (epoch_part_fault text) _ _ e (or-assoc (upstream_fault (upstream_of text)) (revision_fault (revision_of text)) (byte_fault text)))

pub first_fault-lengths : (text : List ℕ) (f : VersionError) → 0 < length text → epoch_part_fault text ≡ None
    → lengths_fault (upstream_of text) (revision_of text) ≡ Some f → fault_of text ≡ Some f
first_fault-lengths text f some e g = after_two text some e ∙ or-some (lengths_fault (upstream_of text) (revision_of text)) (byte_fault text) f g

pub first_fault-bytes : (text : List ℕ) (f : Option VersionError) → 0 < length text → epoch_part_fault text ≡ None
    → lengths_fault (upstream_of text) (revision_of text) ≡ None → byte_fault text ≡ f → fault_of text ≡ f
first_fault-bytes text f some e g h = after_two text some e ∙ or-next (lengths_fault (upstream_of text) (revision_of text)) (byte_fault text) f g h

pub some_bytes : (text : List ℕ) → false ≡ (length text == 0) → 0 < length text
some_bytes [] e = absurd (true≢false (sym e))
some_bytes (b ∷ bs) e = omega arith

pub no_bytes : (text : List ℕ) → true ≡ (length text == 0) → length text ≡ 0
no_bytes text e = eqb-true (length text) 0 (sym e)

-- what `unwrap_or` gives of a revision
pub now-unwrap_or : (o : Option (Bor (List ℕ))) (d : Bor (List ℕ)) → (unwrap_or o d).now ≡ unwrap_or (option_copied o) d.now
now-unwrap_or None d = refl
now-unwrap_or (Some r) d = refl

-- the first bad byte, in the parts that the code has found
pub byte_fault_found : (text rest upstream : List ℕ) (revision : Option (List ℕ)) (bytes : List ℕ) → after_epoch text ≡ rest → upstream_of text ≡ upstream
    → revision_of text ≡ revision → bytes ≡ unwrap_or revision [] →
    byte_fault text ≡ option_or (bad_byte is_upstream_byte (length text - length rest) upstream)
    (bad_byte is_revision_byte (length text - length rest + length upstream + 1) bytes)
byte_fault_found text rest upstream revision bytes a b c d = rw (a, b, c, d) refl

-- ---- places

front_from : (text : List ℕ) (o : Option (List ℕ × List ℕ)) → split_once colon text ≡ o → MatchOption o (has colon text ≡ false) (CutsFirst colon text)
    → (front : List ℕ) × (text ≡ front ++ after_epoch text)
unfolding after_epoch
front_from text None e cut = ([], rw e refl)
front_from text (Some s) e cut = (s.0 ++ colon ∷ [], rw e (cut.0 ∙ sym (append_assoc s.0 (colon ∷ []) s.1)))

-- the text goes on with the rest after its epoch
pub front_of : (text : List ℕ) → (front : List ℕ) × (text ≡ front ++ after_epoch text)
front_of text = front_from text (split_once colon text) refl (cases_split colon text)

rest_from : (text : List ℕ) (o : Option (List ℕ × List ℕ)) → rsplit_once hyphen (after_epoch text) ≡ o
    → MatchOption o (has hyphen (after_epoch text) ≡ false) (CutsLast hyphen (after_epoch text))
    → after_epoch text ≡ upstream_of text ++ revision_text (revision_of text)
unfolding upstream_of revision_of
rest_from text None e cut = rw e (sym (append-nil (after_epoch text)))
rest_from text (Some s) e cut = rw e cut.0

-- the rest is the upstream version and the revision
pub rest_is : (text : List ℕ) → after_epoch text ≡ upstream_of text ++ revision_text (revision_of text)
rest_is text = rest_from text (rsplit_once hyphen (after_epoch text)) refl (cases_rsplit hyphen (after_epoch text))

pub length-after_epoch-le : (text : List ℕ) → length (after_epoch text) ≤ length text
length-after_epoch-le text = let f = front_of text in omega (arith, ap length f.1, length-append f.0 (after_epoch text))

-- what the places say of a text that is cut so
record Placed (text upstream : List ℕ) (revision : Option (List ℕ)) (start : ℕ) : Type 0 where
  within : start + length upstream ≤ length text
  upstream_at : upstream ≡ slice_range text start (start + length upstream)
  revision_at : revision ≡ cond (nat_lt (start + length upstream) (length text)) (Some (drop (start + length upstream + 1) text)) None

revision_placed : (text front upstream : List ℕ) (revision : Option (List ℕ)) (start : ℕ) → text ≡ front ++ (upstream ++ revision_text revision)
    → start ≡ length front →
    revision ≡ cond (nat_lt (start + length upstream) (length text)) (Some (drop (start + length upstream + 1) text)) None
revision_placed text front upstream None start whole begins =
    let whole_length : length text ≤ start + length upstream =
    omega (arith, ap length whole, length-append front (upstream ++ []), length-append upstream []) in
    sym (cond-false (nat_lt (start + length upstream) (length text)) (Some (drop (start + length upstream + 1) text)) None
    (le-ltb (start + length upstream) (length text) whole_length))
revision_placed text front upstream (Some r) start whole begins =
    let part : length text ≡ start + (length upstream + (length r + 1)) =
    omega (arith, ap length whole, length-append front (upstream ++ hyphen ∷ r), length-append upstream (hyphen ∷ r)) in
    let here : nat_lt (start + length upstream) (length text) ≡ true = lt-ltb (start + length upstream) (length text) (omega (arith, part)) in
    let before = front ++ (upstream ++ hyphen ∷ []) in
    let cut : text ≡ before ++ r = whole ∙ ap (λ w. front ++ w) (sym (append_assoc upstream (hyphen ∷ []) r))
    ∙ sym (append_assoc front (upstream ++ hyphen ∷ []) r) in
    let size : length before ≡ start + length upstream + 1 =
    omega (arith, length-append front (upstream ++ hyphen ∷ []), length-append upstream (hyphen ∷ [])) in
    let after : drop (start + length upstream + 1) text ≡ r = ap (drop (start + length upstream + 1)) cut
    ∙ drop_at before r (start + length upstream + 1) size in
    sym (cond-true (nat_lt (start + length upstream) (length text)) (Some (drop (start + length upstream + 1) text)) None here ∙ ap (λ w. Some w) after)

placed : (text front upstream : List ℕ) (revision : Option (List ℕ)) (start : ℕ) → text ≡ front ++ (upstream ++ revision_text revision) → start ≡ length front
    → Placed text upstream revision start
placed text front upstream revision start whole begins =
    let tail = revision_text revision in
    let rest : drop start text ≡ upstream ++ tail = ap (drop start) whole ∙ drop_at front (upstream ++ tail) start (sym begins) in
    let cut : take (start + length upstream - start) (drop start text) ≡ upstream =
    ap (take (start + length upstream - start)) rest ∙ take_at upstream tail (start + length upstream - start) (omega arith) in
    record {
      within = omega (arith, ap length whole, length-append front (upstream ++ tail), length-append upstream tail);
      upstream_at = sym cut;
      revision_at = revision_placed text front upstream revision start whole begins;
    }

-- the places that the code keeps, of a text without a fault
pub keeps : (text : List ℕ) (value start : ℕ) → fault_of text ≡ None → epoch_of text ≡ value → start ≡ length text - length (after_epoch text)
    → Keeps text value start (start + length (upstream_of text))
keeps text value start sound epoch begins =
    let f = front_of text in
    let whole : text ≡ f.0 ++ (upstream_of text ++ revision_text (revision_of text)) = f.1 ∙ ap (λ w. f.0 ++ w) (rest_is text) in
    let p = placed text f.0 (upstream_of text) (revision_of text) start whole (omega (arith, ap length f.1, length-append f.0 (after_epoch text))) in
    record { sound = sound; epoch = epoch; ordered = omega arith; within = p.within; upstream = p.upstream_at; revision = p.revision_at }

-- the parts that the code finds by cutting the rest
pub parts_found : (text rest : List ℕ) → after_epoch text ≡ rest → (upstream_of text ≡ option_map_or (λ s. s.0) (rsplit_once hyphen rest) rest)
    × (revision_of text ≡ option_map (λ s. s.1) (rsplit_once hyphen rest))
unfolding upstream_of revision_of
parts_found text rest e = rw e (refl, refl)

pub room : (text : List ℕ) → length text - length (after_epoch text) + length (upstream_of text) + length (revision_text (revision_of text)) ≡ length text
room text =
    let f = front_of text in
    omega (
      arith,
      ap length f.1,
      length-append f.0 (after_epoch text),
      ap length (rest_is text),
      length-append (upstream_of text) (revision_text (revision_of text)),
    )

pub revision_size : (revision : Option (List ℕ)) → length (unwrap_or revision []) ≤ length (revision_text revision)
revision_size None = omega arith
revision_size (Some r) = omega arith
