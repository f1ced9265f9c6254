-- Reading LIST line by line.
use Rattle.std.proofs.Common.{◌≡◌, ◌≢◌, ℕ, suc, ◌+◌, ◌-◌, ◌<◌, Bool, true, false, Option, Some, None, List, [], ◌∷◌, ◌++◌, inl, inr, length, replicate, get_or}
use Rattle.std.proofs.Common.{set, refl, sym, ap, subst, ◌∙◌, arith, append_assoc, length-append, length-set, get_or-set_same, get_or-set_other}
use Rattle.std.specs.Prelude.{All, slice_get, slice_set, ◌↔◌}
use Rattle.std.proofs.lemmas.Bool.{false≢true, cases_eq, cases_lt}
use Rattle.std.proofs.lemmas.List.{append-nil, get_or_append_left, length-replicate}
use Rattle.std.proofs.lemmas.List.Elements.{All-push, All-replicate, Contains-append_left, Contains-push, Contains-push_cases}
use Rattle.std.proofs.lemmas.Option.{slice_get_within, slice_get_read, get_or_from_slice_get}
use Rattle.std.proofs.Math.Seq.{get_or-append_seam}
use Rattle.dist_base.specs.ListLaws.{within-from}
use Rattle.dist_control.specs.Lines.{lines}
use Rattle.std.specs.declared.cmp.Ordering.TheVariants.{Equal}
use Rattle.dist_version.specs.Order.{version_cmp}
use Rattle.dist_version.specs.Spelling.{IsVersion}
use Rattle.dist_repo.specs.Providers.{IsPackageAt}
use Rattle.dist_repo.specs.declared.package.Package.{Package}
use Rattle.dist_list.specs.LineParts.{parts_of}
use Rattle.dist_list.specs.PackageSet.{Names, IsListLine, IsInList, NameSet, NamesSet, IsBadAt}
use Rattle.dist_list.specs.ListedPrivate.{IsLine, Marks, ReadSoFar}
use Rattle.dist_list.specs.declared.list.Line.{Line}
use Rattle.dist_list.specs.declared.list.Line.TheVariants as lines_of

-- flags after one was set
flag_same : (flags : List Bool) (n : ℕ) → n < length flags → slice_get (slice_set flags n true) n ≡ Some true
flag_same flags n within =
    slice_get_read (set flags n true) (length flags) n true (sym (length-set flags n true)) within (sym (get_or-set_same flags n true true within))

flag_from : (flags : List Bool) (n : ℕ) → slice_get flags n ≡ Some true → (n < length flags) × (get_or flags n true ≡ true)
flag_from flags n is = (slice_get_within flags n true is, get_or_from_slice_get flags n true true is)

flag_to : (flags : List Bool) (n : ℕ) → n < length flags → get_or flags n true ≡ true → slice_get flags n ≡ Some true
flag_to flags n within is = slice_get_read flags (length flags) n true refl within (sym is)

flag_set : (flags : List Bool) (n m : ℕ) → m ≢ n → slice_get flags m ≡ Some true → slice_get (slice_set flags n true) m ≡ Some true
flag_set flags n m other is =
    let f = flag_from flags m is in
    flag_to (set flags n true) m (omega (arith, length-set flags n true, f.0)) (get_or-set_other flags n m true true other ∙ f.1)

flag_unset : (flags : List Bool) (n m : ℕ) → m ≢ n → slice_get (slice_set flags n true) m ≡ Some true → slice_get flags m ≡ Some true
flag_unset flags n m other is =
    let f = flag_from (set flags n true) m is in
    flag_to flags m (omega (arith, length-set flags n true, f.0)) (sym (get_or-set_other flags n m true true other) ∙ f.1)

same_flag : (x y : Bool) → (◌≡◌ {A = Option Bool} (Some x) (Some true) → ◌≡◌ {A = Option Bool} (Some y) (Some true))
    → (◌≡◌ {A = Option Bool} (Some y) (Some true) → ◌≡◌ {A = Option Bool} (Some x) (Some true)) → x ≡ y
same_flag true true to from = refl
same_flag false false to from = refl
same_flag true false to from = let e = to refl in cc
same_flag false true to from = let e = from refl in cc

same_flags : (a b : List Bool) → length a ≡ length b → ((n : ℕ) → slice_get a n ≡ Some true → slice_get b n ≡ Some true)
    → ((n : ℕ) → slice_get b n ≡ Some true → slice_get a n ≡ Some true) → a ≡ b
same_flags [] [] len to from = refl
same_flags [] (y ∷ b) len to from = absurd (omega arith)
same_flags (x ∷ a) [] len to from = absurd (omega arith)
same_flags (x ∷ a) (y ∷ b) len to from =
    let rest : a ≡ b = same_flags a b (omega arith) (λ n. to (suc n)) (λ n. from (suc n)) in
    ap (λ (h : Bool). h ∷ a) (same_flag x y (to 0) (from 0)) ∙ ap (λ (t : List Bool). y ∷ t) rest

-- a blank line names no package
blank_names_none : (packages : List Package) (line : List ℕ) (number : ℕ) → parts_of line ≡ [] → ¬ Names packages line number
blank_names_none packages line number blank names = let e = names.spelled in cc

-- no lines name none
pub none_yet : (packages : List Package) (members : List Bool) → length members ≡ length packages → All (λ member. member ≡ false) members
    → NameSet packages [] members
none_yet packages members len none = record {
  each = λ k d within. absurd (omega arith);
  one_each = len;
  named = λ number. (
    λ is. let f = flag_from members number is in absurd (false≢true (sym (none number true f.0) ∙ f.1)),
    λ named. absurd (omega (arith, named.1.1)),
  );
}

pub ReadSoFar-start : (packages : List Package) (text : List ℕ) (members : List Bool) → length members ≡ length packages
    → All (λ member. member ≡ false) members → ReadSoFar packages text text 1 members
ReadSoFar-start packages text members len none = record {
  done = [];
  pieces = refl;
  named = none_yet packages members len none;
  place = refl;
}

-- the set with one line more
one_line_more : (packages : List Package) (done : List (List ℕ)) (line : List ℕ) (old new : List Bool) → NameSet packages done old
    → IsListLine packages line → length new ≡ length old
    → ((m : ℕ) → slice_get new m ≡ Some true → IsInList packages (done ++ line ∷ []) m)
    → ((m : ℕ) → IsInList packages (done ++ line ∷ []) m → slice_get new m ≡ Some true)
    → NameSet packages (done ++ line ∷ []) new
one_line_more packages done line old new set is_line same to from = record {
  each = All-push (IsListLine packages) done line set.each is_line;
  one_each = same ∙ set.one_each;
  named = λ m. (to m, from m);
}

-- a blank line names nothing
pub blank_more : (packages : List Package) (done : List (List ℕ)) (line : List ℕ) (members : List Bool) → NameSet packages done members → parts_of line ≡ []
    → NameSet packages (done ++ line ∷ []) members
blank_more packages done line members set blank =
    one_line_more packages done line members members set (inl blank) refl
    (λ m is. let n = (set.named m).0 is in (n.0, Contains-append_left done (line ∷ []) n.0 n.1, n.2))
    (λ m named. elim (Contains-push_cases done line named.0 named.1) [
      | inl before ↦ (set.named m).1 (named.0, before, named.2)
      | inr here ↦ absurd (blank_names_none packages line m blank (let N : List ℕ → Type 0 = λ l. Names packages l m in subst N (sym here) named.2))
    ])

-- a line with a package names it alone
pub named_more : (packages : List Package) (done : List (List ℕ)) (line : List ℕ) (found : ℕ) (members : List Bool) → NameSet packages done members
    → Names packages line found → ((other : ℕ) → Names packages line other → other ≡ found) → found < length members
    → NameSet packages (done ++ line ∷ []) (slice_set members found true)
named_more packages done line found members set names only within =
    one_line_more packages done line members (slice_set members found true) set (inr (found, names)) (length-set members found true)
    (λ m is. elim (cases_eq m found) [
      | inl same ↦ (line, Contains-push done line, let P : ℕ → Type 0 = Names packages line in subst P (sym same) names)
      | inr other ↦
          let n = (set.named m).0 (flag_unset members found m other is) in
          (n.0, Contains-append_left done (line ∷ []) n.0 n.1, n.2)
    ])
    (λ m named. elim (cases_eq m found) [
      | inl same ↦ let R : ℕ → Type 0 = λ n. slice_get (slice_set members found true) n ≡ Some true in subst R (sym same) (flag_same members found within)
      | inr other ↦ elim (Contains-push_cases done line named.0 named.1) [
        | inl before ↦ flag_set members found m other ((set.named m).1 (named.0, before, named.2))
        | inr here ↦ absurd (other (only m (let N : List ℕ → Type 0 = λ l. Names packages l m in subst N (sym here) named.2)))
      ]
    ])

read_more : (packages : List Package) (text rest after line : List ℕ) (number : ℕ) (old new : List Bool) (so_far : ReadSoFar packages text rest number old)
    → lines rest ≡ line ∷ lines after → NameSet packages (so_far.done ++ line ∷ []) new → ReadSoFar packages text after (number + 1) new
read_more packages text rest after line number old new so_far next named = record {
  done = so_far.done ++ line ∷ [];
  pieces = so_far.pieces ∙ ap (λ (ls : List (List ℕ)). so_far.done ++ ls) next ∙ sym (append_assoc so_far.done (line ∷ []) (lines after));
  named = named;
  place = let e = so_far.place in omega (arith, e, length-append so_far.done (line ∷ []));
}

pub ReadSoFar-blank : (packages : List Package) (text rest after line : List ℕ) (number : ℕ) (members : List Bool) → ReadSoFar packages text rest number members
    → lines rest ≡ line ∷ lines after → parts_of line ≡ [] → ReadSoFar packages text after (number + 1) members
ReadSoFar-blank packages text rest after line number members so_far next blank =
    read_more packages text rest after line number members members so_far next (blank_more packages so_far.done line members so_far.named blank)

pub ReadSoFar-named : (packages : List Package) (text rest after line : List ℕ) (number found : ℕ) (members : List Bool)
    → ReadSoFar packages text rest number members
    → lines rest ≡ line ∷ lines after → Names packages line found → ((other : ℕ) → Names packages line other → other ≡ found) → found < length members
    → ReadSoFar packages text after (number + 1) (slice_set members found true)
ReadSoFar-named packages text rest after line number found members so_far next names only within =
    read_more packages text rest after line number members (slice_set members found true) so_far next
    (named_more packages so_far.done line found members so_far.named names only within)

pub ReadSoFar-end : (packages : List Package) (text : List ℕ) (number : ℕ) (members : List Bool) → ReadSoFar packages text [] number members
    → NamesSet packages text members
ReadSoFar-end packages text number members so_far =
    let all : lines text ≡ so_far.done = so_far.pieces ∙ append-nil so_far.done in
    let N : List (List ℕ) → Type 0 = λ ls. NameSet packages ls members in
    subst N (sym all) so_far.named

pub ReadSoFar-bad : (packages : List Package) (text rest after line : List ℕ) (number : ℕ) (members : List Bool) → ReadSoFar packages text rest number members
    → lines rest ≡ line ∷ lines after → ¬ IsListLine packages line → IsBadAt packages text number
ReadSoFar-bad packages text rest after line number members so_far next bad = record {
  before = so_far.done;
  line = line;
  after = lines after;
  split = so_far.pieces ∙ ap (λ (ls : List (List ℕ)). so_far.done ++ ls) next;
  each_before = so_far.named.each;
  bad = bad;
  place = so_far.place;
}

-- a text names one set at most
pub NamesSet-one : (packages : List Package) (text : List ℕ) (a b : List Bool) → NamesSet packages text a → NamesSet packages text b → b ≡ a
NamesSet-one packages text a b first second =
    same_flags b a (second.one_each ∙ sym first.one_each) (λ n is. (first.named n).1 ((second.named n).0 is))
    (λ n is. (second.named n).1 ((first.named n).0 is))

-- the line at the place of a bad one
bad_line : (packages : List Package) (text : List ℕ) (number : ℕ) (bad : IsBadAt packages text number)
    → get_or (lines text) (length bad.before) bad.line ≡ bad.line
bad_line packages text number bad =
    ap (λ (ls : List (List ℕ)). get_or ls (length bad.before) bad.line) bad.split ∙ get_or-append_seam bad.before bad.line bad.after bad.line

-- a text with a bad line names no set
pub NamesSet-not_bad : (packages : List Package) (text : List ℕ) (members : List Bool) (number : ℕ) → NamesSet packages text members
    → ¬ IsBadAt packages text number
NamesSet-not_bad packages text members number set bad =
    bad.bad (subst (IsListLine packages) (bad_line packages text number bad)
    (set.each (length bad.before) bad.line (let e = ap length bad.split in omega (arith, e, length-append bad.before (bad.line ∷ bad.after)))))

-- no bad line stands before another
not_before : (packages : List Package) (text : List ℕ) (n m : ℕ) (first : IsBadAt packages text n) (second : IsBadAt packages text m)
    → ¬ (length first.before < length second.before)
not_before packages text n m first second less =
    let at : get_or (lines text) (length first.before) first.line ≡ get_or second.before (length first.before) first.line =
    ap (λ (ls : List (List ℕ)). get_or ls (length first.before) first.line) second.split
    ∙ get_or_append_left second.before (second.line ∷ second.after) first.line (length first.before) less in
    first.bad (subst (IsListLine packages) (sym at ∙ bad_line packages text n first) (second.each_before (length first.before) first.line less))

-- a text has one first bad line at most
pub IsBadAt-one : (packages : List Package) (text : List ℕ) (n m : ℕ) → IsBadAt packages text n → IsBadAt packages text m → m ≡ n
IsBadAt-one packages text n m first second =
    let a = not_before packages text n m first second in
    let b = not_before packages text m n second first in
    let p = first.place in
    let q = second.place in
    elim (cases_lt (length first.before) (length second.before)) [
      | inl less ↦ absurd (a less)
      | inr not_less ↦ elim (cases_lt (length second.before) (length first.before)) [
        | inl less ↦ absurd (b less)
        | inr not_more ↦ omega (arith, p, q, not_less, not_more)
      ]
    ]

-- the package of the two words of a line
pub Names-two : (packages : List Package) (line name version : List ℕ) (number : ℕ) (found : Option ℕ) → parts_of line ≡ name ∷ version ∷ []
    → ((n : ℕ) → (found ≡ Some n) ↔ (IsVersion version × IsPackageAt packages n name version)) → found ≡ Some number
    → Names packages line number × ((other : ℕ) → Names packages line other → other ≡ number)
Names-two packages line name version number found parts is here =
    let at = (is number).0 here in (
      record { name = name; version = version; spelled = parts; is_version = at.0; found = at.1 },
      λ other names.
          let same_name : names.name ≡ name = let e = names.spelled in cc in
          let same_version : names.version ≡ version = let e = names.spelled in cc in
          let P : List ℕ → Type 0 = λ n. IsPackageAt packages other n names.version in
          let Q : List ℕ → Type 0 = λ v. IsVersion v × IsPackageAt packages other name v in
          let there : found ≡ Some other = (is other).1 (subst Q same_version (names.is_version, subst P same_name names.found)) in
          cc,
    )

-- no package has the two words of a line
pub none_listed : (packages : List Package) (line name version : List ℕ) (found : Option ℕ) → parts_of line ≡ name ∷ version ∷ []
    → ((n : ℕ) → (found ≡ Some n) ↔ (IsVersion version × IsPackageAt packages n name version)) → found ≡ None → ¬ IsListLine packages line
none_listed packages line name version found parts is none (inl blank) = cc
none_listed packages line name version found parts is none (inr (number, names)) =
    let same_name : names.name ≡ name = let e = names.spelled in cc in
    let same_version : names.version ≡ version = let e = names.spelled in cc in
    let P : List ℕ → Type 0 = λ n. IsPackageAt packages number n names.version in
    let Q : List ℕ → Type 0 = λ v. IsVersion v × IsPackageAt packages number name v in
    let there : found ≡ Some number = (is number).1 (subst Q same_version (names.is_version, subst P same_name names.found)) in
    cc

-- one line more was read
pub ReadSoFar-marked : (packages : List Package) (text rest after line : List ℕ) (number : ℕ) (old new : List Bool) → ReadSoFar packages text rest number old
    → lines rest ≡ line ∷ lines after → Marks packages line old new true → ReadSoFar packages text after (number + 1) new
ReadSoFar-marked packages text rest after line number old new so_far next (inl (blank, same)) =
    let P : List Bool → Type 0 = ReadSoFar packages text after (number + 1) in
    subst P (sym same) (ReadSoFar-blank packages text rest after line number old so_far next blank)
ReadSoFar-marked packages text rest after line number old new so_far next (inr one) =
    let P : List Bool → Type 0 = ReadSoFar packages text after (number + 1) in
    subst P (sym one.marked) (ReadSoFar-named packages text rest after line number one.number old so_far next one.names one.only one.within)

pub Names-within : (packages : List Package) (line : List ℕ) (number : ℕ) → Names packages line number → number < length packages
Names-within packages line number names =
    let P : Package → Type 0 = λ p. (p.name ≡ names.name) × (version_cmp p.version names.version ≡ Equal) in
    within-from P packages number names.found

-- a line that names a package marks it
pub Marks-one : (packages : List Package) (line : List ℕ) (result : Line) (number : ℕ) (old new : List Bool) → IsLine packages line result
    → result ≡ lines_of.Package number
    → length old ≡ length packages → new ≡ slice_set old ((number + 1) - 1) true → Marks packages line old new true
Marks-one packages line result number old new is_line is same set_is =
    let P : Line → Type 0 = IsLine packages line in
    let one = subst P is is_line in
    inr (record {
      number = number;
      names = one.0;
      only = one.1;
      within = let w = Names-within packages line number one.0 in omega (arith, w, same);
      marked = set_is ∙ ap (λ (n : ℕ). slice_set old n true) (omega arith);
    })

pub IsLine-within : (packages : List Package) (line : List ℕ) (result : Line) (number : ℕ) → IsLine packages line result → result ≡ lines_of.Package number
    → number < length packages
IsLine-within packages line result number is_line is =
    let P : Line → Type 0 = IsLine packages line in
    Names-within packages line number (subst P is is_line).0

pub Marks-true : (packages : List Package) (line : List ℕ) (old new : List Bool) (result : Bool) → Marks packages line old new result → result ≡ true
    → Marks packages line old new true
Marks-true packages line old new result marks is = subst (λ (b : Bool). Marks packages line old new b) is marks

pub Marks-false : (packages : List Package) (line : List ℕ) (old new : List Bool) (result : Bool) → Marks packages line old new result → result ≡ false
    → ¬ IsListLine packages line
Marks-false packages line old new result marks is = subst (λ (b : Bool). Marks packages line old new b) is marks

pub Marks-length : (packages : List Package) (line : List ℕ) (old new : List Bool) → Marks packages line old new true → length new ≡ length old
Marks-length packages line old new (inl (blank, same)) = ap length same
Marks-length packages line old new (inr one) = ap length one.marked ∙ length-set old one.number true

pub ReadSoFar-none : (packages : List Package) (text : List ℕ) (members : List Bool) (count : ℕ) → members ≡ replicate count false → count ≡ length packages
    → ReadSoFar packages text text 1 members
ReadSoFar-none packages text members count is same =
    ReadSoFar-start packages text members (ap length is ∙ length-replicate count false ∙ same)
    (let P : List Bool → Type 0 = All (λ member. member ≡ false) in subst P (sym is) (All-replicate (λ (member : Bool). member ≡ false) count false refl))
