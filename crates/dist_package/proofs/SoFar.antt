-- Where the loop over the stanzas of a file stands.
use Rattle.std.proofs.Common.{◌≡◌, ◌≢◌, ℕ, suc, ◌+◌, ◌≤◌, false, not, cond, List, [], ◌∷◌, ◌++◌, Option, None, Some, length, get_or, map, find, refl, sym, ap}
use Rattle.std.proofs.Common.{◌∙◌, subst, arith, inl, inr, append_assoc, unwrap_or}
use Rattle.std.specs.List.{All, Any, Contains}
use Rattle.std.specs.List.Sorted.{IsPermutation}
use Rattle.std.specs.Option.{option_or}
use Rattle.std.specs.Str.{bytes_eq}
use Rattle.std.proofs.lemmas.Bool.{false_from_ne_true}
use Rattle.std.proofs.lemmas.Cmp.{tied_back}
use Rattle.std.proofs.lemmas.List.{append-nil, map-append, get_or-map, get_or_at, length-map, length-append, length_push}
use Rattle.std.proofs.lemmas.List.Elements.{All-nil, All-cons, All-push, All-weaker, All-contains, All-map}
use Rattle.std.proofs.lemmas.List.Folds.{find-append}
use Rattle.std.proofs.lemmas.List.Sorted.{All-permutation, Contains-permutation, length_permutation}
use Rattle.std.proofs.lemmas.Slice.Eq.{bytes_eq-Decides}
use Rattle.dist_version.specs.OrderLaws.{version_total}
use Rattle.dist_control.specs.RawStanza.{RawStanza, raw_stanzas}
use Rattle.dist_control.specs.Reader.{HasNext}
use Rattle.dist_control.specs.Unread.{Unread}
use Rattle.dist_repo.specs.Held.{Held, packages_of, IsClashAt}
use Rattle.dist_repo.specs.Order.{IsInOrder, IsSamePackage}
use Rattle.dist_repo.specs.PackageList.{PackageList}
use Rattle.dist_repo.specs.declared.package.Package.{Package}
use Rattle.dist_package.specs.declared.error.Fault.{Fault}
use Rattle.dist_package.specs.declared.error.Kind.TheVariants.{Clash}
use Rattle.dist_package.specs.declared.package.Described.{Described}
use Rattle.dist_package.specs.Named.{fault_on}
use Rattle.dist_package.specs.PackageOf.{IsPackageOf, all}
use Rattle.dist_package.specs.FirstFault.{Read, architecture_of, IsClash, HasPackage, ReadsAs, HasFieldFault, AreReadAfter, AreRead, HasPackagesFault}
use Rattle.dist_package.specs.FirstFault.{IsTooMany}
use Rattle.dist_package.specs.FirstFault.{IsBad, IsRefused}
use Rattle.dist_package.specs.declared.error.PackagesError.{PackagesError}
use Rattle.dist_package.specs.declared.error.PackagesError.TheVariants.{Bad, TooMany, NoMemory}
use Rattle.dist_package.specs.RepositoryOf.{IsRepositoryOf}
use Rattle.dist_package.specs.StepsPrivate.{GivesPackage, IsFaulty, Adds, IsClashFault}

-- ---- one stanza more is read

pub read-snoc : (earlier : List Read) (raws : List RawStanza) (reads : List Read) (raw : RawStanza) (read : Read) → AreReadAfter earlier raws reads →
    ReadsAs (earlier ++ reads) raw read → AreReadAfter earlier (raws ++ raw ∷ []) (reads ++ read ∷ [])
read-snoc earlier [] [] raw read done here =
    let P : List Read → Type 0 = λ e. ReadsAs e raw read in (subst P (append-nil earlier) here, tt)
read-snoc earlier [] (x ∷ reads) raw read done here = absurd done
read-snoc earlier (r ∷ raws) [] raw read done here = absurd done
read-snoc earlier (r ∷ raws) (x ∷ reads) raw read done here =
    let P : List Read → Type 0 = λ e. ReadsAs e raw read in
    (done.0, read-snoc (earlier ++ x ∷ []) raws reads raw read done.1 (subst P (sym (append_assoc earlier (x ∷ []) reads)) here))

-- the architecture that the reads have with one more
architecture-one : (read : Read) (given : Option (List ℕ)) → read.architecture ≡ unwrap_or given all → given ≢ Some all →
    find (λ a. not (bytes_eq a all)) (read.architecture ∷ []) ≡ given
architecture-one read None is other = ap (λ (a : List ℕ). find (λ a. not (bytes_eq a all)) (a ∷ [])) is
architecture-one read (Some given) is other =
    let differs : bytes_eq given all ≡ false = false_from_ne_true _ (λ e. other (ap (λ (a : List ℕ). Some a) ((bytes_eq-Decides given all).0 e))) in
    ap (λ (a : List ℕ). find (λ a. not (bytes_eq a all)) (a ∷ [])) is
    ∙ ap (λ b. cond (not b) (Some given) None) differs

architecture-more : (reads : List Read) (read : Read) (given : Option (List ℕ)) → read.architecture ≡ unwrap_or given all → given ≢ Some all →
    architecture_of (reads ++ read ∷ []) ≡ option_or (architecture_of reads) given
architecture-more reads read given is other =
    let arch : Read → List ℕ = λ r. r.architecture in
    ap (find (λ a. not (bytes_eq a all))) (map-append arch reads (read ∷ []))
    ∙ find-append (λ a. not (bytes_eq a all)) (map arch reads) (read.architecture ∷ [])
    ∙ ap (option_or (architecture_of reads)) (architecture-one read given is other)

-- ---- what the builder holds

-- a held package and its line are those of the first read of its name and an equal version
pub record IsFirstRead (reads : List Read) (h : Held) : Type 0 where
  pub before : List Read
  pub read : Read
  pub after : List Read
  pub pieces : reads ≡ before ++ read ∷ after
  pub package_is : read.package_ ≡ h.0
  pub line_is : read.line ≡ h.1
  pub first : All (λ r. ¬ IsSamePackage r.package_ h.0) before

pub record IsKept (reads : List Read) (held : List Held) : Type 0 where
  pub firsts : All (IsFirstRead reads) held
  pub complete : All (λ read. Any (λ h. h.0 ≡ read.package_) held) reads

kept-none : IsKept [] []
kept-none = record { firsts = All-nil (IsFirstRead []); complete = All-nil (λ read. Any (λ h. h.0 ≡ read.package_) []) }

first-push : (reads : List Read) (read : Read) (h : Held) → IsFirstRead reads h → IsFirstRead (reads ++ read ∷ []) h
first-push reads read h is = record {
  before = is.before;
  read = is.read;
  after = is.after ++ read ∷ [];
  pieces = ap (λ l. l ++ read ∷ []) is.pieces ∙ append_assoc is.before (is.read ∷ is.after) (read ∷ []);
  package_is = is.package_is;
  line_is = is.line_is;
  first = is.first;
}

grown : (old new : List Held) (h : Held) (p : Package) → IsPermutation (h ∷ old) new → Any (λ k. k.0 ≡ p) old → Any (λ k. k.0 ≡ p) new
grown old new h p perm a =
    let c = Contains-permutation (h ∷ old) new a.1 perm (suc a.0, omega (arith, a.2), a.3) in
    (c.0, a.1, c.1, c.2, a.4)

kept-more : (reads : List Read) (old new : List Held) (read : Read) → IsKept reads old → Adds old new read.package_ read.line → IsKept (reads ++ read ∷ []) new
kept-more reads old new read kept adds =
    let pushed = All-weaker (IsFirstRead reads) (IsFirstRead (reads ++ read ∷ [])) (first-push reads read) old kept.firsts in
    elim adds.held [
      | inl same ↦
          let P : List Held → Type 0 = IsKept (reads ++ read ∷ []) in
          subst P (sym same.1) (record {
            firsts = pushed;
            complete = All-push (λ r. Any (λ h. h.0 ≡ r.package_) old) reads read kept.complete same.0;
          })
      | inr fresh ↦
          let here : Held = (read.package_, read.line) in
          let alone : All (λ r. ¬ IsSamePackage r.package_ read.package_) reads =
          All-weaker (λ r. Any (λ h. h.0 ≡ r.package_) old) (λ r. ¬ IsSamePackage r.package_ read.package_)
          (λ r a same. let Q : Package → Type 0 = λ q. IsSamePackage q read.package_ in fresh.0 (a.0, a.1, a.2, a.3, subst Q (sym a.4) same)) reads
          kept.complete in
          let first : IsFirstRead (reads ++ read ∷ []) here = record {
            before = reads;
            read = read;
            after = [];
            pieces = refl;
            package_is = refl;
            line_is = refl;
            first = alone;
          } in
          let front = Contains-permutation (here ∷ old) new here fresh.1 (0, omega arith, refl) in
          record {
            firsts = All-permutation (IsFirstRead (reads ++ read ∷ [])) (here ∷ old) new fresh.1
                (All-cons (IsFirstRead (reads ++ read ∷ [])) here old first pushed);
            complete = All-push (λ r. Any (λ h. h.0 ≡ r.package_) new) reads read
                (All-weaker (λ r. Any (λ h. h.0 ≡ r.package_) old) (λ r. Any (λ h. h.0 ≡ r.package_) new) (λ r a. grown old new here r.package_ fresh.1 a) reads
                kept.complete)
                (front.0, here, front.1, front.2, refl);
          }
    ]

same-both : (r h p : Package) → IsSamePackage r p → IsSamePackage h p → IsSamePackage r h
same-both r h p first second =
    (first.0 ∙ sym second.0, version_total.congr r.version p.version h.version first.1 ∙ tied_back version_total h.version p.version second.1)

-- a held package that clashes is that of the first read of this name and an equal version
clash-of : (reads : List Read) (held : List Held) (p : Package) (line : ℕ) → IsKept reads held → IsClashAt held p line → IsClash reads p line
clash-of reads held p line kept at =
    let h = at.1 in
    let is : IsFirstRead reads h = All-contains (IsFirstRead reads) held h kept.firsts (at.0, at.2, at.3) in
    let same = at.4 in
    let Q : Package → Type 0 = λ q. IsSamePackage q p in
    record {
      before = is.before;
      kept = is.read;
      after = is.after;
      pieces = is.pieces;
      first = All-weaker (λ r. ¬ IsSamePackage r.package_ h.0) (λ r. ¬ IsSamePackage r.package_ p)
          (λ r none also. none (same-both r.package_ h.0 p also same.0)) is.before is.first;
      same = subst Q (sym is.package_is) same.0;
      differs = λ e. same.1 (sym is.package_is ∙ e);
      line_is = sym same.2 ∙ sym is.line_is;
    }

at-middle : (before : List Read) (read : Read) (after reads : List Read) → reads ≡ before ++ read ∷ after → Contains reads read
at-middle before read after reads pieces = (
  length before,
  omega (arith, ap length pieces, length-append before (read ∷ after)),
  ap (λ l. get_or l (length before) read) pieces ∙ get_or_at before read after read (length before) refl,
)

-- where no held package clashes, no read does
free-of : (reads : List Read) (held : List Held) (p : Package) → IsKept reads held → ((line : ℕ) → ¬ IsClashAt held p line) → (line : ℕ)
    → ¬ IsClash reads p line
free-of reads held p kept alone line clash =
    let P : Read → Type 0 = λ read. Any (λ h. h.0 ≡ read.package_) held in
    let there = at-middle clash.before clash.kept clash.after reads clash.pieces in
    let a = All-contains P reads clash.kept kept.complete there in
    let Q : Package → Type 0 = λ q. IsSamePackage q p in
    alone a.1.1 (a.0, a.1, a.2, a.3, (subst Q (sym a.4) clash.same, (λ e. clash.differs (sym a.4 ∙ e)), refl))

-- a list that is not other than empty is empty
none-left : (left : List RawStanza) → ¬ (left ≢ []) → left ≡ []
none-left [] none = refl
none-left (raw ∷ left) none = absurd (none (λ is. cc))

first-any : (reads : List Read) (h : Held) → IsFirstRead reads h → Any (λ read. read.package_ ≡ h.0) reads
first-any reads h is =
    let c = at-middle is.before is.read is.after reads is.pieces in (c.0, is.read, c.1, c.2, is.package_is)

held-contains : (held : List Held) (p : Package) → Any (λ h. h.0 ≡ p) held → Contains (packages_of held) p
held-contains held p a =
    let P : Package → Type 0 = λ q. Contains (packages_of held) q in
    subst P a.4 (
      a.0,
      omega (arith, a.2, length-map held (λ (h : Held). h.0)),
      get_or-map (λ (h : Held). h.0) held a.0 a.1 a.1.0 a.2 ∙ ap (λ (h : Held). h.0) a.3,
    )

-- ---- the loop

pub record IsFileSoFar (text : List ℕ) (limit : ℕ) (reader : Unread) (held : List Held) (architecture : Option (List ℕ)) (count : ℕ) : Type 0 where
  pub reads : List Read
  pub done : List RawStanza
  pub cut : raw_stanzas text ≡ done ++ reader.left
  pub read : AreRead done reads
  pub kept : IsKept reads held
  pub architecture_is : architecture ≡ architecture_of reads
  pub counted : count ≡ length reads
  pub within : count ≤ limit
  pub going : reader.refused ≡ false
  pub few : length held ≤ count

pub file-none : (text : List ℕ) (limit : ℕ) (reader : Unread) → reader ≡ record { left = raw_stanzas text; refused = false }
    → IsFileSoFar text limit reader [] None 0
file-none text limit reader is = record {
  reads = [];
  done = [];
  cut = sym (ap (λ (r : Unread). r.left) is);
  read = tt;
  kept = kept-none;
  architecture_is = refl;
  counted = refl;
  within = omega arith;
  going = ap (λ (r : Unread). r.refused) is;
  few = omega arith;
}

-- a stanza as it reads
abbrev read_of : Described → Read
read_of d = record { line = d.line; package_ = d.package_; architecture = unwrap_or d.architecture all }

module _ (text : List ℕ) (limit : ℕ) (old : Unread) (held : List Held) (architecture : Option (List ℕ)) (count : ℕ)
    (so_far : IsFileSoFar text limit old held architecture count) where
  pub too-many : HasNext old → count ≡ limit → IsTooMany (raw_stanzas text) limit
  too-many next at =
      let cases : (left : List RawStanza) → old.left ≡ left → IsTooMany (raw_stanzas text) limit = λ left.
      elim left as (λ l. old.left ≡ l → IsTooMany (raw_stanzas text) limit) [
        | [] ↦ λ is. absurd (next.left is)
        | raw ∷ rest ↦ λ is. record {
          raw = raw;
          reads = so_far.reads;
          up_to = record { before = so_far.done; after = rest; pieces = so_far.cut ∙ ap (λ l. so_far.done ++ l) is; read = so_far.read };
          at_limit = sym so_far.counted ∙ at;
        }
      ] in
      cases old.left refl

  pub file-fault : (fault : Fault) → ¬ (count ≡ limit) → IsFaulty architecture old fault → HasPackagesFault (raw_stanzas text) limit fault
  file-fault fault other faulty =
      record {
        raw = faulty.raw;
        reads = so_far.reads;
        up_to = record { before = so_far.done; after = faulty.rest; pieces = so_far.cut ∙ ap (λ l. so_far.done ++ l) faulty.left; read = so_far.read };
        within = omega (arith, so_far.counted, so_far.within, other);
        has = elim faulty.cause [
          | inl of_line ↦ inl of_line
          | inr of_field ↦
              let P : Option (List ℕ) → Type 0 = λ a. HasFieldFault a of_field.0 fault in
              inr (inl (of_field.0, of_field.1, subst P so_far.architecture_is of_field.2))
        ];
      }

  module _ (new : Unread) (d : Described) (gives : GivesPackage architecture old new d) where
    has-package : HasPackage so_far.reads gives.raw (read_of d)
    has-package = record {
      stanza = gives.stanza;
      reading = gives.reading;
      is_package = let P : Option (List ℕ) → Type 0 = λ a. IsPackageOf a gives.stanza d.package_ (unwrap_or d.architecture all) in
          subst P so_far.architecture_is gives.is_package;
      line_is = gives.line_is;
    }

    pub file-clash : (fault : Fault) → ¬ (count ≡ limit) → IsClashFault held d.package_ d.line fault → HasPackagesFault (raw_stanzas text) limit fault
    file-clash fault other clash = record {
      raw = gives.raw;
      reads = so_far.reads;
      up_to = record { before = so_far.done; after = new.left; pieces = so_far.cut ∙ ap (λ l. so_far.done ++ l) gives.left; read = so_far.read };
      within = omega (arith, so_far.counted, so_far.within, other);
      has = inr (inr (
        read_of d,
        clash.0,
        has-package,
        clash-of so_far.reads held d.package_ clash.0 so_far.kept clash.1,
        clash.2 ∙ ap (λ n. fault_on n (Clash clash.0)) gives.line_is,
      ));
    }

    pub file-more : (more : List Held) (now : Option (List ℕ)) → ¬ (count ≡ limit) → Adds held more d.package_ d.line
        → now ≡ option_or architecture d.architecture →
        IsFileSoFar text limit new more now (count + 1)
    file-more more now other adds now_is = record {
      reads = so_far.reads ++ read_of d ∷ [];
      done = so_far.done ++ gives.raw ∷ [];
      cut = so_far.cut ∙ ap (λ l. so_far.done ++ l) gives.left ∙ sym (append_assoc so_far.done (gives.raw ∷ []) new.left);
      read = read-snoc [] so_far.done so_far.reads gives.raw (read_of d) so_far.read
          (record { has = has-package; free = free-of so_far.reads held d.package_ so_far.kept adds.alone });
      kept = kept-more so_far.reads held more (read_of d) so_far.kept adds;
      architecture_is = now_is ∙ ap (λ a. option_or a d.architecture) so_far.architecture_is
          ∙ sym (architecture-more so_far.reads (read_of d) d.architecture refl gives.not_all);
      counted = omega (arith, so_far.counted, length_push so_far.reads (read_of d));
      within = omega (arith, so_far.within, other);
      going = gives.going;
      few = elim adds.held [
        | inl same ↦ omega (arith, ap length same.1, so_far.few)
        | inr fresh ↦ omega (arith, length_permutation ((d.package_, d.line) ∷ held) more fresh.1, so_far.few)
      ];
    }

  pub file-all : (repository : PackageList) → ¬ HasNext old → repository.packages ≡ packages_of held → repository.architecture ≡ architecture
      → IsInOrder (packages_of held) →
      IsRepositoryOf text limit repository
  file-all repository none packages_is architecture_is in_order =
      let empty : old.left ≡ [] = none-left old.left (λ some. none (record { left = some; going = so_far.going })) in
      let whole : raw_stanzas text ≡ so_far.done = so_far.cut ∙ ap (λ l. so_far.done ++ l) empty ∙ append-nil so_far.done in
      let P : List RawStanza → Type 0 = λ raws. AreRead raws so_far.reads in
      let I : List Package → Type 0 = IsInOrder in
      let From : List Package → Type 0 = All (λ p. Any (λ read. read.package_ ≡ p) so_far.reads) in
      let There : List Package → Type 0 = λ ps. All (λ read. Contains ps read.package_) so_far.reads in
      record {
        reads = so_far.reads;
        read = subst P (sym whole) so_far.read;
        within = omega (arith, so_far.counted, so_far.within);
        in_order = subst I (sym packages_is) in_order;
        from_stanzas = subst From (sym packages_is) (All-map (λ p. Any (λ read. read.package_ ≡ p) so_far.reads) (λ (h : Held). h.0) held
            (All-weaker (IsFirstRead so_far.reads) (λ h. Any (λ read. read.package_ ≡ h.0) so_far.reads) (first-any so_far.reads) held so_far.kept.firsts));
        all_stanzas = subst There (sym packages_is) (All-weaker (λ read. Any (λ h. h.0 ≡ read.package_) held)
            (λ read. Contains (packages_of held) read.package_)
            (λ read a. held-contains held read.package_ a) so_far.reads so_far.kept.complete);
        architecture = architecture_is ∙ so_far.architecture_is;
      }

-- the packages are no more than the stanzas
pub file-fewer : (text : List ℕ) (limit : ℕ) (old : Unread) (held : List Held) (architecture : Option (List ℕ)) (count : ℕ) →
    IsFileSoFar text limit old held architecture count → (packages : List Package) → packages ≡ packages_of held → length packages ≤ limit
file-fewer text limit old held architecture count so_far packages is =
    omega (arith, ap length is, length-map held (λ (h : Held). h.0), so_far.few, so_far.within)

-- an error that tells a fault tells the first fault of the file
pub refused : (raws : List RawStanza) (limit : ℕ) (P : Fault → Type 0) → ((fault : Fault) → P fault → HasPackagesFault raws limit fault) →
    (error : PackagesError) → IsBad P error → IsRefused raws limit error
refused raws limit P first (Bad fault) bad = first fault bad
refused raws limit P first TooMany bad = absurd bad
refused raws limit P first NoMemory bad = absurd bad
