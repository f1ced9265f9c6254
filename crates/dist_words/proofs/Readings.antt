-- What the getters of the simple command read, by the rows of the matches.
use Rattle.std.proofs.Common.{◌≡◌, ◌≤◌, ◌<◌, ◌^◌, ◌∙◌, ap, ℕ, zero, suc, Bool, true, false, ◌||◌, List, [], ◌∷◌, length, map, Option, Some, None, Result, Ok}
use Rattle.std.proofs.Common.{IfSome, refl, sym, subst, arith, Bor, codes}
use Rattle.std.specs.List.{slice_index_or}
use Rattle.std.specs.Prelude.{option_map, unwrap_or, pos}
use Rattle.std.specs.Str.{bytes_eq}
use Rattle.std.specs.Str.Parse.{ParsesUnsigned, digits_value, without_leading_plus}
use Rattle.std.proofs.lemmas.List.{length-map}
use Rattle.std.proofs.lemmas.Slice.Eq.{bytes_eq-Decides}
use Rattle.clap.specs.Lexer.{without_minus}
use Rattle.clap.specs.Matches.{found_of, one_text, ReadsOne}
use Rattle.clap.specs.Values.{Accepts, read_as, reading_of}
use Rattle.clap.specs.Walk.{Row, Rule, Text, all_of, first_of, one_of, rows_of, rule_of}
use Rattle.clap.specs.declared.builder.arg.Arg.{Arg}
use Rattle.clap.specs.declared.builder.value_parser.ValueParser.{ValueParser}
use Rattle.clap.specs.declared.builder.value_parser.ValueParser.TheVariants as values
use Rattle.clap.specs.declared.parser.matches.ArgMatches.{ArgMatches}
use Rattle.clap.proofs.CallerReads.{signed_reads}
use Rattle.clap.proofs.WalkLemmas.{one_text-rows}
use Rattle.dist_base.specs.declared.TheConstants.{MAX_LIMIT, MAX_SIZE}
use Rattle.dist_words.specs.Clap.{Options as Chosen, option_number, options_of, simple_command, taken_of}
use Rattle.dist_words.specs.Lines.{IsLimit, IsSize}
use Rattle.dist_base.specs.declared.TheConstants.{MAX_MOST}
use Rattle.dist_words.specs.SimpleCommandPrivate.{IsMatched}
use Rattle.dist_words.specs.Table.{accepted, in_table}
use Rattle.dist_words.proofs.Chain.{alone, read_passes}

-- ---- the table's arguments

pub word_is : (found : Option (Bor Text)) (empty word : Bor Text) (first : Option Text) → word ≡ unwrap_or found empty → empty.now ≡ []
    → option_map (λ s. s.now) found ≡ first → word.now ≡ unwrap_or first []
word_is None empty word first is none same = ap (λ (b : Bor Text). b.now) is ∙ none ∙ ap (λ (o : Option Text). unwrap_or o []) same
word_is (Some s) empty word first is none same = ap (λ (b : Bor Text). b.now) is ∙ ap (λ (o : Option Text). unwrap_or o []) same

pub in_table_is : (rows : List Row) (word : Text) (files : List Text) (options : Chosen) → word ≡ unwrap_or (first_of (codes "command") rows) []
    → files ≡ unwrap_or (all_of (codes "files") rows) [] → options ≡ options_of rows → in_table word files options ≡ accepted (taken_of rows)
in_table_is rows word files options w f o = rw (w, f, o) refl

-- ---- one argument

at_place : (xs : List Arg) (k : ℕ) (d : Arg) → k < length xs → rule_of (slice_index_or xs k d) ≡ slice_index_or (map rule_of xs) k (rule_of d)
at_place [] k d lt = absurd (omega arith)
at_place (x ∷ xs) zero d lt = refl
at_place (x ∷ xs) (suc k) d lt = at_place xs k d (omega arith)

-- the argument of this place has this rule, and an id of its own
pub record IsAt (k : ℕ) (rule : Rule) : Type 0 where
  pub within : k < 8
  pub is : (d : Rule) → slice_index_or simple_command.top.rules k d ≡ rule
  pub own : alone k rule.id simple_command.top.rules ≡ true

some_arg : (xs : List Arg) → length xs ≡ 8 → Arg
some_arg [] len = absurd (omega arith)
some_arg (x ∷ xs) len = x

-- the text that is read of an argument passed its parser
pub passes : (m : ArgMatches) → IsMatched m → (k : ℕ) (rule : Rule) → IsAt k rule → (q : ValueParser) → rule.parser ≡ Some q
    → (t : Text) → one_text (found_of m) rule.id ≡ Some t → (w : Text) × (t ≡ read_as (reading_of q) w) × Accepts rule.ignore_case q w
passes m matched k rule at q parser t is =
    let s = matched.simple in
    let xs = s.arguments in
    let len : length xs ≡ 8 = sym (length-map xs rule_of) ∙ ap length s.rules in
    let d = some_arg xs len in
    let lt : k < length xs = omega (arith, at.within, len) in
    let here : rule_of (slice_index_or xs k d) ≡ rule = at_place xs k d lt ∙ ap (λ rs. slice_index_or rs k (rule_of d)) s.rules ∙ at.is (rule_of d) in
    let id : (slice_index_or xs k d).id.now ≡ rule.id = ap (λ (r : Rule). r.id) here in
    let own : alone k (slice_index_or xs k d).id.now (map rule_of xs) ≡ true = rw (id, s.rules) at.own in
    let parser_is : (slice_index_or xs k d).value_parser ≡ Some q = ap (λ (r : Rule). r.parser) here ∙ parser in
    let case_is : (slice_index_or xs k d).ignore_case ≡ rule.ignore_case = ap (λ (r : Rule). r.ignore_case) here in
    let got = read_passes s.start matched.command xs k d m s.chain s.no_arguments s.no_groups s.no_globals s.no_negation s.fit lt own q parser_is matched.parsed
    t
    (rw id is) in
    (got.0, got.1, subst (λ (c : Bool). Accepts c q got.0) case_is got.2)

-- how a number of 32 bits is read
abbrev pub ReadsNumber : {E : Type 0} → Text → Result ℕ E → Type 0
ReadsNumber text r = ParsesUnsigned 32 10 text r

-- a number option is read as the rows give it, and within its bounds
pub number_read : {E : Type 0} (G : Text → Result ℕ E → Type 0) (m : ArgMatches) → IsMatched m → (k : ℕ) (rule : Rule) (least greatest : ℕ) → IsAt k rule
    → rule.parser ≡ Some (values.Signed (pos least) (pos greatest)) → greatest < 2 ^ 32 → ((u : Text) (x : Result ℕ E) → G u x → ParsesUnsigned 32 10 u x)
    → (r : Option ℕ) → (one_text (found_of m) rule.id ≡ None → r ≡ None) → ((t : Text) → one_text (found_of m) rule.id ≡ Some t → ReadsOne G t r)
    → (r ≡ option_number rule.id (rows_of (found_of m))) × IfSome r (λ n. (least ≤ n) × (n ≤ greatest))
number_read {E} G m matched k rule least greatest at parser fits only r none some = go (one_text (found_of m) rule.id) refl
  where
    number : Option Text → Option ℕ
    number = option_map (λ text. digits_value 10 (without_leading_plus text))

    value : (t : Text) (n : ℕ) → ReadsOne G t (Some n) → n ≡ digits_value 10 (without_leading_plus t)
    value t n read = (only t (Ok n) read).1

    with : (t : Text) (o : Option ℕ) (n : ℕ) → o ≡ Some n → ReadsOne G t o → o ≡ Some (digits_value 10 (without_leading_plus t))
    with t o n is read = is ∙ ap Some (value t n (subst (λ (p : Option ℕ). ReadsOne G t p) is read))

    go : (o : Option Text) → one_text (found_of m) rule.id ≡ o
        → (r ≡ option_number rule.id (rows_of (found_of m))) × IfSome r (λ n. (least ≤ n) × (n ≤ greatest))
    go None e = (
      none e ∙ sym (ap number (sym (one_text-rows (found_of m) rule.id) ∙ e)),
      subst (λ (o : Option ℕ). IfSome o (λ n. (least ≤ n) × (n ≤ greatest))) (sym (none e)) tt,
    )
    go (Some t) e =
        let got = passes m matched k rule at (values.Signed (pos least) (pos greatest)) parser t e in
        let read : ReadsOne G (without_minus got.0) r = subst (λ (u : Text). ReadsOne G u r) got.1 (some t e) in
        let n = signed_reads E G 32 least greatest got.0 r read only fits got.2 in
        let rows : option_number rule.id (rows_of (found_of m)) ≡ Some (digits_value 10 (without_leading_plus t)) =
        ap number (sym (one_text-rows (found_of m) rule.id) ∙ e) in
        (with t r n.0 n.1 (some t e) ∙ sym rows, subst (λ (o : Option ℕ). IfSome o (λ n. (least ≤ n) × (n ≤ greatest))) (sym n.1) (n.2, n.3))

-- the flag is read as the rows give it
pub flag_read : (m : ArgMatches) → IsMatched m → (k : ℕ) (rule : Rule) → IsAt k rule → rule.parser ≡ Some values.Bool
    → (r : Bool) → (one_text (found_of m) rule.id ≡ None → r ≡ false) → (one_text (found_of m) rule.id ≡ Some (codes "true") → r ≡ true)
    → (one_text (found_of m) rule.id ≡ Some (codes "false") → r ≡ false)
    → r ≡ bytes_eq (unwrap_or (one_of rule.id (rows_of (found_of m))) []) (codes "true")
flag_read m matched k rule at parser r none if_true if_false = go (one_text (found_of m) rule.id) refl
  where
    text : Option Text → Bool
    text o = bytes_eq (unwrap_or o []) (codes "true")

    words : (t : Text) → one_text (found_of m) rule.id ≡ Some t → (b : Bool) → bytes_eq t (codes "true") ≡ b
        → (bytes_eq t (codes "true") || bytes_eq t (codes "false")) ≡ true
        → r ≡ bytes_eq t (codes "true")
    words t e true is passed = if_true (e ∙ ap Some ((bytes_eq-Decides t (codes "true")).0 is)) ∙ sym is
    words t e false is passed = if_false (e ∙ ap Some ((bytes_eq-Decides t (codes "false")).0 (rw is at passed))) ∙ sym is

    go : (o : Option Text) → one_text (found_of m) rule.id ≡ o → r ≡ bytes_eq (unwrap_or (one_of rule.id (rows_of (found_of m))) []) (codes "true")
    go None e = none e ∙ sym (ap text (sym (one_text-rows (found_of m) rule.id) ∙ e))
    go (Some t) e =
        let got = passes m matched k rule at values.Bool parser t e in
        let passed = subst (λ (u : Text). (bytes_eq u (codes "true") || bytes_eq u (codes "false")) ≡ true) (sym got.1) got.2 in
        words t e (bytes_eq t (codes "true")) refl passed ∙ sym (ap text (sym (one_text-rows (found_of m) rule.id) ∙ e))

pub size_of : (r : Option ℕ) → IfSome r (λ n. (1 ≤ n) × (n ≤ MAX_SIZE)) → IfSome r IsSize
size_of None h = tt
size_of (Some n) (least, greatest) = record { least = least; greatest = greatest }

pub most_of : (r : Option ℕ) → IfSome r (λ n. (0 ≤ n) × (n ≤ MAX_MOST)) → IfSome r (λ n. n ≤ MAX_MOST)
most_of None h = tt
most_of (Some n) (least, greatest) = greatest

pub limit_of : (r : Option ℕ) → IfSome r (λ n. (1 ≤ n) × (n ≤ MAX_LIMIT)) → IfSome r IsLimit
limit_of None h = tt
limit_of (Some n) (least, greatest) = record { least = least; greatest = greatest }

pub files_some : (found : Option (Bor (List (Bor Text)))) (files : Bor (List (Bor Text))) (all : Option (List Text)) → found ≡ Some files
    → option_map (λ (s : Bor (List (Bor Text))). map (λ (v : Bor Text). v.now) s.now) found ≡ all → map (λ (v : Bor Text). v.now) files.now ≡ unwrap_or all []
files_some found files all is same = ap (λ (o : Option (List Text)). unwrap_or o [])
    (sym (ap (option_map (λ (s : Bor (List (Bor Text))). map (λ (v : Bor Text). v.now) s.now)) is) ∙ same)

pub files_none : (found : Option (Bor (List (Bor Text)))) (all : Option (List Text)) → found ≡ None
    → option_map (λ (s : Bor (List (Bor Text))). map (λ (v : Bor Text). v.now) s.now) found ≡ all → [] ≡ unwrap_or all []
files_none found all is same = ap (λ (o : Option (List Text)). unwrap_or o [])
    (sym (ap (option_map (λ (s : Bor (List (Bor Text))). map (λ (v : Bor Text). v.now) s.now)) is) ∙ same)
