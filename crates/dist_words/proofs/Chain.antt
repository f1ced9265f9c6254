-- What a chain of `.arg(..)` calls makes of a command, and what a getter reads of one of its arguments.
use Rattle.std.proofs.Common.{◌≡◌, ◌∙◌, ◌++◌, ◌<◌, ◌&&◌, ◌||◌, ap, suc, zero, ℕ, Bool, true, false, not, List, [], ◌∷◌, length, map, is_some, Option, Some}
use Rattle.std.proofs.Common.{None, refl, sym, subst, inl, inr, arith, append-nil, append_assoc}
use Rattle.std.specs.List.{All, slice_index_or}
use Rattle.std.specs.Prelude.{option_map, slice_get}
use Rattle.std.specs.Str.{bytes_eq}
use Rattle.std.proofs.lemmas.List.Elements.{All-nil}
use Rattle.std.specs.Borrow.{Bor}
use Rattle.clap.specs.declared.builder.value_parser.Reading.{Reading}
use Rattle.clap.specs.Built.{AddsArg, AddsInTurn, FitsChain, IsAuto, IsParsedFrom, IsPlain, IsPlainArg, KeepsList, SameRules}
use Rattle.clap.specs.Facts.{args_of, groups_of}
use Rattle.clap.specs.Matches.{found_of, first_value, matched_of, one_text}
use Rattle.clap.specs.Values.{Accepts, read_as, reading_of}
use Rattle.clap.specs.Walk.{Rule, Text, rule_of}
use Rattle.clap.specs.declared.builder.arg.Arg.{Arg}
use Rattle.clap.specs.declared.builder.command.Command.{Command}
use Rattle.clap.specs.declared.builder.command.Command.TheViews.{out-Command}
use Rattle.clap.specs.declared.builder.value_parser.ValueParser.{ValueParser}
use Rattle.clap.specs.declared.parser.matches.ArgMatches.{ArgMatches}
use Rattle.clap.specs.declared.parser.matches.Found.{Found}
use Rattle.clap.specs.declared.parser.matches.MatchedArg.{MatchedArg}
use Rattle.clap.proofs.CallerLemmas.{added_plain}
use Rattle.dist_words.proofs.Getters.{entry_read, only_reading, passes_read}

-- the rest of a list of which all pass
all_rest : {X : Type 0} (P : X → Type 0) (x : X) (xs : List X) → All P (x ∷ xs) → All P xs
all_rest P x xs h = λ k d lt. h (suc k) d (omega arith)

-- two lists with the same rules, place by place, keep them with one more before them
chain_places : (x y : Arg) (xs ys : List Arg) → SameRules x y
    → ((k : ℕ) (e g : Arg) → k < length xs → SameRules (slice_index_or xs k e) (slice_index_or ys k g))
    → (k : ℕ) (e g : Arg) → k < length (x ∷ xs) → SameRules (slice_index_or (x ∷ xs) k e) (slice_index_or (y ∷ ys) k g)
chain_places x y xs ys r rest zero e g lt = r
chain_places x y xs ys r rest (suc n) e g lt = rest n e g (omega arith)

-- what a chain of arguments keeps: the arguments that it adds, place by place, and a command of the same kind
pub chain_facts : (c d : Command) (xs : List Arg) → AddsInTurn AddsArg c xs d → All FitsChain xs → IsPlain c
    → (out-Command c).has_globals ≡ false → (out-Command c).subcommand_negates_reqs ≡ false
    → (ys : List Arg) × (args_of d ≡ args_of c ++ ys) × KeepsList xs ys × IsPlain d
    × ((out-Command d).has_globals ≡ false) × ((out-Command d).subcommand_negates_reqs ≡ false)
chain_facts c d [] h all plain globals negates =
    ([], rw h (sym (append-nil _)), (refl, (λ k e f lt. absurd (omega arith))), rw (← h) plain, rw (← h) globals, rw (← h) negates)
chain_facts c d (x ∷ xs) h all plain globals negates =
    let added = h.1 in
    let fit = all 0 x (omega arith) in
    let plain2 = added_plain c h.0 x added plain fit.0 in
    let globals2 = added.globals ∙ (ap (λ b. b || x.global) globals ∙ ap (λ b. false || b) fit.1) in
    let f = chain_facts h.0 d xs h.2 (all_rest FitsChain x xs all) plain2 globals2 (added.negates ∙ negates) in (
      added.arg ∷ f.0,
      f.1 ∙ (ap (λ l. l ++ f.0) added.args ∙ append_assoc (args_of c) (added.arg ∷ []) f.0),
      (ap suc f.2.0, chain_places x added.arg xs f.0 added.rules f.2.1),
      f.3,
      f.4,
      f.5,
    )

-- ---- an argument with an id of its own

-- no rule has the id
unfoldable pub no_rule : Text → List Rule → Bool
no_rule id [] = true
no_rule id (r ∷ rules) = not (bytes_eq r.id id) && no_rule id rules

-- no rule but the one at this place has the id
unfoldable pub alone : ℕ → Text → List Rule → Bool
alone k id [] = true
alone zero id (r ∷ rules) = no_rule id rules
alone (suc k) id (r ∷ rules) = not (bytes_eq r.id id) && alone k id rules

both : (a b : Bool) → (a && b) ≡ true → (a ≡ true) × (b ≡ true)
both true b e = (refl, e)
both false b e = cc

not_both : (a : Bool) → not a ≡ true → a ≡ true → ⊥
not_both true e f = cc
not_both false e f = cc

no_place : (xs : List Arg) (id : Text) → no_rule id (map rule_of xs) ≡ true → (j : ℕ) (e : Arg) → j < length xs
    → bytes_eq (slice_index_or xs j e).id.now id ≡ true → ⊥
unfolding no_rule
no_place [] id none j e lt same = omega arith
no_place (x ∷ xs) id none zero e lt same = not_both (bytes_eq x.id.now id) (both (not (bytes_eq x.id.now id)) (no_rule id (map rule_of xs)) none).0 same
no_place (x ∷ xs) id none (suc j) e lt same = no_place xs id (both (not (bytes_eq x.id.now id)) (no_rule id (map rule_of xs)) none).1 j e (omega arith) same

pub one_place : (xs : List Arg) (k : ℕ) (id : Text) → alone k id (map rule_of xs) ≡ true → (j : ℕ) (e : Arg) → j < length xs
    → bytes_eq (slice_index_or xs j e).id.now id ≡ true → j ≡ k
unfolding alone
one_place [] k id none j e lt same = absurd (omega arith)
one_place (x ∷ xs) zero id none zero e lt same = refl
one_place (x ∷ xs) zero id none (suc j) e lt same = absurd (no_place xs id none j e (omega arith) same)
one_place (x ∷ xs) (suc k) id none zero e lt same = absurd
    (not_both (bytes_eq x.id.now id) (both (not (bytes_eq x.id.now id)) (alone k id (map rule_of xs)) none).0 same)
one_place (x ∷ xs) (suc k) id none (suc j) e lt same = ap suc
    (one_place xs k id (both (not (bytes_eq x.id.now id)) (alone k id (map rule_of xs)) none).1 j e (omega arith) same)

-- ---- what a getter reads

one_is_first : (f : Found) (id t : Text) → one_text f id ≡ Some t → is_some (first_value f id) ≡ true
one_is_first f id t is = go (matched_of f id) refl is
  where
    values : (how : Reading) (vs : List (Bor Text)) → option_map (λ s. read_as how s.now) (slice_get vs 0) ≡ Some t
        → is_some (option_map (λ s. s.now) (slice_get vs 0)) ≡ true
    values how [] e = cc
    values how (v ∷ vs) e = refl

    go : (o : Option MatchedArg) → matched_of f id ≡ o → one_text f id ≡ Some t → is_some (first_value f id) ≡ true
    go None e h = let none : None ≡ Some t = rw e at h in cc
    go (Some a) e h = rw e (values a.reading a.vals.items (rw e at h))

-- The text that a getter reads of an argument with an id of its own and a parser passed that parser.
pub read_passes : (start command : Command) (xs : List Arg) (k : ℕ) (d : Arg) (m : ArgMatches) → AddsInTurn AddsArg start xs command
    → args_of start ≡ [] → groups_of start ≡ [] → (out-Command start).has_globals ≡ false → (out-Command start).subcommand_negates_reqs ≡ false
    → All FitsChain xs → k < length xs → alone k (slice_index_or xs k d).id.now (map rule_of xs) ≡ true
    → (q : ValueParser) → (slice_index_or xs k d).value_parser ≡ Some q → IsParsedFrom command m
    → (t : Text) → one_text (found_of m) (slice_index_or xs k d).id.now ≡ Some t
    → (w : Text) × (t ≡ read_as (reading_of q) w) × Accepts (slice_index_or xs k d).ignore_case q w
read_passes start command xs k d m chain args groups globals negates all lt own q parser p t is =
    let start-plain : IsPlain start = (subst (All IsPlainArg) (sym args) (All-nil IsPlainArg), groups) in
    let f = chain_facts start command xs chain all start-plain globals negates in
    let list : args_of command ≡ f.0 = f.1 ∙ ap (λ l. l ++ f.0) args in
    let a = slice_index_or xs k d in
    let b = slice_index_or (args_of command) k d in
    let elem : b ≡ slice_index_or f.0 k d = ap (λ l. slice_index_or l k d) list in
    let rules = f.2.1 k d d lt in
    let fit = all k d lt in
    let len : length (args_of command) ≡ length xs = ap length list ∙ f.2.0 in
    let in-command : k < length (args_of command) = omega arith in
    let same-id : b.id ≡ a.id = ap (λ x. x.id) elem ∙ rules.id in
    let same-now : b.id.now ≡ a.id.now = ap (λ x. x.now) same-id in
    let same-parser : b.value_parser ≡ Some q = ap (λ x. x.value_parser) elem ∙ rules.parser q parser in
    let same-case : b.ignore_case ≡ a.ignore_case = ap (λ x. x.ignore_case) elem ∙ rules.ignore_case in
    let only : (j : ℕ) (e : Arg) → j < length (args_of command) → bytes_eq (slice_index_or (args_of command) j e).id.now b.id.now ≡ true → j ≡ k =
    λ j e low same.
    let in-xs : j < length xs = omega arith in
    let there : (slice_index_or (args_of command) j e).id ≡ (slice_index_or xs j e).id =
    ap (λ x. x.id) (ap (λ l. slice_index_or l j e) list) ∙ (f.2.1 j e e in-xs).id in
    one_place xs k a.id.now own j e in-xs (rw (← ap (λ x. x.now) there, ← same-now) same) in
    let not-auto : IsAuto b → ⊥ = λ auto. fit.3 (elim auto [ inl h ↦ inl (sym same-now ∙ h) | inr h ↦ inr (sym same-now ∙ h) ]) in
    let parsed = p.parsed (p.from.globals ∙ f.4) in
    let here : one_text (found_of m) b.id.now ≡ Some t = subst (λ (i : Text). one_text (found_of m) i ≡ Some t) (sym same-now) is in
    let got = entry_read p.built (found_of m) b.id.now (λ (w : Text). Accepts b.ignore_case q w) (reading_of q)
    parsed.values (p.from.plain f.3).1 (λ empty. fit.2 (sym same-now ∙ empty)) (one_is_first (found_of m) b.id.now t here)
    (only_reading command m p k d in-command only not-auto q same-parser)
    (λ v pass. passes_read command m p k d in-command only not-auto q same-parser b.id.now v refl pass) in
    (got.0, some_same _ _ _ here got.1, subst (λ (c : Bool). Accepts c q got.0) same-case got.2)
  where
    some_same : (o : Option Text) (x y : Text) → o ≡ Some x → o ≡ Some y → x ≡ y
    some_same o x y e f = cc
