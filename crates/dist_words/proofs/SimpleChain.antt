-- The simple command, from the calls that make it.
use Rattle.std.proofs.Common.{◌≡◌, ◌∙◌, ap, ap₂, zero, suc, List, [], ◌∷◌, refl, sym, inl, inr, arith, codes, slice_index}
use Rattle.std.specs.List.{All}
use Rattle.std.proofs.lemmas.List.Elements.{All-nil}
use Rattle.clap.specs.Built.{AddsArg, FitsChain}
use Rattle.clap.specs.Simple.{with_rule}
use Rattle.clap.specs.Walk.{Rule, Text}
use Rattle.clap.specs.declared.builder.arg.Arg.{Arg}
use Rattle.clap.specs.declared.builder.command.Command.{Command}
use Rattle.dist_base.specs.declared.TheConstants.{MAX_LIMIT, MAX_SIZE}
use Rattle.dist_words.specs.Clap.{command_rule, files_rule, essential_rule, number_option, package_rule}
use Rattle.dist_base.specs.declared.TheConstants.{MAX_MOST}
use Rattle.dist_words.specs.SimpleCommandPrivate.{IsArg, IsSimpleCommand, IsStart}

-- ---- one argument

-- an id that begins with a byte other than the first of `help` and of `version`
pub fits : (a : Arg) (rule : Rule) → IsArg a rule → ¬ (slice_index rule.id 0 ≡ 0) → ¬ (slice_index rule.id 0 ≡ 104) → ¬ (slice_index rule.id 0 ≡ 118)
    → FitsChain a
fits a rule is not_empty not_help not_version =
    let id : a.id.now ≡ rule.id = ap (λ (r : Rule). r.id) is.rule_is in (
      is.plain,
      is.not_global,
      (λ e. not_empty (ap (λ (t : Text). slice_index t 0) (sym id ∙ e))),
      (λ auto. elim auto [
        | inl h ↦ not_help (ap (λ (t : Text). slice_index t 0) (sym id ∙ h))
        | inr h ↦ not_version (ap (λ (t : Text). slice_index t 0) (sym id ∙ h))
      ]),
    )

-- ---- the command

-- the eight arguments, added to it
pub made : (start c1 c2 c3 c4 c5 c6 c7 c8 : Command) (command files limit size seed essential named most : Arg) → IsStart start
    → IsArg command command_rule → IsArg files files_rule → IsArg limit (number_option (codes "limit") 1 MAX_LIMIT)
    → IsArg size (number_option (codes "size") 1 MAX_SIZE)
    → IsArg seed (number_option (codes "seed") 0 4294967295) → IsArg essential essential_rule → IsArg named package_rule
    → IsArg most (number_option (codes "most") 0 MAX_MOST)
    → AddsArg start command c1 → AddsArg c1 files c2 → AddsArg c2 limit c3 → AddsArg c3 size c4 → AddsArg c4 seed c5 → AddsArg c5 essential c6
    → AddsArg c6 named c7 → AddsArg c7 most c8 → IsSimpleCommand c8
made start c1 c2 c3 c4 c5 c6 c7 c8 command files limit size seed essential named most s is1 is2 is3 is4 is5 is6 is7 is8 a1 a2 a3 a4 a5 a6 a7 a8 = record {
  app = a8.shape is8.not_global ∙ ap₂ with_rule
      (a7.shape is7.not_global ∙ ap₂ with_rule
      (a6.shape is6.not_global ∙ ap₂ with_rule
      (a5.shape is5.not_global ∙ ap₂ with_rule
      (a4.shape is4.not_global ∙ ap₂ with_rule
      (a3.shape is3.not_global ∙ ap₂ with_rule
      (a2.shape is2.not_global ∙ ap₂ with_rule
      (a1.shape is1.not_global ∙ ap₂ with_rule s.app is1.rule_is) is2.rule_is) is3.rule_is) is4.rule_is) is5.rule_is) is6.rule_is) is7.rule_is) is8.rule_is;
  start = start;
  arguments = command ∷ files ∷ limit ∷ size ∷ seed ∷ essential ∷ named ∷ most ∷ [];
  chain = (c1, a1, (c2, a2, (c3, a3, (c4, a4, (c5, a5, (c6, a6, (c7, a7, (c8, a8, refl))))))));
  no_arguments = s.no_arguments;
  no_groups = s.no_groups;
  no_globals = s.no_globals;
  no_negation = s.no_negation;
  fit = all_eight command files limit size seed essential named most
      (fits command command_rule is1 (λ e. omega (arith, e)) (λ e. omega (arith, e)) (λ e. omega (arith, e)))
      (fits files files_rule is2 (λ e. omega (arith, e)) (λ e. omega (arith, e)) (λ e. omega (arith, e)))
      (fits limit (number_option (codes "limit") 1 MAX_LIMIT) is3 (λ e. omega (arith, e)) (λ e. omega (arith, e)) (λ e. omega (arith, e)))
      (fits size (number_option (codes "size") 1 MAX_SIZE) is4 (λ e. omega (arith, e)) (λ e. omega (arith, e)) (λ e. omega (arith, e)))
      (fits seed (number_option (codes "seed") 0 4294967295) is5 (λ e. omega (arith, e)) (λ e. omega (arith, e)) (λ e. omega (arith, e)))
      (fits essential essential_rule is6 (λ e. omega (arith, e)) (λ e. omega (arith, e)) (λ e. omega (arith, e)))
      (fits named package_rule is7 (λ e. omega (arith, e)) (λ e. omega (arith, e)) (λ e. omega (arith, e)))
      (fits most (number_option (codes "most") 0 MAX_MOST) is8 (λ e. omega (arith, e)) (λ e. omega (arith, e)) (λ e. omega (arith, e)));
  rules = rw (is1.rule_is, is2.rule_is, is3.rule_is, is4.rule_is, is5.rule_is, is6.rule_is, is7.rule_is, is8.rule_is) refl;
}
  where
    one_more : (x : Arg) (xs : List Arg) → FitsChain x → All FitsChain xs → All FitsChain (x ∷ xs)
    one_more x xs first rest zero d lt = first
    one_more x xs first rest (suc k) d lt = rest k d (omega arith)

    all_eight : (a b c d e f g h : Arg) → FitsChain a → FitsChain b → FitsChain c → FitsChain d → FitsChain e → FitsChain f → FitsChain g
        → FitsChain h → All FitsChain (a ∷ b ∷ c ∷ d ∷ e ∷ f ∷ g ∷ h ∷ [])
    all_eight a b c d e f g h fa fb fc fd fe ff fg fh =
        one_more a (b ∷ c ∷ d ∷ e ∷ f ∷ g ∷ h ∷ []) fa (one_more b (c ∷ d ∷ e ∷ f ∷ g ∷ h ∷ []) fb (one_more c (d ∷ e ∷ f ∷ g ∷ h ∷ []) fc
        (one_more d (e ∷ f ∷ g ∷ h ∷ []) fd (one_more e (f ∷ g ∷ h ∷ []) fe (one_more f (g ∷ h ∷ []) ff (one_more g (h ∷ []) fg
        (one_more h [] fh (All-nil FitsChain))))))))
