use Rattle.std.proofs.Common.{ap, ◌∙◌, ◌++◌, ◌∷◌, []}
use Rattle.std.proofs.lemmas.Result.{on_ok_weaker}
use Rattle.dist_cert.proofs.WritingLemmas.{five_pieces}
use Rattle.dist_cert.proofs.line_text.add_header_text.Goals as goal

pub returns : goal.returns
returns c = on_ok_weaker c.add_numbers.result
    (λ e. five_pieces c.args.text.now.items _ _ (32 ∷ []) _ _ _ _ _ _ _
    c.in_ok-extend_from_slice.ensures.items
    (c.in_ok-extend_from_slice-2.ensures.items ∙ ap (λ k. c.extend_from_slice.new.self.items ++ k) c.kind_word.ensures)
    c.in_ok-push.ensures.items
    (c.in_ok-extend_from_slice-3.ensures.items ∙ ap (λ k. c.push.new.self.items ++ k) c.mode_word.ensures)
    e)
    c.add_numbers.ensures
