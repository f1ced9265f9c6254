use Rattle.std.proofs.Common.{◌≡◌, ◌++◌, take}
use Rattle.dist_cert.specs.Form.{words_text}
use Rattle.dist_cert.proofs.line_text.add_literals.Given as goal

-- what is before the place was added
abbrev pub invariant-loop-literal : goal.invariant-loop-literal
invariant-loop-literal l = l.text.items ≡ l.fn.text.items ++ words_text (take l.literal-index l.literals)
