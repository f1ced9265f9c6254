use Rattle.std.proofs.Common.{◌≡◌, ◌++◌, take}
use Rattle.dist_cert.specs.Form.{words_text, plains}
use Rattle.dist_cert.proofs.line_text.add_numbers.Given as goal

-- what is before the place was added
abbrev pub invariant-loop-number : goal.invariant-loop-number
invariant-loop-number l = l.text.items ≡ l.fn.text.items ++ words_text (plains (take l.number-index l.numbers))
