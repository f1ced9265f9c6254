use Rattle.std.proofs.lemmas.Result.{IfOk-weaker}
use Rattle.dist_words.proofs.SimpleChain.{made}
use Rattle.dist_words.proofs.clap_command.simple_command.Goals as goal

pub returns : goal.returns
returns c =
    IfOk-weaker c.arg-8.result _ _ (λ command8 adds. made c.start.result c.in_ok-arg.field-0 c.in_ok-arg-2.field-0 c.in_ok-arg-3.field-0 c.in_ok-arg-4.field-0
    c.in_ok-arg-5.field-0 c.in_ok-arg-6.field-0 c.in_ok-arg-7.field-0 command8
    c.command_argument.result c.files_argument.result c.limit_option.result c.size_option.result c.seed_option.result c.essential_flag.result
    c.package_option.result c.most_option.result
    c.start.ensures c.command_argument.ensures c.files_argument.ensures c.limit_option.ensures c.size_option.ensures c.seed_option.ensures
    c.essential_flag.ensures c.package_option.ensures c.most_option.ensures
    c.in_ok-arg.ensures c.in_ok-arg-2.ensures c.in_ok-arg-3.ensures c.in_ok-arg-4.ensures c.in_ok-arg-5.ensures c.in_ok-arg-6.ensures
    c.in_ok-arg-7.ensures adds)
    c.arg-8.ensures
