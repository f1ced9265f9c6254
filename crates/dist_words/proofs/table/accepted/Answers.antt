use Rattle.std.proofs.Common.{◌∙◌, refl, codes}
use Rattle.clap.specs.Matches.{found_of}
use Rattle.clap.specs.Walk.{rows_of}
use Rattle.clap.proofs.WalkLemmas.{first_value-rows, raw_values-rows}
use Rattle.dist_words.proofs.Readings.{word_is, in_table_is, files_some, files_none}
use Rattle.dist_words.proofs.table.accepted.Goals as goal

pub returns-in-Some-clause-command : goal.returns-in-Some-clause-command
returns-in-Some-clause-command c =
    let f = found_of c.args.matches.now in
    c.in_table.ensures.command ∙ in_table_is (rows_of f) _ _ _
    (word_is c.get_str.result _ c.unwrap_or-word.result _ c.unwrap_or-word.ensures refl (c.get_str.ensures ∙ first_value-rows f (codes "command")))
    (files_some c.get_strs.result c.in-Some.files _ c.in-Some.is (c.get_strs.ensures ∙ raw_values-rows f (codes "files")))
    c.options_of-options.ensures.options

pub returns-in-None-clause-command : goal.returns-in-None-clause-command
returns-in-None-clause-command c =
    let f = found_of c.args.matches.now in
    c.in_table-in-None.ensures.command ∙ in_table_is (rows_of f) _ _ _
    (word_is c.get_str.result _ c.unwrap_or-word.result _ c.unwrap_or-word.ensures refl (c.get_str.ensures ∙ first_value-rows f (codes "command")))
    (files_none c.get_strs.result _ c.in-None.is (c.get_strs.ensures ∙ raw_values-rows f (codes "files")))
    c.options_of-options.ensures.options
