-- Worked examples of the table.
use Rattle.std.specs.Prelude.{◌≡◌, true, false, [], ◌∷◌, Some, None, codes, refl}
use Rattle.dist_words.specs.CommandLine.{CheckExplain, CheckRepair, Explain, Follow, Repair, Steps, Sweep, Try}
use Rattle.dist_cert.specs.declared.records.CertKind.TheVariants.{Strong, Challenged}
use Rattle.dist_words.specs.Clap.{Options}
use Rattle.dist_words.specs.Table.{in_table}

-- no option stands
abbrev no_option : Options
no_option = record { limit = None; size = None; seed = None; named = None; most = None; essential = false }

-- `strong f g`, with no limit
strong_by_default : in_table (codes "strong") (codes "f" ∷ codes "g" ∷ []) no_option
    ≡ Some (Sweep Strong (codes "f") (codes "g") false 10000)
strong_by_default = refl

-- `challenged f g --essential --limit 3`
challenged_has_options : in_table (codes "challenged") (codes "f" ∷ codes "g" ∷ [])
    (record no_option { limit = Some 3; essential = true })
    ≡ Some (Sweep Challenged (codes "f") (codes "g") true 3)
challenged_has_options = refl

-- `check f g --limit 3`
check_takes_no_limit : in_table (codes "check") (codes "f" ∷ codes "g" ∷ []) (record no_option { limit = Some 3 })
    ≡ None
check_takes_no_limit = refl

-- `check-explain f g`
check_explain_takes_two_files : in_table (codes "check-explain") (codes "f" ∷ codes "g" ∷ [])
    no_option ≡ Some (CheckExplain (codes "f") (codes "g"))
check_explain_takes_two_files = refl

-- `check-repair f g`
check_repair_takes_two_files : in_table (codes "check-repair") (codes "f" ∷ codes "g" ∷ [])
    no_option ≡ Some (CheckRepair (codes "f") (codes "g"))
check_repair_takes_two_files = refl

-- `explain f g --package a=1`
explain_names_a_package : in_table (codes "explain") (codes "f" ∷ codes "g" ∷ [])
    (record no_option { named = Some (codes "a=1") })
    ≡ Some (Explain (codes "f") (codes "g") (codes "a=1") 10000)
explain_names_a_package = refl

-- `repair f g --package a=1 --most 2`
repair_counts : in_table (codes "repair") (codes "f" ∷ codes "g" ∷ [])
    (record no_option { named = Some (codes "a=1"); most = Some 2 })
    ≡ Some (Repair (codes "f") (codes "g") (codes "a=1") 2 10000)
repair_counts = refl

-- `repair f g --package a=1`
repair_counts_to_eight : in_table (codes "repair") (codes "f" ∷ codes "g" ∷ [])
    (record no_option { named = Some (codes "a=1") })
    ≡ Some (Repair (codes "f") (codes "g") (codes "a=1") 8 10000)
repair_counts_to_eight = refl

-- `explain f g`
explain_needs_a_package : in_table (codes "explain") (codes "f" ∷ codes "g" ∷ []) no_option ≡ None
explain_needs_a_package = refl

-- `strong f --essential`
strong_takes_two_files : in_table (codes "strong") (codes "f" ∷ []) (record no_option { essential = true }) ≡ None
strong_takes_two_files = refl

-- `try --size 2 --seed 0`
try_is_seeded : in_table (codes "try") [] (record no_option { size = Some 2; seed = Some 0 }) ≡ Some (Try 2 0)
try_is_seeded = refl

-- `try --size 3`
try_needs_a_seed : in_table (codes "try") [] (record no_option { size = Some 3 }) ≡ None
try_needs_a_seed = refl

-- `steps f g`
steps_takes_a_later_file : in_table (codes "steps") (codes "f" ∷ codes "g" ∷ [])
    no_option ≡ Some (Steps (codes "f") (codes "g"))
steps_takes_a_later_file = refl

-- `steps f g --essential`
steps_takes_no_option : in_table (codes "steps") (codes "f" ∷ codes "g" ∷ [])
    (record no_option { essential = true }) ≡ None
steps_takes_no_option = refl

-- `follow f g h`
follow_takes_three_files : in_table (codes "follow") (codes "f" ∷ codes "g" ∷ codes "h" ∷ []) no_option
    ≡ Some (Follow (codes "f") (codes "g") (codes "h"))
follow_takes_three_files = refl
