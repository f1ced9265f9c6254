-- Worked examples of the definitions, computed.
use Rattle.std.specs.Prelude.{◌≡◌, [], ◌∷◌, None, Some, pos, negsuc, refl, codes}
use Rattle.std.specs.declared.cmp.Ordering.TheVariants.{Less, Equal}
use Rattle.dist_version.specs.declared.error.VersionError.TheVariants.{EmptyRevision, BadByte}
use Rattle.dist_version.specs.Spelling.{parts_of, epoch_of, epoch_digits, after_epoch, upstream_of, revision_of}
use Rattle.dist_version.specs.Faults.{fault_of}
use Rattle.dist_version.specs.Between.{above_text, below_text, without_rebuild_text}
use Rattle.dist_version.specs.Order.{weights_of, part_cmp, version_cmp}

-- the epoch ends at the first colon, and the revision starts after the last hyphen
parts_example : parts_of (codes "2:1:0-1-3")
    ≡ record { epoch = 2; upstream = codes "1:0-1"; revision = Some (codes "3") }
unfolding epoch_of epoch_digits after_epoch upstream_of revision_of
parts_example = refl

-- `~` weighs -1, a letter its code, and the digits are a number after a 0
weights_example : weights_of (codes "1~a") ≡ pos 0 ∷ pos 1 ∷ negsuc 0 ∷ pos 97 ∷ pos 0 ∷ pos 0 ∷ []
unfolding weights_of
weights_example = refl

-- 1.0~rc1 is below 1.0, and a missing revision equals revision 0
tilde_example : version_cmp (codes "1.0~rc1") (codes "1.0") ≡ Less
unfolding version_cmp part_cmp weights_of epoch_of epoch_digits after_epoch upstream_of revision_of
tilde_example = refl

revision_example : version_cmp (codes "1.0") (codes "0:1.0-0") ≡ Equal
unfolding version_cmp part_cmp weights_of epoch_of epoch_digits after_epoch upstream_of revision_of
revision_example = refl

-- the slash of `1.0/a` stands at place 3, and nothing follows the hyphen of `1-`
byte_example : fault_of (codes "1.0/a") ≡ Some (BadByte 3)
unfolding fault_of epoch_digits after_epoch upstream_of revision_of
byte_example = refl

empty_example : fault_of (codes "1-") ≡ Some EmptyRevision
unfolding fault_of epoch_digits after_epoch upstream_of revision_of
empty_example = refl

no_fault_example : fault_of (codes "1.2-3") ≡ None
unfolding fault_of epoch_digits after_epoch upstream_of revision_of
no_fault_example = refl

-- a missing revision gets its hyphen, and what ends in no digit a 0
above_example : above_text (codes "1") 4 ≡ codes "1-0A~~~~"
unfolding above_text after_epoch upstream_of revision_of
above_example = refl

above_letter_example : above_text (codes "1-0A") 4 ≡ codes "1-0A0A~~~~"
unfolding above_text after_epoch upstream_of revision_of
above_letter_example = refl

below_example : below_text (codes "1") ≡ codes "~~"
below_example = refl

-- the suffix of a rebuild is taken off once
rebuild_example : without_rebuild_text (codes "1+b2+b3") ≡ codes "1+b2"
unfolding without_rebuild_text fault_of epoch_digits after_epoch upstream_of revision_of
rebuild_example = refl
