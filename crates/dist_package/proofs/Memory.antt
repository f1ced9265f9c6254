-- No kind of fault carries want of memory.
use Rattle.std.proofs.Common.{◌≡◌, ◌≢◌, ℕ, List, [], ◌∷◌, Option, refl, sym, subst, inl, inr}
use Rattle.dist_version.specs.Faults.{IsTextFault}
use Rattle.dist_version.specs.declared.error.VersionError.TheVariants as versions
use Rattle.dist_relation.specs.Faults.{FirstDependsFault, FirstAtomsFault, FirstProvidesFault, Comes}
use Rattle.dist_version.specs.declared.error.VersionError.{VersionError}
use Rattle.dist_relation.specs.declared.error.RelationError.{RelationError}
use Rattle.dist_relation.specs.declared.error.RelationError.TheVariants as relations
use Rattle.dist_control.specs.RawStanza.{RawStanza}
use Rattle.dist_control.specs.declared.error.ControlError.{ControlError}
use Rattle.dist_control.specs.declared.error.ControlError.TheVariants as errors
use Rattle.dist_control.specs.declared.field_list.Stanza.{Stanza}
use Rattle.dist_package.specs.Named.{fault_on}
use Rattle.dist_package.specs.PackageOf.{HasRelationFault}
use Rattle.dist_package.specs.FirstFault.{IsLineFault, HasFirstRelationFault, relation_fields, HasFieldFault, HasPackagesFault, CarriesNoMemory, IsFreeOfMemory}
use Rattle.dist_package.specs.declared.error.Fault.{Fault}
use Rattle.dist_package.specs.declared.error.Kind.{Kind}
use Rattle.dist_package.specs.declared.error.Kind.TheVariants.{NoPackage, BadPackageName, NoVersion, BadVersionText, BadSource, BadArchitecture}
use Rattle.dist_package.specs.declared.error.Kind.TheVariants.{TwoArchitectures, Relation, Clash}
use Rattle.dist_package.specs.declared.error.RelationField.{RelationField}
use Rattle.dist_package.specs.declared.error.RelationField.TheVariants.{PreDepends, Depends, Conflicts, Breaks, Provides}

abbrev Carries : Fault → Type 0
Carries fault = CarriesNoMemory fault.kind

-- a fault of this line and kind carries what the kind does
carried : (fault : Fault) (line : ℕ) (kind : Kind) → fault ≡ fault_on line kind → CarriesNoMemory kind → Carries fault
carried fault line kind is none = subst Carries (sym is) none

of-line : (error : ControlError) (fault : Fault) → IsLineFault error fault → Carries fault
of-line (errors.NoColon line) fault is = carried fault line _ is tt
of-line (errors.BadFieldName line) fault is = carried fault line _ is tt
of-line (errors.OrphanContinuation line) fault is = carried fault line _ is tt
of-line (errors.DoubleField line) fault is = carried fault line _ is tt
of-line errors.NoMemory fault is = absurd is

-- what the law of relations says of a fault: a version's fault in it is not want of memory
abbrev pub VersionIsFree : RelationError → Type 0
VersionIsFree (relations.BadName place) = Unit {0}
VersionIsFree (relations.BadOp place) = Unit {0}
VersionIsFree (relations.BadVersion place fault) = fault ≢ versions.NoMemory
VersionIsFree (relations.Unclosed place) = Unit {0}
VersionIsFree (relations.BarNotAllowed place) = Unit {0}
VersionIsFree (relations.Trailing place) = Unit {0}
VersionIsFree (relations.OpInProvides place) = Unit {0}
VersionIsFree relations.NoMemory = Unit {0}

pub version-free : (kind : _) (error : RelationError) → Comes kind error → VersionIsFree error
version-free kind (relations.BadName place) comes = tt
version-free kind (relations.BadOp place) comes = tt
version-free kind (relations.BadVersion place fault) comes = comes
version-free kind (relations.Unclosed place) comes = tt
version-free kind (relations.BarNotAllowed place) comes = tt
version-free kind (relations.Trailing place) comes = tt
version-free kind (relations.OpInProvides place) comes = tt
version-free kind relations.NoMemory comes = tt

pub comes-free : (kind : _) (error : RelationError) → Comes kind error → error ≢ relations.NoMemory
comes-free kind (relations.BadName place) comes = λ e. cc
comes-free kind (relations.BadOp place) comes = λ e. cc
comes-free kind (relations.BadVersion place fault) comes = λ e. cc
comes-free kind (relations.Unclosed place) comes = λ e. cc
comes-free kind (relations.BarNotAllowed place) comes = λ e. cc
comes-free kind (relations.Trailing place) comes = λ e. cc
comes-free kind (relations.OpInProvides place) comes = λ e. cc
comes-free kind relations.NoMemory comes = absurd comes

free-of : (error : RelationError) → VersionIsFree error → error ≢ relations.NoMemory → IsFreeOfMemory error
free-of (relations.BadName place) free other = tt
free-of (relations.BadOp place) free other = tt
free-of (relations.BadVersion place fault) free other = free
free-of (relations.Unclosed place) free other = tt
free-of (relations.BarNotAllowed place) free other = tt
free-of (relations.Trailing place) free other = tt
free-of (relations.OpInProvides place) free other = tt
free-of relations.NoMemory free other = absurd (other refl)

module _ (memory : (text : List ℕ) → ¬ IsTextFault text versions.NoMemory)
    (depends : (value : List ℕ) (error : RelationError) → FirstDependsFault value error → VersionIsFree error)
    (atoms : (value : List ℕ) (error : RelationError) → FirstAtomsFault value error → VersionIsFree error)
    (provides : (value : List ℕ) (error : RelationError) → FirstProvidesFault value error → VersionIsFree error) where
  depends-free : (value : List ℕ) (error : RelationError) → FirstDependsFault value error → error ≢ relations.NoMemory → IsFreeOfMemory error
  depends-free value error first other = free-of error (depends value error first) other

  atoms-free : (value : List ℕ) (error : RelationError) → FirstAtomsFault value error → error ≢ relations.NoMemory → IsFreeOfMemory error
  atoms-free value error first other = free-of error (atoms value error first) other

  provides-free : (value : List ℕ) (error : RelationError) → FirstProvidesFault value error → error ≢ relations.NoMemory → IsFreeOfMemory error
  provides-free value error first other = free-of error (provides value error first) other

  of-relation : (stanza : Stanza) (relation : RelationField) (fault : Fault) → HasRelationFault stanza relation fault → Carries fault
  of-relation stanza PreDepends fault has = carried fault _ (Relation PreDepends has.0) has.3 (depends-free _ has.0 has.1 has.2)
  of-relation stanza Depends fault has = carried fault _ (Relation Depends has.0) has.3 (depends-free _ has.0 has.1 has.2)
  of-relation stanza Conflicts fault has = carried fault _ (Relation Conflicts has.0) has.3 (atoms-free _ has.0 has.1 has.2)
  of-relation stanza Breaks fault has = carried fault _ (Relation Breaks has.0) has.3 (atoms-free _ has.0 has.1 has.2)
  of-relation stanza Provides fault has = carried fault _ (Relation Provides has.0) has.3 (provides-free _ has.0 has.1 has.2)

  of-relations : (stanza : Stanza) (fields : List RelationField) (fault : Fault) → HasFirstRelationFault fields stanza fault → Carries fault
  of-relations stanza [] fault has = absurd has
  of-relations stanza (relation ∷ fields) fault (inl here) = of-relation stanza relation fault here
  of-relations stanza (relation ∷ fields) fault (inr later) = of-relations stanza fields fault later.1

  of-fields : (earlier : Option (List ℕ)) (stanza : Stanza) (fault : Fault) → HasFieldFault earlier stanza fault → Carries fault
  of-fields earlier stanza fault has =
      elim has [
        | inl name ↦ elim name [ inl none ↦ carried fault _ NoPackage none.1 tt | inr bad ↦ carried fault _ BadPackageName bad.fault_is tt ]
        | inr named ↦ elim named.1 [
          | inl version ↦ elim version [
            | inl none ↦ carried fault _ NoVersion none.1 tt
            | inr bad ↦ carried fault _ (BadVersionText bad.error) bad.fault_is
                (λ is. let P : VersionError → Type 0 = IsTextFault bad.value in memory bad.value (subst P is bad.has))
          ]
          | inr versioned ↦ elim versioned.1 [
            | inl source ↦ carried fault _ BadSource source.fault_is tt
            | inr sourced ↦ elim sourced.1 [
              | inl architecture ↦ elim architecture.cause [
                | inl bad ↦ carried fault _ BadArchitecture bad.1 tt
                | inr two ↦ carried fault _ TwoArchitectures two.3 tt
              ]
              | inr placed ↦ of-relations stanza relation_fields fault placed.1
            ]
          ]
        ]
      ]

  pub carries-none : (raws : List RawStanza) (limit : ℕ) (fault : Fault) → HasPackagesFault raws limit fault → CarriesNoMemory fault.kind
  carries-none raws limit fault first =
      elim first.has [
        | inl lines ↦ of-line lines.0 fault lines.2
        | inr others ↦ elim others [
          | inl fields ↦ of-fields _ fields.0 fault fields.2
          | inr clash ↦ carried fault _ (Clash clash.1) clash.4 tt
        ]
      ]
