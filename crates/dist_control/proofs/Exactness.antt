-- Each raw stanza has exactly one reading or exactly one first fault, and each text one list of stanzas or one first fault.
use Rattle.std.proofs.Common.{◌≡◌, ℕ, zero, suc, ◌<◌, List, [], ◌∷◌, Option, Some, None, length, refl, sym, ap, ◌∙◌, arith, inl, inr, ◌⊎◌}
use Rattle.std.proofs.lemmas.Bool.{cases_order}
use borrow.Author.Count.{below_more}
use Rattle.dist_base.specs.Answers.{IsExact}
use Rattle.dist_control.specs.FieldText.{FieldText}
use Rattle.dist_control.specs.declared.error.ControlError.{ControlError}
use Rattle.dist_control.specs.declared.field_list.Stanza.{Stanza}
use Rattle.dist_control.specs.ControlText.{AreReadings, HasFirstTextFault, IsExactStanza, IsExactText}
use Rattle.dist_control.specs.Faults.{fault_at, IsSound, IsSoundBelow, HasFault}
use Rattle.dist_control.specs.Fields.{fields_from}
use Rattle.dist_control.specs.RawStanza.{RawStanza, raw_stanzas}

-- no line below a place has a fault, or there is a first one that has
first_below : (raw : RawStanza) (n : ℕ) → IsSoundBelow raw n
    ⊎ ((place : ℕ) × (place < n) × IsSoundBelow raw place × ((error : ControlError) × (fault_at raw place ≡ Some error)))
first_below raw zero = inl (λ k h. absurd (omega arith))
first_below raw (suc n) =
    elim (first_below raw n) [
      | inr found ↦ inr (found.0, omega (arith, found.1), found.2, found.3)
      | inl sound ↦
          let here : (o : Option ControlError) → fault_at raw n ≡ o → IsSoundBelow raw (suc n)
          ⊎ ((place : ℕ) × (place < suc n) × IsSoundBelow raw place × ((error : ControlError) × (fault_at raw place ≡ Some error))) =
          λ o. elim o as (λ o. fault_at raw n ≡ o → IsSoundBelow raw (suc n)
          ⊎ ((place : ℕ) × (place < suc n) × IsSoundBelow raw place × ((error : ControlError) × (fault_at raw place ≡ Some error)))) [
            | None ↦ λ is. inl (λ k h. below_more (λ k. fault_at raw k ≡ None) n sound is k (omega arith))
            | Some error ↦ λ is. inr (n, omega arith, sound, (error, is))
          ] in
          here (fault_at raw n) refl
    ]

same_error : (error other : ControlError) → (let from : ControlError → Option ControlError = λ e. Some e in from error ≡ from other) → error ≡ other
same_error error other is = cc

no_error : (error : ControlError) → (o : Option ControlError) → o ≡ None → o ≡ Some error → ⊥
no_error error o none some = cc

same_place : (raw : RawStanza) (error other : ControlError) (a b : ℕ) → a ≡ b → fault_at raw a ≡ Some error → fault_at raw b ≡ Some other → error ≡ other
same_place raw error other a b is first second = same_error error other (sym first ∙ ap (fault_at raw) is ∙ second)

one_fault : (raw : RawStanza) (error other : ControlError) → HasFault raw error → HasFault raw other → error ≡ other
one_fault raw error other first second =
    elim (cases_order first.place second.place) [
      | inl same ↦ same_place raw error other _ _ same first.fault second.fault
      | inr apart ↦ elim apart [
        | inl below ↦ absurd (no_error error _ (second.first first.place below) first.fault)
        | inr above ↦ absurd (no_error other _ (first.first second.place above) second.fault)
      ]
    ]

same_stanza : (stanza other : Stanza) → stanza.line ≡ other.line → stanza.fields ≡ other.fields → stanza ≡ other
same_stanza stanza other on with =
    let first : ℕ → Stanza = λ n. record { line = n; fields = stanza.fields } in
    let second : List FieldText → Stanza = λ fs. record { line = other.line; fields = fs } in
    ap first on ∙ ap second with

sound_or_faulty : (raw : RawStanza) (error : ControlError) → IsSound raw → HasFault raw error → ⊥
sound_or_faulty raw error sound faulty = no_error error _ (sound faulty.place faulty.within) faulty.fault

pub exact : (raw : RawStanza) → IsExactStanza raw
exact raw = record {
  some = elim (first_below raw (length raw.lines)) [
    | inl sound ↦ inl (record { line = raw.line; fields = fields_from raw.line raw.lines }, record { sound = sound; line = refl; fields = refl })
    | inr found ↦ inr (found.3.0, record { place = found.0; within = found.1; first = found.2; fault = found.3.1 })
  ];
  one_reading = λ stanza other first second. same_stanza stanza other (first.line ∙ sym second.line) (first.fields ∙ sym second.fields);
  one_fault = one_fault raw;
  never_both = λ stanza error reads faulty. sound_or_faulty raw error reads.sound faulty;
}

-- ---- whole texts

no_stanzas : (stanzas : List Stanza) → AreReadings [] stanzas → stanzas ≡ []
no_stanzas [] are = refl
no_stanzas (stanza ∷ stanzas) are = absurd are

-- a first stanza and what is known of the raw stanzas after it
module _ (raw : RawStanza) (raws : List RawStanza) (rest : IsExact (AreReadings raws) (HasFirstTextFault raws)) where
  some_more : ((stanzas : List Stanza) × AreReadings (raw ∷ raws) stanzas) ⊎ ((error : ControlError) × HasFirstTextFault (raw ∷ raws) error)
  some_more = elim (exact raw).some [
    | inr fault ↦ inr (fault.0, inl fault.1)
    | inl first ↦ elim rest.some [
      | inl others ↦ inl (first.0 ∷ others.0, (first.1, others.1))
      | inr fault ↦ inr (fault.0, inr (first.1.sound, fault.1))
    ]
  ]

  one_more : (stanzas other : List Stanza) → AreReadings (raw ∷ raws) stanzas → AreReadings (raw ∷ raws) other → stanzas ≡ other
  one_more [] other are same = absurd are
  one_more (stanza ∷ stanzas) [] are same = absurd same
  one_more (stanza ∷ stanzas) (first ∷ other) are same =
      ap (λ (s : Stanza). s ∷ stanzas) ((exact raw).one_reading stanza first are.0 same.0)
      ∙ ap (λ (l : List Stanza). first ∷ l) (rest.one_reading stanzas other are.1 same.1)

  fault_more : (error other : ControlError) → HasFirstTextFault (raw ∷ raws) error → HasFirstTextFault (raw ∷ raws) other → error ≡ other
  fault_more error other (inl here) (inl same) = one_fault raw error other here same
  fault_more error other (inl here) (inr later) = absurd (sound_or_faulty raw error later.0 here)
  fault_more error other (inr later) (inl here) = absurd (sound_or_faulty raw other later.0 here)
  fault_more error other (inr later) (inr same) = rest.one_fault error other later.1 same.1

  never_more : (stanzas : List Stanza) (error : ControlError) → AreReadings (raw ∷ raws) stanzas → ¬ HasFirstTextFault (raw ∷ raws) error
  never_more [] error are faulty = absurd are
  never_more (stanza ∷ stanzas) error are (inl here) = sound_or_faulty raw error are.0.sound here
  never_more (stanza ∷ stanzas) error are (inr later) = rest.never_both stanzas error are.1 later.1

exact-raws : (raws : List RawStanza) → IsExact (AreReadings raws) (HasFirstTextFault raws)
exact-raws [] = record {
  some = inl ([], tt);
  one_reading = λ stanzas other are same. no_stanzas stanzas are ∙ sym (no_stanzas other same);
  one_fault = λ error other none same. absurd none;
  never_both = λ stanzas error are none. none;
}
exact-raws (raw ∷ raws) =
    let rest = exact-raws raws in record {
      some = some_more raw raws rest;
      one_reading = one_more raw raws rest;
      one_fault = fault_more raw raws rest;
      never_both = never_more raw raws rest;
    }

pub exact-text : (text : List ℕ) → IsExactText text
exact-text text = exact-raws (raw_stanzas text)
