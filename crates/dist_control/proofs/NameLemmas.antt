-- Names in a set, and among fields.
use Rattle.std.proofs.Common.{◌≡◌, ℕ, zero, suc, ◌<◌, ◌≤◌, Bool, true, false, ◌||◌, cond, List, [], ◌∷◌, ◌++◌, Option, Some, None, length, take, drop, map}
use Rattle.std.proofs.Common.{refl, sym, ap, ◌∙◌, arith, Vec, Bor, is_some, option_copied, find}
use Rattle.std.specs.Option.{option_map}
use Rattle.std.specs.declared.cmp.Ordering.{Ordering}
use Rattle.std.specs.declared.cmp.Ordering.TheVariants.{Less, Equal, Greater}
use Rattle.std.specs.Ordering.{is_eq, match_ordering, nat_cmp}
use Rattle.std.specs.Cmp.Lexicographic.{slice_cmp}
use Rattle.std.specs.List.{list_any}
use Rattle.std.specs.Str.{bytes_eq}
use Rattle.std.specs.BTreeMap.{is_at}
use Rattle.std.specs.BTreeSet.{insert_key}
use Rattle.std.proofs.lemmas.Bool.{or_left}
use Rattle.std.proofs.lemmas.List.{map-append, drop-append-le, length-map, length-append, drop_all, take-append-drop}
use Rattle.std.proofs.lemmas.List.Folds.{list_any-append}
use Rattle.std.proofs.lemmas.Map.Text.{is_eq-slice_cmp}
use Rattle.std.proofs.lemmas.Slice.Eq.{bytes_eq-Decides}
use Rattle.dist_control.specs.FieldText.{FieldText, field_text}
use Rattle.dist_control.specs.Fields.{folded, is_same_name}
use Rattle.dist_control.specs.declared.field_list.TheConstants.{EARLY_FIELDS}
use Rattle.dist_control.specs.Pieces.{folded_names, AreLateNames}
use Rattle.dist_control.specs.declared.field_list.Field.{Field}

-- ---- a set of names

or-swap : (a b c : Bool) → (a || (b || c)) ≡ (b || (a || c))
or-swap true true c = refl
or-swap true false c = refl
or-swap false true c = refl
or-swap false false c = refl

or-twice : (a c : Bool) → (a || c) ≡ (a || (a || c))
or-twice true c = refl
or-twice false c = refl

or-comm : (a b : Bool) → (a || b) ≡ (b || a)
or-comm true true = refl
or-comm true false = refl
or-comm false true = refl
or-comm false false = refl

module _ {Z : Type 0} where
  -- the bytes of names
  abbrev pub texts : List (Vec ℕ Z) → List (List ℕ)
  texts names = map (λ (name : Vec ℕ Z). name.items) names

  abbrev pub in_order : Vec ℕ Z → Vec ℕ Z → Ordering
  in_order a b = slice_cmp nat_cmp a.items b.items

  pub contains-any : (name : Vec ℕ Z) (names : List (Vec ℕ Z)) → list_any (is_at (in_order name)) names ≡ list_any (bytes_eq name.items) (texts names)
  contains-any name [] = refl
  contains-any name (first ∷ names) =
      ap (λ b. b || list_any (is_at (in_order name)) names) (is_eq-slice_cmp name.items first.items)
      ∙ ap (λ b. bytes_eq name.items first.items || b) (contains-any name names)

  insert-step : (name first : Vec ℕ Z) (names : List (Vec ℕ Z)) (other : List ℕ) (rest : Bool) (o : Ordering) → in_order name first ≡ o →
      list_any (bytes_eq other) (texts (insert_key in_order names name)) ≡ (bytes_eq other name.items || list_any (bytes_eq other) (texts names)) →
      list_any (bytes_eq other) (texts (match_ordering o (name ∷ first ∷ names) (first ∷ names) (first ∷ insert_key in_order names name)))
      ≡ (bytes_eq other name.items || (bytes_eq other first.items || list_any (bytes_eq other) (texts names)))
  insert-step name first names other rest Less is later = refl
  insert-step name first names other rest Equal is later =
      let same : name.items ≡ first.items = (bytes_eq-Decides name.items first.items).0 (sym (is_eq-slice_cmp name.items first.items) ∙ ap is_eq is) in
      or-twice (bytes_eq other first.items) _ ∙ ap (λ (t : List ℕ). bytes_eq other t || (bytes_eq other first.items || list_any (bytes_eq other) (texts names)))
      (sym same)
  insert-step name first names other rest Greater is later =
      ap (λ b. bytes_eq other first.items || b) later ∙ or-swap (bytes_eq other first.items) (bytes_eq other name.items) _

  pub insert-any : (name : Vec ℕ Z) (names : List (Vec ℕ Z)) (other : List ℕ) →
      list_any (bytes_eq other) (texts (insert_key in_order names name)) ≡ (bytes_eq other name.items || list_any (bytes_eq other) (texts names))
  insert-any name [] other = refl
  insert-any name (first ∷ names) other = insert-step name first names other false (in_order name first) refl (insert-any name names other)

-- ---- a name among fields

found-text : (name : List ℕ) (fields : List Field) →
    find (λ field. is_same_name name field.name) (map field_text fields) ≡ option_map field_text (find (λ field. is_same_name name field.name.now) fields)
found-text name [] = refl
found-text name (field ∷ fields) =
    elim (is_same_name name field.name.now) as (λ b. cond b (Some (field_text field)) (find (λ field. is_same_name name field.name) (map field_text fields))
    ≡ option_map field_text (cond b (Some field) (find (λ field. is_same_name name field.name.now) fields))) [
      | true ↦ refl
      | false ↦ found-text name fields
    ]

pub field-named : (name : List ℕ) (fields : List Field) (r : Option (Bor Field)) → option_copied r ≡ find (λ field. is_same_name name field.name.now) fields →
    option_map field_text (option_copied r) ≡ find (λ field. is_same_name name field.name) (map field_text fields)
field-named name fields r is = ap (option_map field_text) is ∙ sym (found-text name fields)

pub some-found : (name : List ℕ) (fields : List FieldText) →
    is_some (find (λ field. is_same_name name field.name) fields) ≡ list_any (λ field. is_same_name name field.name) fields
some-found name [] = refl
some-found name (field ∷ fields) =
    elim (is_same_name name field.name) as (λ b. is_some (cond b (Some field) (find (λ field. is_same_name name field.name) fields))
    ≡ (b || list_any (λ field. is_same_name name field.name) fields)) [
      | true ↦ refl
      | false ↦ some-found name fields
    ]

same-variant : (r : Option (Bor Field)) → is_some r ≡ is_some (option_map field_text (option_copied r))
same-variant None = refl
same-variant (Some field) = refl

pub early-any : (name : List ℕ) (fields : List Field) (r : Option (Bor Field)) → option_copied r ≡ find (λ field. is_same_name name field.name.now) fields →
    is_some r ≡ list_any (λ field. is_same_name name field.name) (map field_text fields)
early-any name fields r is = same-variant r ∙ ap is_some (field-named name fields r is) ∙ some-found name (map field_text fields)

-- ---- early and late names

late-any : (name : List ℕ) (fields : List FieldText) (n : ℕ) →
    list_any (λ field. is_same_name name field.name) (drop n fields) ≡ list_any (bytes_eq (folded name)) (drop n (folded_names fields))
late-any name [] zero = refl
late-any name [] (suc n) = refl
late-any name (field ∷ fields) zero = ap (λ b. is_same_name name field.name || b) (late-any name fields zero)
late-any name (field ∷ fields) (suc n) = late-any name fields n

module _ (name : List ℕ) (fields : List FieldText) where
  abbrev HasName : List FieldText → Bool
  HasName fs = list_any (λ field. is_same_name name field.name) fs

  pub any-split : HasName fields ≡ (HasName (take EARLY_FIELDS fields) || list_any (bytes_eq (folded name)) (drop EARLY_FIELDS (folded_names fields)))
  any-split =
      ap HasName (sym (take-append-drop EARLY_FIELDS fields))
      ∙ list_any-append (λ field. is_same_name name field.name) (take EARLY_FIELDS fields) (drop EARLY_FIELDS fields)
      ∙ ap (λ b. HasName (take EARLY_FIELDS fields) || b) (late-any name fields EARLY_FIELDS)

  -- no early field has the name: the late ones decide
  pub any-late : (names : List (List ℕ)) → AreLateNames fields names → HasName (take EARLY_FIELDS fields) ≡ false →
      HasName fields ≡ list_any (bytes_eq (folded name)) names
  any-late names late none = any-split ∙ ap (λ b. b || list_any (bytes_eq (folded name)) (drop EARLY_FIELDS (folded_names fields))) none
      ∙ sym (late (folded name))

  -- where there are early fields alone, they decide
  pub any-early : length fields < EARLY_FIELDS → HasName (take EARLY_FIELDS fields) ≡ false → HasName fields ≡ false
  any-early few none =
      any-split ∙ ap (λ b. b || list_any (bytes_eq (folded name)) (drop EARLY_FIELDS (folded_names fields))) none
      ∙ ap (λ (l : List (List ℕ)). list_any (bytes_eq (folded name)) l)
      (drop_all EARLY_FIELDS (folded_names fields) (omega (arith, length-map fields (λ (field : FieldText). folded field.name))))

  pub any-found : HasName (take EARLY_FIELDS fields) ≡ true → HasName fields ≡ true
  any-found some = any-split ∙ or_left _ _ some

names-push : (fields : List FieldText) (field : FieldText) → folded_names (fields ++ field ∷ []) ≡ folded_names fields ++ folded field.name ∷ []
names-push fields field = map-append (λ (field : FieldText). folded field.name) fields (field ∷ [])

-- an early field leaves the late names as they are
pub late-early : (fields : List FieldText) (field : FieldText) (names : List (List ℕ)) → AreLateNames fields names → length fields < EARLY_FIELDS →
    AreLateNames (fields ++ field ∷ []) names
late-early fields field names late few other =
    let size = length-map fields (λ (field : FieldText). folded field.name) in
    late other
    ∙ ap (λ (l : List (List ℕ)). list_any (bytes_eq other) l) (
    drop_all EARLY_FIELDS (folded_names fields) (omega arith)
    ∙ sym (drop_all EARLY_FIELDS (folded_names (fields ++ field ∷ []))
    (omega (arith, ap length (names-push fields field), length-append (folded_names fields) (folded field.name ∷ [])))))

-- a late field's name is one of them
pub late-more : (fields : List FieldText) (field : FieldText) (names more : List (List ℕ)) → AreLateNames fields names → 24 ≤ length fields →
    ((other : List ℕ) → list_any (bytes_eq other) more ≡ (bytes_eq other (folded field.name) || list_any (bytes_eq other) names)) →
    AreLateNames (fields ++ field ∷ []) more
late-more fields field names more late many grown other =
    let old = drop EARLY_FIELDS (folded_names fields) in
    let Has : List (List ℕ) → Bool = λ l. list_any (bytes_eq other) l in
    grown other
    ∙ ap (λ b. bytes_eq other (folded field.name) || b) (late other)
    ∙ or-comm (bytes_eq other (folded field.name)) (Has old)
    ∙ ap (λ b. Has old || b) (or-comm false (bytes_eq other (folded field.name)))
    ∙ sym (list_any-append (bytes_eq other) old (folded field.name ∷ []))
    ∙ ap Has (sym (drop-append-le EARLY_FIELDS (folded_names fields) (folded field.name ∷ [])
    (omega (arith, length-map fields (λ (field : FieldText). folded field.name)))))
    ∙ ap (λ (l : List (List ℕ)). Has (drop EARLY_FIELDS l)) (sym (names-push fields field))
