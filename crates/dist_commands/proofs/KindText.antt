-- The text of a kind of fault, from its pieces.
use Rattle.std.proofs.Common.{◌≡◌, ℕ, List, [], ◌++◌, codes, decimal, refl, ap, sym, ◌∙◌, append_assoc}
use Rattle.std.proofs.lemmas.List.{append-nil}
use Rattle.dist_relation.specs.declared.error.RelationError.{RelationError}
use Rattle.dist_package.specs.declared.error.RelationField.{RelationField}
use Rattle.dist_package.specs.declared.error.Kind.{Kind}
use Rattle.dist_package.specs.declared.error.Kind.TheVariants.{NoColon, BadFieldName, OrphanContinuation, DoubleField, NoPackage, BadPackageName, NoVersion}
use Rattle.dist_package.specs.declared.error.Kind.TheVariants.{BadVersionText, BadSource, BadArchitecture, TwoArchitectures, Relation, Clash}
use Rattle.dist_commands.specs.FaultText.{field_text, place_of, carried_text}

-- a name in two pieces, and what follows it
pub two_pieces : (name detail whole rest carried : List ℕ) → name ++ detail ≡ whole → rest ≡ carried → name ++ (detail ++ rest) ≡ whole ++ carried
two_pieces name detail whole rest carried h e = sym (append_assoc name detail rest) ∙ ap (λ (t : List ℕ). t ++ rest) h ∙ ap (λ (t : List ℕ). whole ++ t) e

pub clash_carried : (kind : Kind) (line : ℕ) (text : List ℕ) → kind ≡ Clash line → text ≡ decimal line → codes " with line " ++ (text ++ []) ≡ carried_text kind
clash_carried kind line text is e = ap (λ (t : List ℕ). codes " with line " ++ t) (append-nil text ∙ e) ∙ sym (ap carried_text is)

pub relation_carried : (kind : Kind) (field : RelationField) (error : RelationError) (name place : List ℕ) → kind ≡ Relation field error
    → name ≡ field_text field → place ≡ decimal (place_of error) → codes " in " ++ (name ++ (codes " at " ++ (place ++ []))) ≡ carried_text kind
relation_carried kind field error name place is n p =
    ap (λ (t : List ℕ). codes " in " ++ (t ++ (codes " at " ++ (place ++ [])))) n
    ∙ ap (λ (t : List ℕ). codes " in " ++ (field_text field ++ (codes " at " ++ t))) (append-nil place ∙ p) ∙ sym (ap carried_text is)

pub nothing_carried : (kind : Kind) → ((field : RelationField) (error : RelationError) → ¬ (kind ≡ Relation field error)) → ((line : ℕ) → ¬ (kind ≡ Clash line))
    → [] ≡ carried_text kind
nothing_carried NoColon r c = refl
nothing_carried BadFieldName r c = refl
nothing_carried OrphanContinuation r c = refl
nothing_carried DoubleField r c = refl
nothing_carried NoPackage r c = refl
nothing_carried BadPackageName r c = refl
nothing_carried NoVersion r c = refl
nothing_carried (BadVersionText fault) r c = refl
nothing_carried BadSource r c = refl
nothing_carried BadArchitecture r c = refl
nothing_carried TwoArchitectures r c = refl
nothing_carried (Relation field error) r c = absurd (r field error refl)
nothing_carried (Clash line) r c = absurd (c line refl)

-- the line of a fault, and what follows it
pub fault_line : (line : ℕ) (text rest : List ℕ) → text ≡ decimal line
    → (codes "bad packages at line " ++ (text ++ codes ": ")) ++ rest ≡ codes "bad packages at line " ++ (decimal line ++ (codes ": " ++ rest))
fault_line line text rest e =
    ap (λ (t : List ℕ). codes "bad packages at line " ++ t) (append_assoc text (codes ": ") rest ∙ ap (λ (t : List ℕ). t ++ (codes ": " ++ rest)) e)

-- the line of a journal's fault, and the name of that
pub journal_line : (line : ℕ) (text name rest : List ℕ) → text ≡ decimal line → name ≡ rest
    → codes "bad journal at line " ++ (text ++ (codes ": " ++ (name ++ []))) ≡ codes "bad journal at line " ++ (decimal line ++ (codes ": " ++ rest))
journal_line line text name rest e n =
    ap (λ (t : List ℕ). codes "bad journal at line " ++ (t ++ (codes ": " ++ (name ++ [])))) e
    ∙ ap (λ (t : List ℕ). codes "bad journal at line " ++ (decimal line ++ (codes ": " ++ t))) (append-nil name ∙ n)
