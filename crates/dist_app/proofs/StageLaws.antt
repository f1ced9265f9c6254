-- Laws of work in stages.
use Rattle.std.proofs.Common.{◌≡◌, inl, inr, ap, sym, subst}
use Rattle.dist_commands.specs.Stages.{Ending, Step, Goes, Ends, Then, IsDetermined, Excludes}

-- the end that a stage comes to, if it ends the run
end_of : {X : Type 0} → Ending → Step X → Ending
end_of other (Goes value) = other
end_of other (Ends ending) = ending

value_of : {X : Type 0} → X → Step X → X
value_of other (Goes value) = value
value_of other (Ends ending) = other

IsEnd : {X : Type 0} → Step X → Type 0
IsEnd (Goes value) = ⊥
IsEnd (Ends ending) = Unit {0}

abbrev IsSame : {X : Type 0} → Step X → Step X → Type 0
IsSame s t = s ≡ t

pub same_end : {X : Type 0} (e f : Ending) → IsSame {X = X} (Ends e) (Ends f) → e ≡ f
unfolding end_of
same_end {X} e f h = ap (λ (s : Step X). end_of e s) h

pub same_value : {X : Type 0} (v w : X) → Goes v ≡ Goes w → v ≡ w
unfolding value_of
same_value {X} v w h = ap (λ (s : Step X). value_of v s) h

pub apart : {X : Type 0} (e : Ending) (v : X) → IsSame {X = X} (Ends e) (Goes v) → ⊥
unfolding IsEnd
apart {X} e v h = subst (λ (s : Step X). IsEnd s) h tt

-- A chain of stages that come to one thing at most excludes another rest where its own one does.
pub then_excludes : {X : Type 0} (First : Step X → Type 0) (Rest Other : X → Ending → Type 0) → IsDetermined First
    → ((value : X) → First (Goes value) → Excludes (Rest value) (Other value)) → Excludes (Then First Rest) (Then First Other)
then_excludes First Rest Other one rest end ending (inl f) (inl g) = same_end ending end (one (Ends end) (Ends ending) f g)
then_excludes First Rest Other one rest end ending (inl f) (inr (w, h, s)) = absurd (apart end w (sym (one (Ends end) (Goes w) f h)))
then_excludes First Rest Other one rest end ending (inr (v, g, r)) (inl f) = absurd (apart ending v (one (Goes v) (Ends ending) g f))
then_excludes {X} First Rest Other one rest end ending (inr (v, g, r)) (inr (w, h, s)) =
    let same = same_value w v (one (Goes v) (Goes w) g h) in
    rest v g end ending r (subst (λ (x : X). Other x ending) same s)

-- where a stage gives a value, the rest of the run is that value's
pub then_goes : {X : Type 0} (First : Step X → Type 0) (Rest : X → Ending → Type 0) → IsDetermined First → (value : X) → First (Goes value) → (ending : Ending)
    → Then First Rest ending → Rest value ending
then_goes First Rest one value goes ending (inl ends) = absurd (apart ending value (one (Goes value) (Ends ending) goes ends))
then_goes {X} First Rest one value goes ending (inr (other, goes', rest)) =
    subst (λ (x : X). Rest x ending) (same_value other value (one (Goes value) (Goes other) goes goes')) rest

pub nothing_excludes : (Decides : Ending → Type 0) → Excludes (λ ending. ⊥) Decides
nothing_excludes Decides end ending none decides = absurd none
