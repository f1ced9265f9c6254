-- Readers of one thing, and of several with a byte between each two.
use Rattle.std.proofs.Common.{◌≡◌, ℕ, zero, suc, ◌<◌, Bool, true, false, ◌⊎◌, inl, inr, eqb, cond, List, [], ◌∷◌, ◌++◌, length, length-append, refl, sym, ap}
use Rattle.std.proofs.Common.{◌∙◌, append_assoc, eq-eqb, arith}
use Rattle.std.specs.Prelude.{Result, Ok, Err}
use Rattle.std.proofs.lemmas.Bool.{eqb-true}
use Rattle.dist_relation.specs.declared.error.Fault.{Fault}
use Rattle.dist_relation.specs.Bytes.{Meets}
use Rattle.dist_relation.specs.Grammar.{Joined, Ended}
use Rattle.dist_relation.specs.ReadingPrivate.{◌>>=◌, then_more, joined_at}
use Rattle.dist_relation.proofs.ByteFacts.{not_at}
use Rattle.dist_relation.proofs.Heads.{done}

-- the text begins with a spelling, and what may end one follows
pub record Found {X : Type 0} (Spells : List ℕ → X → Type 0) (ends : ℕ → Bool) (text : List ℕ) : Type 0 where
  pub front : List ℕ
  pub item : X
  pub rest : List ℕ
  pub spelled : Spells front item
  pub parts : text ≡ front ++ rest
  pub stops : Meets ends rest

-- A reader gives what a text begins with, or the text's fault, and each text has one of the two.
pub record Reader {X : Type 0} (Spells : List ℕ → X → Type 0) (ends : ℕ → Bool) (Faulty : List ℕ → Fault → Type 0)
    (one : List ℕ → Result (X × List ℕ) Fault) : Type 0 where
  pub cases : (text : List ℕ) → Found Spells ends text ⊎ ((fault : Fault) × Faulty text fault)
  pub again : (front : List ℕ) (item : X) (rest : List ℕ) → Spells front item → Meets ends rest → one (front ++ rest) ≡ Ok (item, rest)
  pub refused : (text : List ℕ) (fault : Fault) → Faulty text fault → one text ≡ Err fault

-- one of several ends at the byte between them, or where all of them end
pub record EndsBetween (one several : ℕ → Bool) (between : ℕ) : Type 0 where
  pub one_ends : one between ≡ true
  pub goes_on : several between ≡ false
  pub both : (b : ℕ) → several b ≡ true → one b ≡ true
  pub last : (b : ℕ) → one b ≡ true → eqb b between ≡ false → several b ≡ true

-- spellings, each with the byte behind it, and then a fault
pub record JoinedFaulty {X : Type 0} (between : ℕ) (Spells : List ℕ → X → Type 0) (Faulty : List ℕ → Fault → Type 0) (text : List ℕ) (fault : Fault) : Type 0
  where
    pub lead : List ℕ
    pub items : List X
    pub rest : List ℕ
    pub is_lead : Ended between Spells lead items
    pub parts : text ≡ lead ++ rest
    pub faulty : Faulty rest fault

meets_both : (one several : ℕ → Bool) (between : ℕ) (rest : List ℕ) → EndsBetween one several between → Meets several rest → Meets one rest
meets_both one several between [] e h = tt
meets_both one several between (b ∷ bs) e h = e.both b h

same : (n : ℕ) → eqb n n ≡ true
same n = eq-eqb n n refl

module _ {X : Type 0} (Spells : List ℕ → X → Type 0) (one_ends several_ends : ℕ → Bool) (between : ℕ) (Faulty : List ℕ → Fault → Type 0)
    (one : List ℕ → Result (X × List ℕ) Fault) (reader : Reader Spells one_ends Faulty one) (ends : EndsBetween one_ends several_ends between) where
  abbrev Several : List ℕ → Type 0
  Several text = Found (Joined between Spells) several_ends text ⊎ ((fault : Fault) × JoinedFaulty between Spells Faulty text fault)

  -- one more in front
  more_found : (text front rest : List ℕ) (item : X) → Spells front item → text ≡ front ++ (between ∷ rest) → Several rest → Several text
  more_found text front rest item h e (inl found) = inl (by_items found.item found.spelled)
    where
      by_items : (items : List X) → Joined between Spells found.front items → Found (Joined between Spells) several_ends text
      by_items [] j = absurd cc
      by_items (y ∷ ys) j = record {
        front = front ++ (between ∷ found.front);
        item = item ∷ y ∷ ys;
        rest = found.rest;
        spelled = (front, found.front, h, j, refl);
        parts = e ∙ ap (λ (t : List ℕ). front ++ (between ∷ t)) found.parts
            ∙ sym (append_assoc front (between ∷ found.front) found.rest);
        stops = found.stops;
      }
  more_found text front rest item h e (inr (fault, f)) =
      inr (
        fault,
        record {
          lead = front ++ (between ∷ f.lead);
          items = item ∷ f.items;
          rest = f.rest;
          is_lead = (front, f.lead, h, f.is_lead, refl);
          parts = e ∙ ap (λ (t : List ℕ). front ++ (between ∷ t)) f.parts ∙ sym (append_assoc front (between ∷ f.lead) f.rest);
          faulty = f.faulty;
        },
      )

  last_found : (text front rest : List ℕ) (item : X) → Spells front item → text ≡ front ++ rest → Meets several_ends rest → Several text
  last_found text front rest item h e stops = inl (record { front = front; item = item ∷ []; rest = rest; spelled = h; parts = e; stops = stops })

  shorter : (n : ℕ) (text front : List ℕ) (b : ℕ) (bs : List ℕ) → length text < suc n → text ≡ front ++ (b ∷ bs) → length bs < n
  shorter n text front b bs lt e = omega (arith, ap length e, length-append front (b ∷ bs))

  joined_cases : (n : ℕ) (text : List ℕ) → length text < n → Several text
  joined_cases zero text lt = absurd (omega arith)
  joined_cases (suc n) text lt = by_one (reader.cases text) (joined_cases n)
    where
      by_byte : (t : Bool) (front : List ℕ) (item : X) (b : ℕ) (bs : List ℕ) → eqb b between ≡ t → Spells front item → text ≡ front ++ (b ∷ bs)
          → one_ends b ≡ true → ((rest : List ℕ) → length rest < n → Several rest) → Several text
      by_byte true front item b bs e h parts stops ih = more_found text front bs item h (parts ∙ ap (λ (c : ℕ). front ++ (c ∷ bs)) (eqb-true b between e))
          (ih bs (shorter n text front b bs lt parts))
      by_byte false front item b bs e h parts stops ih = last_found text front (b ∷ bs) item h parts (ends.last b stops e)

      by_rest : (front : List ℕ) (item : X) (rest : List ℕ) → Spells front item → text ≡ front ++ rest → Meets one_ends rest
          → ((rest : List ℕ) → length rest < n → Several rest) → Several text
      by_rest front item [] h parts stops ih = last_found text front [] item h parts tt
      by_rest front item (b ∷ bs) h parts stops ih = by_byte (eqb b between) front item b bs refl h parts stops ih

      by_one : Found Spells one_ends text ⊎ ((fault : Fault) × Faulty text fault) → ((rest : List ℕ) → length rest < n → Several rest) → Several text
      by_one (inl found) ih = by_rest found.front found.item found.rest found.spelled found.parts found.stops ih
      by_one (inr (fault, f)) ih = inr (fault, record { lead = []; items = []; rest = text; is_lead = refl; parts = refl; faulty = f })

  abbrev next : ℕ → X × List ℕ → Result (List X × List ℕ) Fault
  next n x = then_more between x.0 x.1 (joined_at between one n)

  abbrev after_one : ℕ → Result (X × List ℕ) Fault → Result (List X × List ℕ) Fault
  after_one n x = x >>= next n

  abbrev onto : X → Result (List X × List ℕ) Fault → Result (List X × List ℕ) Fault
  onto x read = read >>= λ y. Ok (x ∷ y.0, y.1)

  last_again : (n : ℕ) (item : X) (rest : List ℕ) → Meets several_ends rest → next n (item, rest) ≡ done (item ∷ []) rest
  last_again n item [] stops = refl
  last_again n item (b ∷ bs) stops = ap (λ (t : Bool). cond t (onto item (joined_at between one n bs)) (done (item ∷ []) (b ∷ bs)))
      (not_at several_ends b between stops ends.goes_on)

  more_again : (n : ℕ) (item : X) (rest : List ℕ) → next n (item, between ∷ rest) ≡ onto item (joined_at between one n rest)
  more_again n item rest = ap (λ (t : Bool). cond t (onto item (joined_at between one n rest)) (done (item ∷ []) (between ∷ rest))) (same between)

  -- a spelling with the byte behind it is read first
  first_again : (n : ℕ) (first : List ℕ) (item : X) (rest : List ℕ) → Spells first item
      → joined_at between one (suc n) (first ++ (between ∷ rest)) ≡ onto item (joined_at between one n rest)
  unfolding joined_at
  first_again n first item rest h = ap (after_one n) (reader.again first item (between ∷ rest) h ends.one_ends) ∙ more_again n item rest

  joined_again : (items : List X) (n : ℕ) (front rest : List ℕ) → length (front ++ rest) < n → Joined between Spells front items → Meets several_ends rest
      → joined_at between one n (front ++ rest) ≡ Ok (items, rest)
  unfolding joined_at
  joined_again items zero front rest lt h stops = absurd (omega arith)
  joined_again [] (suc n) front rest lt h stops = absurd cc
  joined_again (x ∷ []) (suc n) front rest lt h stops = ap (after_one n)
      (reader.again front x rest h (meets_both one_ends several_ends between rest ends stops)) ∙ last_again n x rest stops
  joined_again (x ∷ y ∷ ys) (suc n) front rest lt (first, others, h, j, e) stops =
      let whole : front ++ rest ≡ first ++ (between ∷ (others ++ rest)) = ap (λ (t : List ℕ). t ++ rest) e ∙ append_assoc first (between ∷ others) rest in
      ap (joined_at between one (suc n)) whole
      ∙ first_again n first x (others ++ rest) h
      ∙ ap (onto x) (joined_again (y ∷ ys) n others rest (shorter n (front ++ rest) first between (others ++ rest) lt whole) j stops)

  joined_refused : (items : List X) (n : ℕ) (lead rest : List ℕ) (fault : Fault) → length (lead ++ rest) < n → Ended between Spells lead items
      → Faulty rest fault → joined_at between one n (lead ++ rest) ≡ Err fault
  unfolding joined_at
  joined_refused items zero lead rest fault lt h f = absurd (omega arith)
  joined_refused [] (suc n) lead rest fault lt h f = ap (λ (t : List ℕ). after_one n (one (t ++ rest))) h ∙ ap (after_one n) (reader.refused rest fault f)
  joined_refused (x ∷ xs) (suc n) lead rest fault lt (first, others, h, j, e) f =
      let whole : lead ++ rest ≡ first ++ (between ∷ (others ++ rest)) = ap (λ (t : List ℕ). t ++ rest) e ∙ append_assoc first (between ∷ others) rest in
      ap (joined_at between one (suc n)) whole
      ∙ first_again n first x (others ++ rest) h
      ∙ ap (onto x) (joined_refused xs n others rest fault (shorter n (lead ++ rest) first between (others ++ rest) lt whole) j f)

  -- The reader of several is a reader.
  pub joined_reader : Reader (Joined between Spells) several_ends (JoinedFaulty between Spells Faulty) (λ text. joined_at between one (suc (length text)) text)
  joined_reader = record {
    cases = λ text. joined_cases (suc (length text)) text (omega arith);
    again = λ front items rest h stops. joined_again items (suc (length (front ++ rest))) front rest (omega arith) h stops;
    refused = λ text fault f.
        ap (λ (t : List ℕ). joined_at between one (suc (length t)) t) f.parts
        ∙ joined_refused f.items (suc (length (f.lead ++ f.rest))) f.lead f.rest fault (omega arith) f.is_lead f.faulty;
  }
