-- Lists of clauses that are found by two literals.
use Rattle.std.proofs.Common.{◌≡◌, ◌≢◌, ℕ, ◌⊎◌, ⊎_elim, inl, inr, ◌+◌, ◌-◌, ◌<◌, ◌≤◌, false, List, [], ◌∷◌, ◌++◌, length, get_or, set, refl, ap, sym, subst}
use Rattle.std.proofs.Common.{◌∙◌, arith, length-set, length-take, take, Result, Ok, Err, OnOk}
use Rattle.std.specs.List.{All, Contains, swap_remove}
use Rattle.std.proofs.lemmas.Bool.{cases_eq, cases_lt}
use Rattle.std.proofs.lemmas.List.{get_or_default, get_or-take, get_or-set_same, get_or-set_other, length-map, map_push, map-set, take-map}
use Rattle.std.proofs.lemmas.List.{length_push, get_or_push, get_or_append_left, get_or_past}
use Rattle.std.proofs.Math.ListN.{get_or-map}
use Rattle.std.proofs.lemmas.List.Elements.{Contains-push, Contains-append_left, All-nil, All-push, All-take, All-set}
use Rattle.dist_clause.specs.Formula.{Literal, literal}
use Rattle.dist_clause.specs.ClauseList.{clause_at}
use Rattle.dist_derive.specs.Watches.{WatchLists, no_entry, numbers_in, entries_of, list_of, pair_in, pair_of, IsPairKept, HasOther, HasNot}
use Rattle.dist_derive.specs.Watches.{Pends, Lists, IsWatched, Blocks, AreWatchesOf}
use Rattle.dist_derive.proofs.LiteralLemmas.{same_or_not}

pub on_ok_both : {X E : Type 0} (A B C : Type 0) (r : Result X E) → (A → B → C) → OnOk r A → OnOk r B → OnOk r C
on_ok_both A B C (Ok x) f a b = f a b
on_ok_both A B C (Err e) f a b = tt

-- one more empty list
pub nothing_more : {X : Type 0} (lists : List (List X)) → ((k : ℕ) → get_or lists k [] ≡ []) → (k : ℕ) → get_or (lists ++ [] ∷ []) k [] ≡ []
nothing_more lists h k = elim (cases_lt k (length lists)) [
  | inl within ↦ get_or_append_left lists ([] ∷ []) [] k within ∙ h k
  | inr past ↦ elim (cases_eq k (length lists)) [
    | inl same ↦ get_or_push lists [] [] k (sym same)
    | inr other ↦ get_or_past (lists ++ [] ∷ []) k [] (omega (arith, past, other, length_push lists []))
  ]
]

-- ---- pairs

abbrev pub nowhere : Literal × Literal
nowhere = (literal 0 false, literal 0 false)

-- the same by places
abbrev pub IsPlaceKept : List (Literal × Literal) → List (Literal × Literal) → ℕ → Type 0
IsPlaceKept old new k = (get_or new k nowhere ≡ get_or old k nowhere)
    ⊎ (((get_or old k nowhere).0 ≡ (get_or old k nowhere).1) × ((get_or new k nowhere).0 ≡ (get_or new k nowhere).1))

-- ---- watches that are kept

-- what is watched is found where pairs are the same and lists have grown
pub watched_kept : (u v : WatchLists) (clause : List Literal) (number : ℕ) → pair_of v number ≡ pair_of u number
    → ((m : Literal) (n : ℕ) → Contains (list_of u m) n → Contains (list_of v m) n) → IsWatched u clause number → IsWatched v clause number
watched_kept u v clause number same kept w = record {
  first = subst (λ (p : Literal × Literal). Contains clause p.0) (sym same) w.first;
  second = subst (λ (p : Literal × Literal). Contains clause p.1) (sym same) w.second;
  first_listed = subst (λ (p : Literal × Literal). Contains (list_of v p.0) number) (sym same) (kept (pair_of u number).0 number w.first_listed);
  second_listed = subst (λ (p : Literal × Literal). Contains (list_of v p.1) number) (sym same) (kept (pair_of u number).1 number w.second_listed);
}

pub apart_kept : (p q : Literal × Literal) → q ≡ p → q.0 ≢ q.1 → p.0 ≢ p.1
apart_kept p q same apart e = apart (subst (λ (r : Literal × Literal). r.0 ≡ r.1) (sym same) e)

pub watches_kept : (u v : WatchLists) (clauses : List (List Literal)) → v.pairs ≡ u.pairs
    → ((m : Literal) (n : ℕ) → Contains (list_of u m) n → Contains (list_of v m) n) → ((m : Literal) → All (Blocks clauses) (entries_of v m))
    → AreWatchesOf u clauses → AreWatchesOf v clauses
watches_kept u v clauses pairs kept blocked h = record {
  watched = λ number from apart.
      let same : pair_of v number ≡ pair_of u number = ap (λ ps. pair_in ps number) pairs in
      watched_kept u v (clause_at clauses number) number same kept
      (h.watched number from (apart_kept (pair_of u number) (pair_of v number) same apart));
  blocked = blocked;
}

-- nothing is watched
pub none_watched : (w : WatchLists) (clauses : List (List Literal)) → w.pairs ≡ [] → ((l : Literal) → entries_of w l ≡ []) → AreWatchesOf w clauses
none_watched w clauses none no_entries = record {
  watched = λ number from apart.
      let same : pair_of w number ≡ nowhere = ap (λ ps. get_or ps (number - 1) nowhere) none in
      absurd (apart (ap (λ (p : Literal × Literal). p.0) same ∙ sym (ap (λ (p : Literal × Literal). p.1) same)));
  blocked = λ l. subst (λ es. All (Blocks clauses) es) (sym (no_entries l)) (All-nil (Blocks clauses));
}

-- a number has come into a literal's list as the last one, or stands there already
pub listed_more : (u v : WatchLists) (l : Literal) (number : ℕ) (blocker : Literal) → v.pairs ≡ u.pairs
    → ((m : Literal) → m ≢ l → entries_of v m ≡ entries_of u m) → entries_of v l ≡ entries_of u l ++ (number, blocker) ∷ []
    → Lists u v l number blocker
listed_more u v l number blocker pairs rest more =
    let others : (m : Literal) → m ≢ l → list_of v m ≡ list_of u m = λ m apart. ap numbers_in (rest m apart) in
    let list : list_of v l ≡ list_of u l ++ number ∷ [] = ap numbers_in more ∙ map_push (λ (e : ℕ × Literal). e.0) (entries_of u l) (number, blocker) in
    record {
      same_pairs = pairs;
      listed = λ clauses h. subst (λ ns. Contains ns number) (sym list) (Contains-push (list_of u l) number);
      blocked = λ clauses is h m. elim (same_or_not m l) [
        | inl same ↦ subst (λ x. All (Blocks clauses) (entries_of v x)) (sym same)
            (subst (λ es. All (Blocks clauses) es) (sym more) (All-push (Blocks clauses) (entries_of u l) (number, blocker) (h l) is))
        | inr other ↦ subst (λ es. All (Blocks clauses) es) (sym (rest m other)) (h m)
      ];
      kept = λ m n h. elim (same_or_not m l) [
        | inl same ↦
            let here = subst (λ x. Contains (list_of u x) n) same h in
            let more = subst (λ ns. Contains ns n) (sym list) (Contains-append_left (list_of u l) (number ∷ []) n here) in
            subst (λ x. Contains (list_of v x) n) (sym same) more
        | inr other ↦ subst (λ ns. Contains ns n) (sym (others m other)) h
      ];
      other_lists = others;
    }

pub listed_before : (u : WatchLists) (l other : Literal) (number : ℕ) (blocker : Literal) → 1 ≤ number → HasOther (pair_of u number) l other
    → Lists u u l number blocker
listed_before u l other number blocker from h = record {
  same_pairs = refl;
  listed = λ clauses w. ⊎_elim
      (λ e. subst (λ x. Contains (list_of u x) number) e.0 (w.watched number from h.0).first_listed)
      (λ e. subst (λ x. Contains (list_of u x) number) e.0 (w.watched number from h.0).second_listed) h.1;
  blocked = λ clauses is h m. h m;
  kept = λ m n k. k;
  other_lists = λ m apart. refl;
}

-- a clause is found by two literals from now on: it comes into both lists, and then its pair is set
module _ (u a b v : WatchLists) (one other : Literal) (number : ℕ) (from : 1 ≤ number) (blocker : Literal)
    (first : Lists u a one number blocker) (second : Lists a b other number one)
    (lists : v.lists ≡ b.lists) (pair : pair_of v number ≡ (one, other)) (others : (n : ℕ) → 1 ≤ n → n ≢ number → IsPairKept b.pairs v.pairs n) where
  watch_pairs : (n : ℕ) → 1 ≤ n → n ≢ number → IsPairKept u.pairs v.pairs n
  watch_pairs n is apart = subst (λ ps. IsPairKept ps v.pairs n) (second.same_pairs ∙ first.same_pairs) (others n is apart)

  in_lists : (m : Literal) (n : ℕ) → Contains (list_of b m) n → Contains (list_of v m) n
  in_lists m n h = let e : list_of v m ≡ list_of b m = ap (λ ls. list_of (record v { lists = ls }) m) lists in subst (λ ns. Contains ns n) (sym e) h

  all_in : (m : Literal) (n : ℕ) → Contains (list_of u m) n → Contains (list_of v m) n
  all_in m n h = in_lists m n (second.kept m n (first.kept m n h))

  pub watch_watches : (clauses : List (List Literal)) → Contains (clause_at clauses number) one → Contains (clause_at clauses number) other
      → Contains (clause_at clauses number) blocker → AreWatchesOf u clauses → AreWatchesOf v clauses
  watch_watches clauses has_one has_other blocks h = record {
    watched = watched;
    blocked = λ m. subst (λ es. All (Blocks clauses) es) (sym (entries m))
        (second.blocked clauses has_one (first.blocked clauses blocks h.blocked) m);
  }
    where
      entries : (m : Literal) → entries_of v m ≡ entries_of b m
      entries m = ap (λ ls. entries_of (record v { lists = ls }) m) lists

      watched : (n : ℕ) → 1 ≤ n → (pair_of v n).0 ≢ (pair_of v n).1 → IsWatched v (clause_at clauses n) n
      watched n is apart = elim (cases_eq n number) [
        | inl same ↦ subst (λ k. IsWatched v (clause_at clauses k) k) (sym same) (record {
          first = subst (λ (p : Literal × Literal). Contains (clause_at clauses number) p.0) (sym pair) has_one;
          second = subst (λ (p : Literal × Literal). Contains (clause_at clauses number) p.1) (sym pair) has_other;
          first_listed = subst (λ (p : Literal × Literal). Contains (list_of v p.0) number) (sym pair)
              (in_lists one number (second.kept one number (first.listed clauses h)));
          second_listed = subst (λ (p : Literal × Literal). Contains (list_of v p.1) number) (sym pair)
              (in_lists other number (second.listed clauses
              (watches_kept u a clauses first.same_pairs first.kept (first.blocked clauses blocks h.blocked) h)));
        })
        | inr different ↦ ⊎_elim
            (λ e. watched_kept u v (clause_at clauses n) n e all_in (h.watched n is (apart_kept (pair_of u n) (pair_of v n) e apart)))
            (λ e. absurd (apart e.1))
            (watch_pairs n is different)
      ]

-- ---- a number is taken out of a list

pub swap_length : (xs : List ℕ) (i : ℕ) → i < length xs → length (swap_remove xs i 0) + 1 ≡ length xs
swap_length xs i within = omega (arith, length-take (length xs - 1) (set xs i (get_or xs (length xs - 1) 0)), length-set xs i (get_or xs (length xs - 1) 0))

pub swap_keeps : (xs : List ℕ) (i from n : ℕ) → i < length xs → from ≤ i → n ≢ get_or xs i 0 → (k : ℕ) → from ≤ k → k < length xs → get_or xs k 0 ≡ n
    → (j : ℕ) × (from ≤ j) × (j < length (swap_remove xs i 0)) × (get_or (swap_remove xs i 0) j 0 ≡ n)
swap_keeps xs i from n within low apart k above below is =
    let last = length xs - 1 in
    let moved = set xs i (get_or xs last 0) in
    let size = swap_length xs i within in
    let not_here : k ≢ i = λ e. apart (sym is ∙ ap (λ j. get_or xs j 0) e) in
    elim (cases_eq k last) [
      | inl same ↦
          let lower : i < last = omega (arith, same, not_here) in (
            i,
            low,
            omega (arith, lower, size),
            get_or-take last moved i 0 lower ∙ (get_or-set_same xs i (get_or xs last 0) 0 within ∙ (sym (ap (λ j. get_or xs j 0) same) ∙ is)),
          )
      | inr other ↦
          let lower : k < last = omega (arith, other, below) in
          (k, above, omega (arith, lower, size), get_or-take last moved k 0 lower ∙ (get_or-set_other xs i k (get_or xs last 0) 0 not_here ∙ is))
    ]

length-numbers : (es : List (ℕ × Literal)) → length (numbers_in es) ≡ length es
length-numbers es = length-map es (λ e. e.0)

numbers-swap : (es : List (ℕ × Literal)) (i : ℕ) → i < length es → numbers_in (swap_remove es i no_entry) ≡ swap_remove (numbers_in es) i 0
numbers-swap es i within =
    let f : ℕ × Literal → ℕ = λ e. e.0 in
    let last = length es - 1 in
    let moved = get_or es last no_entry in
    let same : f moved ≡ get_or (numbers_in es) last 0 = sym (get_or-map f es last no_entry) in
    sym (take-map f last (set es i moved)) ∙ (ap (take last) (map-set f es i moved ∙ ap (λ n. set (numbers_in es) i n) same)
    ∙ ap (λ n. take (n - 1) (set (numbers_in es) i (get_or (numbers_in es) (n - 1) 0))) (sym (length-numbers es)))

swap_all : (P : ℕ × Literal → Type 0) (es : List (ℕ × Literal)) (i : ℕ) → i < length es → All P es → All P (swap_remove es i no_entry)
swap_all P es i within h =
    let last = length es - 1 in
    let moved = get_or es last no_entry in
    All-take P last (set es i moved) (All-set P es i moved (h last no_entry (omega (arith, within))) h)

module _ (u v : WatchLists) (l : Literal) (place number : ℕ) (within : place < length (list_of u l)) (here : number ≡ get_or (list_of u l) place 0)
    (pairs : v.pairs ≡ u.pairs) (rest : (m : Literal) → m ≢ l → entries_of v m ≡ entries_of u m)
    (fewer : entries_of v l ≡ swap_remove (entries_of u l) place no_entry)
  where
    others : (m : Literal) → m ≢ l → list_of v m ≡ list_of u m
    others m apart = ap numbers_in (rest m apart)

    list : list_of v l ≡ swap_remove (list_of u l) place 0
    list = ap numbers_in fewer ∙ numbers-swap (entries_of u l) place (subst (λ n. place < n) (length-numbers (entries_of u l)) within)

    out_blocked : (clauses : List (List Literal)) → ((m : Literal) → All (Blocks clauses) (entries_of u m)) → (m : Literal)
        → All (Blocks clauses) (entries_of v m)
    out_blocked clauses h m = elim (same_or_not m l) [
      | inl same ↦ subst (λ x. All (Blocks clauses) (entries_of v x)) (sym same) (subst (λ es. All (Blocks clauses) es) (sym fewer)
          (swap_all (Blocks clauses) (entries_of u l) place (subst (λ n. place < n) (length-numbers (entries_of u l)) within) (h l)))
      | inr other ↦ subst (λ es. All (Blocks clauses) es) (sym (rest m other)) (h m)
    ]

    pub out_pending : (n : ℕ) → n ≢ number → Pends u l place n → Pends v l place n
    out_pending n apart p =
        let q = swap_keeps (list_of u l) place place n within (omega arith) (λ e. apart (e ∙ sym here)) p.0 p.1 p.2 p.3 in
        (q.0, q.1, subst (λ ns. q.0 < length ns) (sym list) q.2, subst (λ ns. get_or ns q.0 0 ≡ n) (sym list) q.3)

    still_there : (m : Literal) (n : ℕ) → (m ≡ l → n ≢ number) → Contains (list_of u m) n → Contains (list_of v m) n
    still_there m n apart h = elim (same_or_not m l) [
      | inl same ↦
          let g = subst (λ x. Contains (list_of u x) n) same h in
          let q = swap_keeps (list_of u l) place 0 n within (omega arith) (λ e. apart same (e ∙ sym here)) g.0 (omega arith) g.1
          (get_or_default (list_of u l) g.0 0 n g.1 ∙ g.2) in
          let is : get_or (list_of v l) q.0 0 ≡ n = subst (λ ns. get_or ns q.0 0 ≡ n) (sym list) q.3 in
          let inside : q.0 < length (list_of v l) = subst (λ ns. q.0 < length ns) (sym list) q.2 in
          subst (λ x. Contains (list_of v x) n) (sym same) (q.0, inside, get_or_default (list_of v l) q.0 n 0 inside ∙ is)
      | inr other ↦ subst (λ ns. Contains ns n) (sym (others m other)) h
    ]

    pub out_watches : HasNot (pair_of u number) l → (clauses : List (List Literal)) → AreWatchesOf u clauses → AreWatchesOf v clauses
    out_watches not clauses h = record { watched = watched; blocked = out_blocked clauses h.blocked } where
      watched : (n : ℕ) → 1 ≤ n → (pair_of v n).0 ≢ (pair_of v n).1 → IsWatched v (clause_at clauses n) n
      watched n from apart =
          let same : pair_of v n ≡ pair_of u n = ap (λ ps. pair_in ps n) pairs in
          let apart_before = apart_kept (pair_of u n) (pair_of v n) same apart in
          let w = h.watched n from apart_before in
          let not_first : (pair_of u n).0 ≡ l → n ≢ number = λ e k. (not (subst (λ j. (pair_of u j).0 ≢ (pair_of u j).1) k apart_before)).0
          (subst (λ j. (pair_of u j).0 ≡ l) k e) in
          let not_second : (pair_of u n).1 ≡ l → n ≢ number = λ e k. (not (subst (λ j. (pair_of u j).0 ≢ (pair_of u j).1) k apart_before)).1
          (subst (λ j. (pair_of u j).1 ≡ l) k e) in
          record {
            first = subst (λ (p : Literal × Literal). Contains (clause_at clauses n) p.0) (sym same) w.first;
            second = subst (λ (p : Literal × Literal). Contains (clause_at clauses n) p.1) (sym same) w.second;
            first_listed = subst (λ (p : Literal × Literal). Contains (list_of v p.0) n) (sym same) (still_there (pair_of u n).0 n not_first w.first_listed);
            second_listed = subst (λ (p : Literal × Literal). Contains (list_of v p.1) n) (sym same) (still_there (pair_of u n).1 n not_second w.second_listed);
          }
