-- What a log keeps between two tests.
use Rattle.std.proofs.Common.{◌≡◌, ℕ, ⊎_elim, inl, inr, ◌-◌, ◌≤◌, ◌↔◌, Bool, true, false, IsTrue, List, [], ◌∷◌, ◌++◌, length, take, get_or, refl, ap}
use Rattle.std.proofs.Common.{sym, subst, ◌∙◌, append_assoc, arith, length-take}
use Rattle.std.specs.List.{All, Contains}
use Rattle.std.proofs.lemmas.Bool.{cases_lt, false≢true, true≢false}
use Rattle.std.proofs.lemmas.List.{length_push, get_or_append_left, get_or_past, take_all, take-append-le}
use Rattle.std.proofs.lemmas.List.Elements.{All-append, All-nil}
use Rattle.dist_clause.specs.Formula.{Literal}
use Rattle.dist_clause.specs.ClauseList.{clause_at}
use Rattle.dist_derive.specs.ContainmentPrivate.{ContainsAll}
use Rattle.dist_derive.specs.Propagation.{IsPropagated}
use Rattle.dist_derive.specs.New.{LeavesFirstUnset}
use Rattle.dist_derive.specs.TrueLiterals.{LiteralList}
use Rattle.dist_derive.specs.SweepPrivate.{IsForced, IsRefuted}
use Rattle.dist_derive.specs.AssumePrivate.{AssumesAll}
use Rattle.dist_derive.specs.Watches.{WatchLists, entries_of, pair_of, AreWatchesOf, IsWatched, IsFree, IsGuarded, StayFree}
use Rattle.dist_derive.specs.WatchesPrivate.{AllGuarded, Advances, Stands}
use Rattle.dist_derive.specs.WatchesPrivate.{WatchingState, IsGrounded, IsStanding, IsStandingIfMade, StandsFor, Tries}
use Rattle.dist_derive.proofs.AssumeLemmas.{ContainsAll-first, ContainsAll-itself, ContainsAll-second, ContainsAll-then, take-all, front-then}
use Rattle.dist_derive.proofs.BeginLemmas.{Begins, All-fewer, begins_unset, unset_begins}
use Rattle.dist_derive.proofs.GuardLemmas.{true_one_more, ContainsAll-take, take-front}

-- ---- no clause is taken in

stands_nothing : (w : WatchLists) (clauses : List (List Literal)) (assumptions trues : List Literal) (taken : ℕ) → assumptions ≡ [] → trues ≡ []
    → taken ≡ 0 → Stands w clauses assumptions trues taken
stands_nothing w clauses assumptions trues taken no_assumption no_literal none = record {
  within = omega (arith, none);
  assumed = subst (λ ls. ContainsAll trues ls) (sym no_assumption) (All-nil (Contains trues));
  forced = λ more _ _. subst (λ ls. ContainsAll more ls) (sym no_literal) (All-nil (Contains more));
  guarded = λ number from to. absurd (omega (arith, from, to, none));
}

pub standing_made : (clauses : List (List Literal)) (variables : ℕ) (watching : WatchingState) → AreWatchesOf watching.watches clauses
    → watching.literals ≡ record { variables = variables; literals = [] } → watching.ground ≡ 0 → watching.grounded ≡ 0 → watching.assumptions ≡ []
    → watching.taken ≡ 0 → IsStanding clauses variables watching
standing_made clauses variables watching watched literals ground grounded assumptions taken =
    let no_literal : watching.literals.literals ≡ [] = ap (λ (s : LiteralList). s.literals) literals in
    record {
      is_grounded = record {
        same_variables = ap (λ (s : LiteralList). s.variables) literals;
        within = omega (arith, ground);
        watched = watched;
        alone = stands_nothing watching.watches clauses [] (take watching.ground watching.literals.literals) watching.grounded refl
            (ap (take watching.ground) no_literal ∙ take-nil watching.ground) grounded;
      };
      under = stands_nothing watching.watches clauses watching.assumptions watching.literals.literals watching.taken assumptions no_literal taken;
    }
  where
    take-nil : (n : ℕ) → ◌≡◌ {A = List Literal} (take n []) []
    take-nil n = take_all n [] (omega arith)

-- ---- to the ground, and the ground anew

-- the state whose literals are the ground
pub standing_ground : (clauses : List (List Literal)) (variables : ℕ) (old new : WatchingState) → IsGrounded clauses variables old
    → new.watches ≡ old.watches → new.literals ≡ record old.literals { literals = take old.ground old.literals.literals }
    → new.ground ≡ length new.literals.literals → new.grounded ≡ old.grounded → new.assumptions ≡ [] → new.taken ≡ old.grounded
    → IsStanding clauses variables new
standing_ground clauses variables old new h watches literals ground grounded assumptions taken =
    let lits : new.literals.literals ≡ take old.ground old.literals.literals = ap (λ (s : LiteralList). s.literals) literals in
    let alone : Stands new.watches clauses [] new.literals.literals old.grounded =
    subst (λ w. Stands w clauses [] new.literals.literals old.grounded) (sym watches)
    (subst (λ ls. Stands old.watches clauses [] ls old.grounded) (sym lits) h.alone) in
    record {
      is_grounded = record {
        same_variables = ap (λ (s : LiteralList). s.variables) literals ∙ h.same_variables;
        within = omega (arith, ground);
        watched = subst (λ w. AreWatchesOf w clauses) (sym watches) h.watched;
        alone = subst (λ n. Stands new.watches clauses [] (take new.ground new.literals.literals) n) (sym grounded)
            (subst (λ ls. Stands new.watches clauses [] ls old.grounded)
            (sym (ap (λ n. take n new.literals.literals) ground ∙ take-all new.literals.literals)) alone);
      };
      under = subst (λ n. Stands new.watches clauses new.assumptions new.literals.literals n) (sym taken)
          (subst (λ ls. Stands new.watches clauses ls new.literals.literals old.grounded) (sym assumptions) alone);
    }

-- all literals are the ground from now on
pub standing_anew : (clauses : List (List Literal)) (variables : ℕ) (old new : WatchingState) → IsStanding clauses variables old
    → old.assumptions ≡ [] → new.watches ≡ old.watches → new.literals ≡ old.literals → new.ground ≡ length old.literals.literals
    → new.grounded ≡ old.taken → new.assumptions ≡ old.assumptions → new.taken ≡ old.taken → IsStanding clauses variables new
standing_anew clauses variables old new h none watches literals ground grounded assumptions taken =
    let lits : new.literals.literals ≡ old.literals.literals = ap (λ (s : LiteralList). s.literals) literals in
    let under : Stands new.watches clauses old.assumptions new.literals.literals old.taken =
    subst (λ w. Stands w clauses old.assumptions new.literals.literals old.taken) (sym watches)
    (subst (λ ls. Stands old.watches clauses old.assumptions ls old.taken) (sym lits) h.under) in
    record {
      is_grounded = record {
        same_variables = ap (λ (s : LiteralList). s.variables) literals ∙ h.is_grounded.same_variables;
        within = omega (arith, ground, ap length lits);
        watched = subst (λ w. AreWatchesOf w clauses) (sym watches) h.is_grounded.watched;
        alone = subst (λ n. Stands new.watches clauses [] (take new.ground new.literals.literals) n) (sym grounded)
            (subst (λ ls. Stands new.watches clauses [] ls old.taken)
            (sym (ap (λ n. take n new.literals.literals) (ground ∙ sym (ap length lits)) ∙ take-all new.literals.literals))
            (subst (λ ls. Stands new.watches clauses ls new.literals.literals old.taken) none under));
      };
      under = subst (λ n. Stands new.watches clauses new.assumptions new.literals.literals n) (sym taken)
          (subst (λ ls. Stands new.watches clauses ls new.literals.literals old.taken) (sym assumptions) under);
    }

-- ---- a log that grows

module _ (clauses : List (List Literal)) (clause : List Literal) where
  same_clause : (number : ℕ) → 1 ≤ number → number ≤ length clauses → clause_at (clauses ++ clause ∷ []) number ≡ clause_at clauses number
  same_clause number from to = get_or_append_left clauses (clause ∷ []) [] (number - 1) (omega arith)

  -- a clause that has a literal is the same in the longer log
  same_nonempty : (number : ℕ) (l : Literal) → Contains (clause_at clauses number) l → clause_at (clauses ++ clause ∷ []) number ≡ clause_at clauses number
  same_nonempty number l has = elim (cases_lt (number - 1) (length clauses)) [
    | inl within ↦ get_or_append_left clauses (clause ∷ []) [] (number - 1) within
    | inr past ↦
        let none = subst (λ c. Contains c l) (get_or_past clauses (number - 1) [] past) has in
        absurd (omega (arith, none.1))
  ]

  watches_appended : (w : WatchLists) → AreWatchesOf w clauses → AreWatchesOf w (clauses ++ clause ∷ [])
  watches_appended w h = record {
    watched = λ number from apart.
        let watched = h.watched number from apart in
        subst (λ c. IsWatched w c number) (sym (same_nonempty number (pair_of w number).0 watched.first)) watched;
    blocked = λ l k d within.
        let has = h.blocked l k d within in
        subst (λ c. Contains c (get_or (entries_of w l) k d).1) (sym (same_nonempty (get_or (entries_of w l) k d).0 (get_or (entries_of w l) k d).1 has)) has;
  }

  stands_appended : (w : WatchLists) (assumptions trues : List Literal) (taken : ℕ) → Stands w clauses assumptions trues taken
      → Stands w (clauses ++ clause ∷ []) assumptions trues taken
  stands_appended w assumptions trues taken h =
      let within = h.within in
      let same = sym (take-append-le taken clauses (clause ∷ []) within) in
      record {
        within = omega (arith, within, length_push clauses clause);
        assumed = h.assumed;
        forced = subst (λ cs. IsForced cs assumptions trues) same h.forced;
        guarded = λ number from to. subst (λ c. IsGuarded w trues trues c number) (sym (same_clause number from (omega arith))) (h.guarded number from to);
      }

  standing_pushed : (variables : ℕ) (watching : WatchingState) → IsStanding clauses variables watching
      → IsStanding (clauses ++ clause ∷ []) variables watching
  standing_pushed variables watching h = record {
    is_grounded = record {
      same_variables = h.is_grounded.same_variables;
      within = h.is_grounded.within;
      watched = watches_appended watching.watches h.is_grounded.watched;
      alone = stands_appended watching.watches [] (take watching.ground watching.literals.literals) watching.grounded h.is_grounded.alone;
    };
    under = stands_appended watching.watches watching.assumptions watching.literals.literals watching.taken h.under;
  }

pub standing_appended : (inputs lines : List (List Literal)) (variables : ℕ) (clause : List Literal) (watching : WatchingState)
    → IsStandingIfMade (inputs ++ lines) variables watching → IsStandingIfMade (inputs ++ (lines ++ clause ∷ [])) variables watching
standing_appended inputs lines variables clause watching h is =
    subst (λ cs. IsStanding cs variables watching) (append_assoc inputs lines (clause ∷ []))
    (standing_pushed (inputs ++ lines) clause variables watching (h is))

-- ---- what stays when literals have come on top

stands_stay : (u v : WatchLists) (clauses : List (List Literal)) (assumptions trues seen : List Literal) (taken : ℕ) → StayFree u v trues
    → ContainsAll trues seen → Stands u clauses assumptions seen taken → Stands v clauses assumptions seen taken
stands_stay u v clauses assumptions trues seen taken stay among h = record {
  within = h.within;
  assumed = h.assumed;
  forced = h.forced;
  guarded = λ number from to. ⊎_elim (λ t. inl t) (λ f. inr (stay seen number among from f)) (h.guarded number from to);
}

pub tries_none : (clauses : List (List Literal)) (w : WatchLists) (s : LiteralList) → AreWatchesOf w clauses → Tries clauses w w s s
tries_none clauses w s watched = record {
  same_variables = refl;
  front = take-all s.literals;
  stay = λ seen number among from f. f;
  watches = watched;
}

pub tries_advance : (clauses : List (List Literal)) (last : ℕ) (u v : WatchLists) (s b : LiteralList) → AreWatchesOf u clauses
    → Advances clauses last u v s b → Tries clauses u v s b
tries_advance clauses last u v s b watched h = record {
  same_variables = h.grows.same_variables;
  front = h.grows.front;
  stay = h.stay;
  watches = h.watches watched;
}

module _ (clauses : List (List Literal)) (u : WatchLists) (s m : LiteralList) (literals : List Literal) (fine : Bool)
    (watched : AreWatchesOf u clauses) (assumes : AssumesAll s m literals fine) where
  pub tries_assume : Tries clauses u u s m
  tries_assume = record {
    same_variables = assumes.same_variables;
    front = assumes.front;
    stay = λ seen number among from f. f;
    watches = watched;
  }

  pub tries_both : (last : ℕ) (v : WatchLists) (b : LiteralList) → Advances clauses last u v m b → Tries clauses u v s b
  tries_both last v b h = record {
    same_variables = h.grows.same_variables ∙ assumes.same_variables;
    front = front-then s.literals m.literals b.literals assumes.front h.grows.front assumes.longer;
    stay = λ seen number among from f. h.stay seen number (ContainsAll-then seen s.literals m.literals among assumes.kept) from f;
    watches = h.watches watched;
  }

  -- guards at the literals of before
  pub assumed_guards : (last : ℕ) → AllGuarded u clauses last s.literals s.literals
      → AllGuarded u clauses last m.literals (take (length s.literals) m.literals)
  assumed_guards last guarded = λ number from to. ⊎_elim
      (λ t. inl (true_one_more s.literals m.literals (clause_at clauses number) assumes.kept t))
      (λ f. inr (subst (λ seen. IsFree u seen number) (sym assumes.front) f))
      (guarded number from to)

tries_longer : (clauses : List (List Literal)) (u v : WatchLists) (s b : LiteralList) → Tries clauses u v s b → length s.literals ≤ length b.literals
tries_longer clauses u v s b h = omega (arith, ap length h.front, length-take (length s.literals) b.literals)

pub grounded_tries : (clauses : List (List Literal)) (variables : ℕ) (old new : WatchingState) → IsGrounded clauses variables old
    → Tries clauses old.watches new.watches old.literals new.literals → new.ground ≡ old.ground → new.grounded ≡ old.grounded
    → IsGrounded clauses variables new
grounded_tries clauses variables old new h tries ground grounded =
    let same : take new.ground new.literals.literals ≡ take old.ground old.literals.literals =
    ap (λ n. take n new.literals.literals) ground ∙ take-front old.ground old.literals.literals new.literals.literals h.within tries.front in
    record {
      same_variables = tries.same_variables ∙ h.same_variables;
      within = omega (arith, ground, h.within, tries_longer clauses old.watches new.watches old.literals new.literals tries);
      watched = tries.watches;
      alone = subst (λ n. Stands new.watches clauses [] (take new.ground new.literals.literals) n) (sym grounded)
          (subst (λ ls. Stands new.watches clauses [] ls old.grounded) (sym same)
          (stands_stay old.watches new.watches clauses [] old.literals.literals (take old.ground old.literals.literals) old.grounded tries.stay
          (ContainsAll-take old.ground old.literals.literals) h.alone));
    }

-- a test has come and gone
pub standing_after : (clauses : List (List Literal)) (variables : ℕ) (old new : WatchingState) (v : WatchLists) (b : LiteralList)
    → IsStanding clauses variables old → Tries clauses old.watches v old.literals b → new.watches ≡ v
    → new.literals ≡ record b { literals = take (length old.literals.literals) b.literals } → new.ground ≡ old.ground → new.grounded ≡ old.grounded
    → new.assumptions ≡ old.assumptions → new.taken ≡ old.taken → IsStanding clauses variables new
standing_after clauses variables old new v b h tries watches literals ground grounded assumptions taken =
    let lits : new.literals.literals ≡ old.literals.literals = ap (λ (s : LiteralList). s.literals) literals ∙ tries.front in
    let here : Tries clauses old.watches new.watches old.literals new.literals = record {
      same_variables = ap (λ (s : LiteralList). s.variables) literals ∙ tries.same_variables;
      front = ap (take (length old.literals.literals)) lits ∙ take-all old.literals.literals;
      stay = subst (λ w. StayFree old.watches w old.literals.literals) (sym watches) tries.stay;
      watches = subst (λ w. AreWatchesOf w clauses) (sym watches) tries.watches;
    } in
    record {
      is_grounded = grounded_tries clauses variables old new h.is_grounded here ground grounded;
      under = subst (λ n. Stands new.watches clauses new.assumptions new.literals.literals n) (sym taken)
          (subst (λ ls. Stands new.watches clauses ls new.literals.literals old.taken) (sym assumptions)
          (subst (λ ls. Stands new.watches clauses old.assumptions ls old.taken) (sym lits)
          (stands_stay old.watches new.watches clauses old.assumptions old.literals.literals old.literals.literals old.taken here.stay
          (ContainsAll-itself old.literals.literals) h.under)));
    }

-- ---- more clauses, and assumptions

-- true literals that hold the assumptions and are closed hold what fewer clauses gave
pub held : (w : WatchLists) (clauses : List (List Literal)) (assumptions seen : List Literal) (taken last : ℕ) → Stands w clauses assumptions seen taken
    → taken ≤ last → last ≤ length clauses → (trues : List Literal) → ContainsAll trues assumptions
    → All (IsPropagated trues) (take last clauses) → ContainsAll trues seen
held w clauses assumptions seen taken last h less within trues all propagated =
    h.forced trues all (All-fewer (IsPropagated trues) clauses taken last less within propagated)

pub refused_by : (clauses : List (List Literal)) (assumptions seen : List Literal)
    → ((trues : List Literal) → ContainsAll trues assumptions → All (IsPropagated trues) clauses → ContainsAll trues seen)
    → IsRefuted clauses seen → (clause : List Literal) → ¬ LeavesFirstUnset clauses assumptions clause
refused_by clauses assumptions seen holds refuted [] h = h
refused_by clauses assumptions seen holds refuted (first ∷ rest) h =
    let settled = h.1.settled in
    refuted h.0 (holds h.0 h.1.assumed settled.propagated) settled.propagated settled.no_conflict

pub refused_early : (clauses : List (List Literal)) (before assumed : List Literal) (s m : LiteralList)
    → ((trues : List Literal) → ContainsAll trues before → All (IsPropagated trues) clauses → ContainsAll trues s.literals)
    → AssumesAll s m assumed false → (clause : List Literal) → ¬ LeavesFirstUnset clauses (before ++ assumed) clause
refused_early clauses before assumed s m holds assumes [] h = h
refused_early clauses before assumed s m holds assumes (first ∷ rest) h =
    let settled = h.1.settled in
    assumes.refused refl h.0 (holds h.0 (ContainsAll-first before assumed h.0 h.1.assumed) settled.propagated)
    (ContainsAll-second before assumed h.0 h.1.assumed) settled.consistent

-- more clauses are taken in
pub standing_more : (clauses : List (List Literal)) (variables last : ℕ) (old new : WatchingState) → IsStanding clauses variables old
    → old.taken ≤ last → last ≤ length clauses → Advances clauses last old.watches new.watches old.literals new.literals
    → AllGuarded new.watches clauses last new.literals.literals new.literals.literals → new.ground ≡ old.ground → new.grounded ≡ old.grounded
    → new.assumptions ≡ old.assumptions → new.taken ≡ last → IsStanding clauses variables new
standing_more clauses variables last old new h less within step guarded ground grounded assumptions taken = record {
  is_grounded = grounded_tries clauses variables old new h.is_grounded
      (tries_advance clauses last old.watches new.watches old.literals new.literals h.is_grounded.watched step) ground grounded;
  under = subst (λ n. Stands new.watches clauses new.assumptions new.literals.literals n) (sym taken)
      (subst (λ ls. Stands new.watches clauses ls new.literals.literals last) (sym assumptions) (record {
        within = within;
        assumed = ContainsAll-then old.assumptions old.literals.literals new.literals.literals h.under.assumed step.grows.kept;
        forced = λ trues all propagated. step.grows.forced trues
            (held old.watches clauses old.assumptions old.literals.literals old.taken last h.under less within trues all propagated) propagated;
        guarded = guarded;
      }));
}

-- what is true under assumptions is held by all that has these and is closed
pub taken_held : (clauses : List (List Literal)) (variables last : ℕ) (old : WatchingState) → IsStanding clauses variables old → old.taken ≡ last
    → (trues : List Literal) → ContainsAll trues old.assumptions → All (IsPropagated trues) (take last clauses)
    → ContainsAll trues old.literals.literals
taken_held clauses variables last old h was trues all propagated =
    h.under.forced trues all (subst (λ n. All (IsPropagated trues) (take n clauses)) (sym was) propagated)

-- and comes under more assumptions
pub standing_under : (clauses : List (List Literal)) (variables last : ℕ) (assumed : List Literal) (old new : WatchingState) (m : LiteralList)
    → IsStanding clauses variables old → old.taken ≡ last → AssumesAll old.literals m assumed true
    → Advances clauses last old.watches new.watches m new.literals
    → AllGuarded new.watches clauses last new.literals.literals new.literals.literals → new.ground ≡ old.ground → new.grounded ≡ old.grounded
    → new.assumptions ≡ old.assumptions ++ assumed → new.taken ≡ last → IsStanding clauses variables new
standing_under clauses variables last assumed old new m h was assumes step guarded ground grounded assumptions taken = record {
  is_grounded = grounded_tries clauses variables old new h.is_grounded
      (tries_both clauses old.watches old.literals m assumed true h.is_grounded.watched assumes last new.watches new.literals step) ground grounded;
  under = subst (λ n. Stands new.watches clauses new.assumptions new.literals.literals n) (sym taken)
      (subst (λ ls. Stands new.watches clauses ls new.literals.literals last) (sym assumptions) (record {
        within = subst (λ n. n ≤ length clauses) was h.under.within;
        assumed = All-append (Contains new.literals.literals) old.assumptions assumed
            (ContainsAll-then old.assumptions m.literals new.literals.literals
            (ContainsAll-then old.assumptions old.literals.literals m.literals h.under.assumed assumes.kept) step.grows.kept)
            (ContainsAll-then assumed m.literals new.literals.literals (assumes.assumed refl) step.grows.kept);
        forced = λ trues all propagated. step.grows.forced trues
            (assumes.least trues (taken_held clauses variables last old h was trues (ContainsAll-first old.assumptions assumed trues all) propagated)
            (ContainsAll-second old.assumptions assumed trues all)) propagated;
        guarded = guarded;
      }));
}

-- no more is true than the assumptions give
pub standing_begins : (clauses : List (List Literal)) (variables last : ℕ) (assumed : List Literal) (watching : WatchingState)
    → IsStanding clauses variables watching → watching.assumptions ≡ assumed → watching.taken ≡ last
    → Begins (take last clauses) assumed watching.literals.literals
standing_begins clauses variables last assumed watching h assumptions taken =
    subst (λ n. Begins (take n clauses) assumed watching.literals.literals) taken
    (subst (λ ls. Begins (take watching.taken clauses) ls watching.literals.literals) assumptions
    (record { assumed = h.under.assumed; forced = λ more all propagated. h.under.forced more all propagated }))

-- ---- what coming to assumptions leaves

module _ (clauses : List (List Literal)) (variables last : ℕ) (old new : WatchingState) (h : IsStanding clauses variables old) where
  pub grounded_more : AreWatchesOf old.watches clauses → Advances clauses last old.watches new.watches old.literals new.literals
      → new.ground ≡ old.ground → new.grounded ≡ old.grounded → IsGrounded clauses variables new
  grounded_more watched step ground grounded = grounded_tries clauses variables old new h.is_grounded
      (tries_advance clauses last old.watches new.watches old.literals new.literals watched step) ground grounded

  pub stands_more : old.taken ≤ last → last ≤ length clauses → Advances clauses last old.watches new.watches old.literals new.literals
      → AllGuarded new.watches clauses last new.literals.literals new.literals.literals → new.ground ≡ old.ground → new.grounded ≡ old.grounded
      → new.assumptions ≡ old.assumptions → new.taken ≡ last → StandsFor clauses variables old.assumptions last new true
  stands_more less within step guarded ground grounded assumptions taken = record {
    standing = standing_more clauses variables last old new h less within step guarded ground grounded assumptions taken;
    under = λ _. (assumptions, taken);
    refused = λ e. absurd (true≢false e);
  }

  pub stands_refuted : old.taken ≤ last → last ≤ length clauses → IsRefuted (take last clauses) old.literals.literals → IsStanding clauses variables new
      → StandsFor clauses variables old.assumptions last new false
  stands_refuted less within refuted standing = record {
    standing = standing;
    under = λ e. absurd (false≢true e);
    refused = λ _. refused_by (take last clauses) old.assumptions old.literals.literals
        (held old.watches clauses old.assumptions old.literals.literals old.taken last h.under less within) refuted;
  }

  module _ (assumed : List Literal) (m : LiteralList) (was : old.taken ≡ last) where
    pub grounded_under : (fine : Bool) → AssumesAll old.literals m assumed fine → Advances clauses last old.watches new.watches m new.literals
        → new.ground ≡ old.ground → new.grounded ≡ old.grounded → IsGrounded clauses variables new
    grounded_under fine assumes step ground grounded = grounded_tries clauses variables old new h.is_grounded
        (tries_both clauses old.watches old.literals m assumed fine h.is_grounded.watched assumes last new.watches new.literals step) ground grounded

    pub grounded_early : (fine : Bool) → AssumesAll old.literals m assumed fine → new.watches ≡ old.watches → new.literals ≡ m
        → new.ground ≡ old.ground → new.grounded ≡ old.grounded → IsGrounded clauses variables new
    grounded_early fine assumes watches literals ground grounded = grounded_tries clauses variables old new h.is_grounded
        (subst (λ w. Tries clauses old.watches w old.literals new.literals) (sym watches)
        (subst (λ s. Tries clauses old.watches old.watches old.literals s) (sym literals)
        (tries_assume clauses old.watches old.literals m assumed fine h.is_grounded.watched assumes))) ground grounded

    pub stands_under : AssumesAll old.literals m assumed true → Advances clauses last old.watches new.watches m new.literals
        → AllGuarded new.watches clauses last new.literals.literals new.literals.literals → new.ground ≡ old.ground → new.grounded ≡ old.grounded
        → new.assumptions ≡ old.assumptions ++ assumed → new.taken ≡ last → StandsFor clauses variables (old.assumptions ++ assumed) last new true
    stands_under assumes step guarded ground grounded assumptions taken = record {
      standing = standing_under clauses variables last assumed old new m h was assumes step guarded ground grounded assumptions taken;
      under = λ _. (assumptions, taken);
      refused = λ e. absurd (true≢false e);
    }

    pub stands_refuted_under : AssumesAll old.literals m assumed true → IsRefuted (take last clauses) m.literals → IsStanding clauses variables new
        → StandsFor clauses variables (old.assumptions ++ assumed) last new false
    stands_refuted_under assumes refuted standing = record {
      standing = standing;
      under = λ e. absurd (false≢true e);
      refused = λ _. refused_by (take last clauses) (old.assumptions ++ assumed) m.literals
          (λ trues all propagated. assumes.least trues
          (taken_held clauses variables last old h was trues (ContainsAll-first old.assumptions assumed trues all) propagated)
          (ContainsAll-second old.assumptions assumed trues all)) refuted;
    }

    pub stands_refused : AssumesAll old.literals m assumed false → IsStanding clauses variables new
        → StandsFor clauses variables (old.assumptions ++ assumed) last new false
    stands_refused assumes standing = record {
      standing = standing;
      under = λ e. absurd (false≢true e);
      refused = λ _. refused_early (take last clauses) old.assumptions assumed old.literals m
          (λ trues all propagated. taken_held clauses variables last old h was trues all propagated) assumes;
    }

-- what no clause can be new with alone, none can with assumptions
pub refused_alone : (clauses : List (List Literal)) (variables last : ℕ) (assumed : List Literal) (watching : WatchingState)
    → StandsFor clauses variables [] last watching false → StandsFor clauses variables assumed last watching false
refused_alone clauses variables last assumed watching h = record {
  standing = h.standing;
  under = λ e. absurd (false≢true e);
  refused = λ _. refused_more (take last clauses) (h.refused refl);
}
  where
    refused_more : (cs : List (List Literal)) → ((clause : List Literal) → ¬ LeavesFirstUnset cs [] clause) → (clause : List Literal)
        → ¬ LeavesFirstUnset cs assumed clause
    refused_more cs none [] t = t
    refused_more cs none (first ∷ rest) t = none (first ∷ rest)
        (t.0, record { settled = t.1.settled; assumed = All-nil (Contains t.0); denied = t.1.denied; unset = t.1.unset })

-- what the true literals leave unset, the assumptions do
pub told_under : (clauses : List (List Literal)) (variables last : ℕ) (assumed clause : List Literal) (watching : WatchingState) (answer : Bool)
    → IsStanding clauses variables watching → watching.assumptions ≡ assumed → watching.taken ≡ last
    → (IsTrue answer ↔ LeavesFirstUnset (take last clauses) watching.literals.literals clause)
    → IsTrue answer ↔ LeavesFirstUnset (take last clauses) assumed clause
told_under clauses variables last assumed clause watching answer h assumptions taken told =
    let begins = standing_begins clauses variables last assumed watching h assumptions taken in (
      λ e. unset_begins (take last clauses) assumed watching.literals.literals clause begins (told.0 e),
      λ g. told.1 (begins_unset (take last clauses) assumed watching.literals.literals clause begins g),
    )

-- what is left unset with more true literals is left unset with fewer assumptions
pub told_above : (clauses : List (List Literal)) (seen assumed clause : List Literal) → ContainsAll seen assumed
    → LeavesFirstUnset clauses seen clause → LeavesFirstUnset clauses assumed clause
told_above clauses seen assumed [] among h = h
told_above clauses seen assumed (first ∷ rest) among h = (
  h.0,
  record {
    settled = h.1.settled;
    assumed = ContainsAll-then assumed seen h.0 among h.1.assumed;
    denied = h.1.denied;
    unset = h.1.unset;
  },
)
