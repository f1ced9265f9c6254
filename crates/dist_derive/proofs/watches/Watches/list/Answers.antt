use Rattle.std.proofs.Common.{◌≡◌, ◌≢◌, [], ◌∷◌, ◌++◌, Result, Ok, Err, OnOk}
use Rattle.dist_clause.specs.Formula.{Literal}
use Rattle.dist_derive.specs.Watches.{Lists, entries_of}
use Rattle.dist_derive.proofs.WatchLemmas.{listed_more, listed_before}
use Rattle.dist_derive.proofs.watches.Watches.list.Goals as goal

on_ok_all : {X E : Type 0} (A B C D : Type 0) (r : Result X E) → (A → B → C → D) → OnOk r A → OnOk r B → OnOk r C → OnOk r D
on_ok_all A B C D (Ok x) f a b d = f a b d
on_ok_all A B C D (Err e) f a b d = tt

pub returns-then-is_by : goal.returns-then-is_by
returns-then-is_by c =
    let other = c.is_by.ensures.yes c.if-is_by.true in
    listed_before c.args.self.now c.args.literal other.0 c.args.number c.args.blocker c.requires.from_one other.1

pub returns-else-is_by : goal.returns-else-is_by
returns-else-is_by c =
    let u = c.args.self.now in
    let v = c.put.new.self in
    let l = c.args.literal in
    on_ok_all (v.pairs ≡ u.pairs) ((m : Literal) → m ≢ l → entries_of v m ≡ entries_of u m)
    (entries_of v l ≡ entries_of u l ++ (c.args.number, c.args.blocker) ∷ [])
    (Lists u v l c.args.number c.args.blocker) c.put.result (λ pairs others list. listed_more u v l c.args.number c.args.blocker pairs others list)
    c.put.ensures.same_pairs c.put.ensures.other_lists c.put.ensures.list
