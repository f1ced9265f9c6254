use Rattle.std.proofs.Common.{◌≡◌, refl}
use Rattle.std.proofs.lemmas.Bool.{false≢true}
use Rattle.std.proofs.lemmas.Result.{on_ok_weaker}
use Rattle.dist_space_clauses.proofs.MovingLemmas.{IsAlong, notes-nothing, notes-same}
use Rattle.dist_space_clauses.proofs.movers.Movers.note_entry.Goals as goal

pub returns-then-goes_along : goal.returns-then-goes_along
returns-then-goes_along c =
    let p = c.args.package.now in
    let entry = c.args.entry.now in
    on_ok_weaker c.note.result
    (notes-same c.args.self.now c.note.new.self (λ q n. (entry.name ≡ q) × (c.args.number ≡ n)) (λ q n. IsAlong p q entry × (c.args.number ≡ n))
    (λ q n h. ((c.if-goes_along.ensures.0 refl, h.0), h.1)) (λ q n h. (h.0.1, h.1))) c.note.ensures

pub returns : goal.returns
returns c =
    notes-nothing c.args.self.now (λ q n. IsAlong c.args.package.now q c.args.entry.now × (c.args.number ≡ n))
    (λ q n h. false≢true (c.if-goes_along.ensures.1 h.0.0))
