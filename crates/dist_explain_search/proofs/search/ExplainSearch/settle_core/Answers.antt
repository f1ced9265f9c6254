use Rattle.std.proofs.Common.{◌≡◌, ◌⊎◌, ◌∙◌, ℕ, ◌+◌, List, [], ◌∷◌, ◌++◌, ap, arith, length, length-append, rules, subst, sym}
use Rattle.std.specs.Prelude.{Contains, MatchOption, IfSome}
use Rattle.dist_outside.specs.DeskView.{DeskView}
use Rattle.dist_outside.specs.Files.{IsWriting}
use Rattle.dist_outside.specs.declared.trouble.WorkError.TheVariants.{NoMemory}
use Rattle.dist_line_write.specs.ScriptLaws.{two-grow}
use Rattle.dist_explain.specs.declared.asked.Asked.{Asked}
use Rattle.dist_explain_search.specs.SearchPrivate.{AreNumbers, Goes, IsAnsweredAt, IsSmaller, Marks, others_of}
use Rattle.dist_explain_search.proofs.GoingLemmas.{exit-stops, goes-join, goes-stop, stops-memory}
use Rattle.dist_explain_search.proofs.SettledLemmas.{core-answered}
use Rattle.dist_explain_search.proofs.TryLemmas.{all-done, all-left, closed, core-begun, few-left, goes-not, joined-is, mark-covers, mark-goes, opened}
use Rattle.dist_explain_search.proofs.TryLemmas.{popped-length, shrink-covers, shrink-goes, shrink-measure, skip-covers}
use Rattle.dist_explain_search.proofs.search.ExplainSearch.settle_core.Goals as goal

pub returns-in_err-left-clause-err : goal.returns-in_err-left-clause-err
returns-in_err-left-clause-err g c =
    let asked : Asked = c.args.self.now.asked in
    let d : DeskView = g.D.Desk.view c.args.desk.now in
    exit-stops asked (Marks asked c.args.first.items []) d d c.args.inquirer.now c.args.self.now.notes NoMemory c.from_residual.result
    c.from_residual.ensures.1
    (stops-memory c.file_grows.ensures.begin asked (Marks asked c.args.first.items []) d c.args.inquirer.now c.args.self.now.notes)

pub tries-init : goal.tries-init
tries-init g c =
    let d : DeskView = g.D.Desk.view c.args.desk.now in
    let none = c.new-done.ensures.items in
    record {
      writing = c.requires.writing;
      asked = search rules;
      variables = search rules;
      limit = search rules;
      core = c.requires.first;
      cover = all-left c.args.first.items c.new-done.result.items c.in_ok-left.left.items c.deref.result.now c.deref-2.result.now c.in_ok-left.ensures
          c.deref.ensures.value c.deref-2.ensures.value none;
      few = few-left c.args.first.items c.new-done.result.items c.in_ok-left.left.items c.deref.result.now c.deref-2.result.now c.in_ok-left.ensures
          c.deref.ensures.value c.deref-2.ensures.value none;
      more = core-begun c.file_grows.ensures.begin c.args.self.now.asked c.args.first.items c.new-done.result.items d c.args.inquirer.now
          c.args.self.now.notes none;
      grows = ([], c.file_grows.ensures.begin d);
    }

pub tries-preserved-then-not-is_open : goal.tries-preserved-then-not-is_open
tries-preserved-then-not-is_open g c =
    let core : List ℕ = c.tries.core.items in
    let done : List ℕ = c.tries.done.items in
    let front : List ℕ = c.pop.new.self.items in
    let long = popped-length c.tries.left.items front c.in-Some.one c.in-Some.ensures.items in
    record {
      writing = c.tries.invariant.writing;
      asked = c.tries.invariant.asked;
      variables = c.tries.invariant.variables;
      limit = c.tries.invariant.limit;
      core = c.tries.invariant.core;
      cover = skip-covers core done c.tries.left.items front c.in-Some.one c.in-Some.ensures.items c.tries.invariant.cover
          (closed core done c.deref-in-Some.result.now c.deref-in-Some-2.result.now c.in-Some.one c.is_open.result c.is_open.ensures
          c.deref-in-Some.ensures.value c.deref-in-Some-2.ensures.value c.if-not-is_open.true);
      few = omega (arith, long, c.tries.invariant.few);
      more = c.tries.invariant.more;
      grows = c.tries.invariant.grows;
    }

pub returns-in_err-fewer-clause-err : goal.returns-in_err-fewer-clause-err
returns-in_err-fewer-clause-err g c =
    let asked : Asked = c.args.self.now.asked in
    let first : List ℕ = c.args.first.items in
    let core : List ℕ = c.tries.core.items in
    let done : List ℕ = c.tries.done.items in
    let old : DeskView = g.D.Desk.view c.args.desk.now in
    let mid : DeskView = g.D.Desk.view c.tries.desk in
    let new : DeskView = g.D.Desk.view c.leave_out.new.desk in
    let open_now = opened core done c.deref-in-Some.result.now c.deref-in-Some-2.result.now c.in-Some.one c.is_open.result c.is_open.ensures
    c.deref-in-Some.ensures.value c.deref-in-Some-2.ensures.value c.if-not-is_open.false in
    exit-stops asked (Marks asked first []) old new c.args.inquirer.now c.args.self.now.notes c.in_err-fewer.field-0.0 c.from_residual-in_err-fewer.result
    c.from_residual-in_err-fewer.ensures.1
    (goes-stop c.file_grows.ensures.twice asked (Marks asked first []) (Marks asked core done) old mid new c.args.inquirer.now c.tries.inquirer
    c.args.self.now.notes c.tries.self.notes c.in_err-fewer.field-0.0 c.tries.invariant.more
    (goes-not asked c.tries.self.asked core c.deref-in-Some-3.result.now c.tries.invariant.asked c.deref-in-Some-3.ensures.value mid new c.tries.inquirer
    c.tries.inquirer c.tries.self.notes c.tries.self.notes done c.in_err-fewer.field-0.0 (c.in_err-fewer.ensures.err done open_now.1)))

pub returns-in_err-fewer-clause-grows : goal.returns-in_err-fewer-clause-grows
returns-in_err-fewer-clause-grows g c =
    two-grow c.file_grows.ensures.twice c.tries.invariant.grows.0 c.leave_out.ensures.grows.0 (g.D.Desk.view c.args.desk.now) (g.D.Desk.view c.tries.desk)
    (g.D.Desk.view c.leave_out.new.desk) c.tries.invariant.grows.1 c.leave_out.ensures.grows.1

pub returns-in_err-left-in-Some-2-clause-err : goal.returns-in_err-left-in-Some-2-clause-err
returns-in_err-left-in-Some-2-clause-err g c =
    let asked : Asked = c.args.self.now.asked in
    let first : List ℕ = c.args.first.items in
    let core : List ℕ = c.tries.core.items in
    let done : List ℕ = c.tries.done.items in
    let fewer : List ℕ = c.in-Some-2.fewer.items in
    let old : DeskView = g.D.Desk.view c.args.desk.now in
    let mid : DeskView = g.D.Desk.view c.tries.desk in
    let new : DeskView = g.D.Desk.view c.leave_out.new.desk in
    let open_now = opened core done c.deref-in-Some.result.now c.deref-in-Some-2.result.now c.in-Some.one c.is_open.result c.is_open.ensures
    c.deref-in-Some.ensures.value c.deref-in-Some-2.ensures.value c.if-not-is_open.false in
    let shrunk = subst (λ o. MatchOption o
    (Goes c.tries.self.asked (Marks c.tries.self.asked c.deref-in-Some-3.result.now done)
    (Marks c.tries.self.asked c.deref-in-Some-3.result.now (done ++ c.in-Some.one ∷ [])) mid new c.tries.inquirer c.leave_out.new.inquirer
    c.tries.self.notes c.leave_out.new.self.notes)
    (λ fewer. Goes c.tries.self.asked (Marks c.tries.self.asked c.deref-in-Some-3.result.now done) (Marks c.tries.self.asked fewer.items []) mid new
    c.tries.inquirer c.leave_out.new.inquirer c.tries.self.notes c.leave_out.new.self.notes)) c.in-Some-2.is (c.in_ok-fewer.ensures.ok done open_now.1) in
    exit-stops asked (Marks asked first []) old new c.args.inquirer.now c.args.self.now.notes NoMemory c.from_residual-in_err-left-in-Some-2.result
    c.from_residual-in_err-left-in-Some-2.ensures.1
    (goes-stop c.file_grows.ensures.twice asked (Marks asked first []) (Marks asked fewer []) old new new c.args.inquirer.now c.leave_out.new.inquirer
    c.args.self.now.notes c.leave_out.new.self.notes NoMemory
    (goes-join c.file_grows.ensures.twice asked (Marks asked first []) (Marks asked core done) (Marks asked fewer []) old mid new c.args.inquirer.now
    c.tries.inquirer c.leave_out.new.inquirer c.args.self.now.notes c.tries.self.notes c.leave_out.new.self.notes c.tries.invariant.more
    (shrink-goes asked c.tries.self.asked core c.deref-in-Some-3.result.now c.tries.invariant.asked c.deref-in-Some-3.ensures.value mid new
    c.tries.inquirer c.leave_out.new.inquirer c.tries.self.notes c.leave_out.new.self.notes done fewer shrunk))
    (stops-memory c.file_grows.ensures.begin asked (Marks asked fewer []) new c.leave_out.new.inquirer c.leave_out.new.self.notes))

pub returns-in_err-left-in-Some-2-clause-grows : goal.returns-in_err-left-in-Some-2-clause-grows
returns-in_err-left-in-Some-2-clause-grows g c =
    two-grow c.file_grows.ensures.twice c.tries.invariant.grows.0 c.leave_out.ensures.grows.0 (g.D.Desk.view c.args.desk.now) (g.D.Desk.view c.tries.desk)
    (g.D.Desk.view c.leave_out.new.desk) c.tries.invariant.grows.1 c.leave_out.ensures.grows.1

pub tries-smaller-in-Some-2 : goal.tries-smaller-in-Some-2
tries-smaller-in-Some-2 g c =
    let core : List ℕ = c.tries.core.items in
    let done : List ℕ = c.tries.done.items in
    let front : List ℕ = c.pop.new.self.items in
    let open_now = opened core done c.deref-in-Some.result.now c.deref-in-Some-2.result.now c.in-Some.one c.is_open.result c.is_open.ensures
    c.deref-in-Some.ensures.value c.deref-in-Some-2.ensures.value c.if-not-is_open.false in
    let told = subst (λ o. IfSome o (λ fewer. IsSmaller c.tries.self.asked (others_of c.deref-in-Some-3.result.now c.in-Some.one) fewer.items))
    c.in-Some-2.is c.in_ok-fewer.ensures.fewer in
    let smaller = subst (λ (ns : List ℕ). IsSmaller c.tries.self.asked (others_of ns c.in-Some.one) c.in-Some-2.fewer.items)
    c.deref-in-Some-3.ensures.value told in
    let long = popped-length c.tries.left.items front c.in-Some.one c.in-Some.ensures.items in
    let less = shrink-measure c.tries.self.asked core done front c.in-Some-2.fewer.items c.in-Some.one (length c.args.first.items)
    (length c.tries.left.items) open_now.0 smaller c.tries.invariant.few long in
    let both = ap (λ (ns : List ℕ). length ns) (joined-is c.in_ok-left-in-Some-2.left.items c.deref-in-Some-2-2.result.now c.deref-in-Some-2-3.result.now done
    front c.in_ok-left-in-Some-2.ensures c.deref-in-Some-2-2.ensures.value c.deref-in-Some-2-3.ensures.value) in
    omega (arith, less, both)

pub tries-preserved-in-Some-2 : goal.tries-preserved-in-Some-2
tries-preserved-in-Some-2 g c =
    let asked : Asked = c.args.self.now.asked in
    let first : List ℕ = c.args.first.items in
    let core : List ℕ = c.tries.core.items in
    let done : List ℕ = c.tries.done.items in
    let front : List ℕ = c.pop.new.self.items in
    let fewer : List ℕ = c.in-Some-2.fewer.items in
    let left : List ℕ = c.in_ok-left-in-Some-2.left.items in
    let old : DeskView = g.D.Desk.view c.args.desk.now in
    let mid : DeskView = g.D.Desk.view c.tries.desk in
    let new : DeskView = g.D.Desk.view c.leave_out.new.desk in
    let open_now = opened core done c.deref-in-Some.result.now c.deref-in-Some-2.result.now c.in-Some.one c.is_open.result c.is_open.ensures
    c.deref-in-Some.ensures.value c.deref-in-Some-2.ensures.value c.if-not-is_open.false in
    let shrunk = subst (λ o. MatchOption o
    (Goes c.tries.self.asked (Marks c.tries.self.asked c.deref-in-Some-3.result.now done)
    (Marks c.tries.self.asked c.deref-in-Some-3.result.now (done ++ c.in-Some.one ∷ [])) mid new c.tries.inquirer c.leave_out.new.inquirer
    c.tries.self.notes c.leave_out.new.self.notes)
    (λ fewer. Goes c.tries.self.asked (Marks c.tries.self.asked c.deref-in-Some-3.result.now done) (Marks c.tries.self.asked fewer.items []) mid new
    c.tries.inquirer c.leave_out.new.inquirer c.tries.self.notes c.leave_out.new.self.notes)) c.in-Some-2.is (c.in_ok-fewer.ensures.ok done open_now.1) in
    let told = subst (λ o. IfSome o (λ fewer. IsSmaller c.tries.self.asked (others_of c.deref-in-Some-3.result.now c.in-Some.one) fewer.items))
    c.in-Some-2.is c.in_ok-fewer.ensures.fewer in
    let smaller = subst (λ (ns : List ℕ). IsSmaller c.tries.self.asked (others_of ns c.in-Some.one) fewer) c.deref-in-Some-3.ensures.value told in
    let both = joined-is left c.deref-in-Some-2-2.result.now c.deref-in-Some-2-3.result.now done front c.in_ok-left-in-Some-2.ensures
    c.deref-in-Some-2-2.ensures.value c.deref-in-Some-2-3.ensures.value in
    let none : c.clear.new.self.items ≡ [] = c.clear.ensures.items in
    let covers = shrink-covers core done c.tries.left.items front c.in-Some.one c.in-Some.ensures.items c.tries.invariant.cover c.tries.self.asked fewer
    open_now.0 smaller in
    let long = popped-length c.tries.left.items front c.in-Some.one c.in-Some.ensures.items in
    let joined_length = ap (λ (ns : List ℕ). length ns) both in
    let sum = length-append done front in
    let empty : length c.clear.new.self.items ≡ 0 = ap (λ (ns : List ℕ). length ns) none in
    record {
      writing = subst IsWriting (sym c.leave_out.ensures.grows.1.mode_stays) c.tries.invariant.writing;
      asked = c.leave_out.ensures.asked ∙ c.tries.invariant.asked;
      variables = c.leave_out.ensures.variables ∙ c.tries.invariant.variables;
      limit = c.leave_out.ensures.limit ∙ c.tries.invariant.limit;
      core = subst (λ (k : Asked). AreNumbers k fewer) c.tries.invariant.asked smaller.are;
      cover = subst (λ (ns : List ℕ). (k : ℕ) → Contains fewer k → Contains ns k ⊎ Contains left k) (sym none)
          (subst (λ (ns : List ℕ). (k : ℕ) → Contains fewer k → Contains [] k ⊎ Contains ns k) (sym both) covers);
      few = omega (arith, empty, joined_length, sum, long, c.tries.invariant.few);
      more = subst (λ (ns : List ℕ). Goes asked (Marks asked first []) (Marks asked fewer ns) old new c.args.inquirer.now c.leave_out.new.inquirer
          c.args.self.now.notes c.leave_out.new.self.notes) (sym none)
          (goes-join c.file_grows.ensures.twice asked (Marks asked first []) (Marks asked core done) (Marks asked fewer []) old mid new
          c.args.inquirer.now c.tries.inquirer c.leave_out.new.inquirer c.args.self.now.notes c.tries.self.notes c.leave_out.new.self.notes
          c.tries.invariant.more
          (shrink-goes asked c.tries.self.asked core c.deref-in-Some-3.result.now c.tries.invariant.asked c.deref-in-Some-3.ensures.value mid new
          c.tries.inquirer c.leave_out.new.inquirer c.tries.self.notes c.leave_out.new.self.notes done fewer shrunk));
      grows = two-grow c.file_grows.ensures.twice c.tries.invariant.grows.0 c.leave_out.ensures.grows.0 old mid new c.tries.invariant.grows.1
          c.leave_out.ensures.grows.1;
    }

pub tries-preserved : goal.tries-preserved
tries-preserved g c =
    let asked : Asked = c.args.self.now.asked in
    let first : List ℕ = c.args.first.items in
    let core : List ℕ = c.tries.core.items in
    let done : List ℕ = c.tries.done.items in
    let front : List ℕ = c.pop.new.self.items in
    let old : DeskView = g.D.Desk.view c.args.desk.now in
    let mid : DeskView = g.D.Desk.view c.tries.desk in
    let new : DeskView = g.D.Desk.view c.leave_out.new.desk in
    let open_now = opened core done c.deref-in-Some.result.now c.deref-in-Some-2.result.now c.in-Some.one c.is_open.result c.is_open.ensures
    c.deref-in-Some.ensures.value c.deref-in-Some-2.ensures.value c.if-not-is_open.false in
    let marked = subst (λ o. MatchOption o
    (Goes c.tries.self.asked (Marks c.tries.self.asked c.deref-in-Some-3.result.now done)
    (Marks c.tries.self.asked c.deref-in-Some-3.result.now (done ++ c.in-Some.one ∷ [])) mid new c.tries.inquirer c.leave_out.new.inquirer
    c.tries.self.notes c.leave_out.new.self.notes)
    (λ fewer. Goes c.tries.self.asked (Marks c.tries.self.asked c.deref-in-Some-3.result.now done) (Marks c.tries.self.asked fewer.items []) mid new
    c.tries.inquirer c.leave_out.new.inquirer c.tries.self.notes c.leave_out.new.self.notes)) c.in-None.is (c.in_ok-fewer.ensures.ok done open_now.1) in
    let is : c.add.new.numbers.items ≡ done ++ c.in-Some.one ∷ [] = c.in_ok-add-in-None.ensures in
    let long = popped-length c.tries.left.items front c.in-Some.one c.in-Some.ensures.items in
    let longer = ap (λ (ns : List ℕ). length ns) is in
    let sum = length-append done (c.in-Some.one ∷ []) in
    record {
      writing = subst IsWriting (sym c.leave_out.ensures.grows.1.mode_stays) c.tries.invariant.writing;
      asked = c.leave_out.ensures.asked ∙ c.tries.invariant.asked;
      variables = c.leave_out.ensures.variables ∙ c.tries.invariant.variables;
      limit = c.leave_out.ensures.limit ∙ c.tries.invariant.limit;
      core = c.tries.invariant.core;
      cover = subst (λ (ns : List ℕ). (k : ℕ) → Contains core k → Contains ns k ⊎ Contains front k) (sym is)
          (mark-covers core done c.tries.left.items front c.in-Some.one c.in-Some.ensures.items c.tries.invariant.cover);
      few = omega (arith, longer, sum, long, c.tries.invariant.few);
      more = subst (λ (ns : List ℕ). Goes asked (Marks asked first []) (Marks asked core ns) old new c.args.inquirer.now c.leave_out.new.inquirer
          c.args.self.now.notes c.leave_out.new.self.notes) (sym is)
          (goes-join c.file_grows.ensures.twice asked (Marks asked first []) (Marks asked core done) (Marks asked core (done ++ c.in-Some.one ∷ [])) old mid
          new c.args.inquirer.now c.tries.inquirer c.leave_out.new.inquirer c.args.self.now.notes c.tries.self.notes c.leave_out.new.self.notes
          c.tries.invariant.more
          (mark-goes asked c.tries.self.asked core c.deref-in-Some-3.result.now c.tries.invariant.asked c.deref-in-Some-3.ensures.value mid new
          c.tries.inquirer c.leave_out.new.inquirer c.tries.self.notes c.leave_out.new.self.notes done (done ++ c.in-Some.one ∷ []) marked));
      grows = two-grow c.file_grows.ensures.twice c.tries.invariant.grows.0 c.leave_out.ensures.grows.0 old mid new c.tries.invariant.grows.1
          c.leave_out.ensures.grows.1;
    }

pub returns-in_err-add-in-None-clause-err : goal.returns-in_err-add-in-None-clause-err
returns-in_err-add-in-None-clause-err g c =
    let asked : Asked = c.args.self.now.asked in
    let first : List ℕ = c.args.first.items in
    let core : List ℕ = c.tries.core.items in
    let done : List ℕ = c.tries.done.items in
    let old : DeskView = g.D.Desk.view c.args.desk.now in
    let mid : DeskView = g.D.Desk.view c.tries.desk in
    let new : DeskView = g.D.Desk.view c.leave_out.new.desk in
    let more : List ℕ = done ++ c.in-Some.one ∷ [] in
    let open_now = opened core done c.deref-in-Some.result.now c.deref-in-Some-2.result.now c.in-Some.one c.is_open.result c.is_open.ensures
    c.deref-in-Some.ensures.value c.deref-in-Some-2.ensures.value c.if-not-is_open.false in
    let marked = subst (λ o. MatchOption o
    (Goes c.tries.self.asked (Marks c.tries.self.asked c.deref-in-Some-3.result.now done)
    (Marks c.tries.self.asked c.deref-in-Some-3.result.now (done ++ c.in-Some.one ∷ [])) mid new c.tries.inquirer c.leave_out.new.inquirer
    c.tries.self.notes c.leave_out.new.self.notes)
    (λ fewer. Goes c.tries.self.asked (Marks c.tries.self.asked c.deref-in-Some-3.result.now done) (Marks c.tries.self.asked fewer.items []) mid new
    c.tries.inquirer c.leave_out.new.inquirer c.tries.self.notes c.leave_out.new.self.notes)) c.in-None.is (c.in_ok-fewer.ensures.ok done open_now.1) in
    exit-stops asked (Marks asked first []) old new c.args.inquirer.now c.args.self.now.notes NoMemory c.from_residual-in_err-add-in-None.result
    c.from_residual-in_err-add-in-None.ensures.1
    (goes-stop c.file_grows.ensures.twice asked (Marks asked first []) (Marks asked core more) old new new c.args.inquirer.now c.leave_out.new.inquirer
    c.args.self.now.notes c.leave_out.new.self.notes NoMemory
    (goes-join c.file_grows.ensures.twice asked (Marks asked first []) (Marks asked core done) (Marks asked core more) old mid new c.args.inquirer.now
    c.tries.inquirer c.leave_out.new.inquirer c.args.self.now.notes c.tries.self.notes c.leave_out.new.self.notes c.tries.invariant.more
    (mark-goes asked c.tries.self.asked core c.deref-in-Some-3.result.now c.tries.invariant.asked c.deref-in-Some-3.ensures.value mid new
    c.tries.inquirer c.leave_out.new.inquirer c.tries.self.notes c.leave_out.new.self.notes done more marked))
    (stops-memory c.file_grows.ensures.begin asked (Marks asked core more) new c.leave_out.new.inquirer c.leave_out.new.self.notes))

pub returns-in_err-add-in-None-clause-grows : goal.returns-in_err-add-in-None-clause-grows
returns-in_err-add-in-None-clause-grows g c =
    two-grow c.file_grows.ensures.twice c.tries.invariant.grows.0 c.leave_out.ensures.grows.0 (g.D.Desk.view c.args.desk.now) (g.D.Desk.view c.tries.desk)
    (g.D.Desk.view c.leave_out.new.desk) c.tries.invariant.grows.1 c.leave_out.ensures.grows.1

pub returns-clause-ok : goal.returns-clause-ok
returns-clause-ok g c =
    let asked : Asked = c.args.self.now.asked in
    let first : List ℕ = c.args.first.items in
    let core : List ℕ = c.tries.core.items in
    let done : List ℕ = c.tries.done.items in
    let old : DeskView = g.D.Desk.view c.args.desk.now in
    let mid : DeskView = g.D.Desk.view c.tries.desk in
    let none : c.tries.left.items ≡ [] = search rules in
    goes-join c.file_grows.ensures.twice asked (Marks asked first []) (Marks asked core done) (IsAnsweredAt asked) old mid mid c.args.inquirer.now
    c.tries.inquirer c.tries.inquirer c.args.self.now.notes c.tries.self.notes c.tries.self.notes c.tries.invariant.more
    (core-answered c.file_grows.ensures.begin c.marked_relations_are_answered.ensures asked core done mid c.tries.inquirer c.tries.self.notes
    c.requires.fits.upto (all-done core done c.tries.left.items none c.tries.invariant.cover))
