use Rattle.std.proofs.Common.{Some, None, inl, inr}
use Rattle.dist_cert.proofs.Answering.{counted, record_as, record_file, record_bad, record_ok, record_file_some, record_bad_some, record_ok_some}
use Rattle.dist_cert.proofs.reading.Reader.next.Goals as goal

pub pass-requires-clause-bytes : goal.pass-requires-clause-bytes
pass-requires-clause-bytes g c =
    counted c.self.inside.limits c.self.inside.done.given c.read_line.new.self c.in_ok-reached.reached c.in-Feed.is c.in_ok-reached.ensures.end
    c.line-in-Some.result.now c.line-in-Some.ensures

pub returns-in-None-clause-text : goal.returns-in-None-clause-text
returns-in-None-clause-text g c =
    record_bad c.self.inside.limits c.self.inside.done.given c.self.inside.done.lines c.self.inside.done.ended c.self.inside.text c.read_line.new.self
    c.args.self.now c.self.view_is (g.D.Desk.view c.args.desk.now) (g.D.Desk.view c.read_line.new.desk) c.in_ok-reached.reached c.in_ok-reached.ensures.text
    c.in_ok-reached.ensures.end
    c.in-Feed.is (inr (record_as c.line-in-Feed.result.now c.read_line.new.self.line c.in_ok-record-in-Feed.field-0 None c.line-in-Feed.ensures c.in-None.is
    c.in_ok-record-in-Feed.ensures)) _ _ c.bad-in-None.ensures

pub returns-after-matches-clause-text : goal.returns-after-matches-clause-text
returns-after-matches-clause-text g c =
    record_ok c.self.inside.limits c.self.inside.done.given c.self.inside.done.lines c.self.inside.done.ended c.self.inside.text c.read_line.new.self
    c.args.self.now c.self.view_is (g.D.Desk.view c.args.desk.now) (g.D.Desk.view c.read_line.new.desk) c.in_ok-reached.reached c.in_ok-reached.ensures.text
    c.in_ok-reached.ensures.end
    c.in-Feed.is c.if-self.false c.in-Some.step
    (record_as c.line-in-Feed.result.now c.read_line.new.self.line c.in_ok-record-in-Feed.field-0 (Some c.in-Some.step) c.line-in-Feed.ensures c.in-Some.is
    c.in_ok-record-in-Feed.ensures)
    c.pass_line.new.self c.pass_line.ensures

pub returns-in-None-clause-some : goal.returns-in-None-clause-some
returns-in-None-clause-some g c =
    record_bad_some c.self.inside.limits c.self.inside.done.given c.self.inside.done.lines c.self.inside.done.ended c.self.inside.text c.read_line.new.self
    c.args.self.now c.self.view_is (g.D.Desk.view c.args.desk.now) (g.D.Desk.view c.read_line.new.desk) c.in_ok-reached.reached c.in_ok-reached.ensures.text
    c.in_ok-reached.ensures.end c.in_ok-reached.ensures.some
    c.in-Feed.is (inr (record_as c.line-in-Feed.result.now c.read_line.new.self.line c.in_ok-record-in-Feed.field-0 None c.line-in-Feed.ensures c.in-None.is
    c.in_ok-record-in-Feed.ensures)) _ _ c.bad-in-None.ensures

pub returns-after-matches-clause-some : goal.returns-after-matches-clause-some
returns-after-matches-clause-some g c =
    record_ok_some c.self.inside.limits c.self.inside.done.given c.self.inside.done.lines c.self.inside.done.ended c.self.inside.text c.read_line.new.self
    c.args.self.now c.self.view_is (g.D.Desk.view c.args.desk.now) (g.D.Desk.view c.read_line.new.desk) c.in_ok-reached.reached c.in_ok-reached.ensures.text
    c.in_ok-reached.ensures.end c.in_ok-reached.ensures.some
    c.in-Feed.is c.if-self.false c.in-Some.step
    (record_as c.line-in-Feed.result.now c.read_line.new.self.line c.in_ok-record-in-Feed.field-0 (Some c.in-Some.step) c.line-in-Feed.ensures c.in-Some.is
    c.in_ok-record-in-Feed.ensures)

pub returns-then-self-clause-text : goal.returns-then-self-clause-text
returns-then-self-clause-text g c =
    record_bad c.self.inside.limits c.self.inside.done.given c.self.inside.done.lines c.self.inside.done.ended c.self.inside.text c.read_line.new.self
    c.args.self.now c.self.view_is (g.D.Desk.view c.args.desk.now) (g.D.Desk.view c.read_line.new.desk) c.in_ok-reached.reached c.in_ok-reached.ensures.text
    c.in_ok-reached.ensures.end
    c.in-Feed.is (inl c.if-self.true) _ _ c.bad-then-self.ensures

pub returns-then-self-clause-some : goal.returns-then-self-clause-some
returns-then-self-clause-some g c =
    record_bad_some c.self.inside.limits c.self.inside.done.given c.self.inside.done.lines c.self.inside.done.ended c.self.inside.text c.read_line.new.self
    c.args.self.now c.self.view_is (g.D.Desk.view c.args.desk.now) (g.D.Desk.view c.read_line.new.desk) c.in_ok-reached.reached c.in_ok-reached.ensures.text
    c.in_ok-reached.ensures.end c.in_ok-reached.ensures.some
    c.in-Feed.is (inl c.if-self.true) _ _ c.bad-then-self.ensures

pub returns-in-File-clause-text : goal.returns-in-File-clause-text
returns-in-File-clause-text g c =
    record_file c.self.inside.limits c.self.inside.done.given c.self.inside.done.lines c.self.inside.done.ended c.self.inside.text c.read_line.new.self
    c.args.self.now c.self.view_is (g.D.Desk.view c.args.desk.now) (g.D.Desk.view c.read_line.new.desk) c.in_ok-reached.reached c.in_ok-reached.ensures.text
    c.in_ok-reached.ensures.end
    c.in-File.is c.line.result.now c.line.ensures _ c.end.ensures

pub returns-in-File-clause-some : goal.returns-in-File-clause-some
returns-in-File-clause-some g c =
    record_file_some c.self.inside.limits c.self.inside.done.given c.self.inside.done.lines c.self.inside.done.ended c.self.inside.text c.read_line.new.self
    c.args.self.now c.self.view_is (g.D.Desk.view c.args.desk.now) (g.D.Desk.view c.read_line.new.desk) c.in_ok-reached.reached c.in_ok-reached.ensures.text
    c.in_ok-reached.ensures.end c.in_ok-reached.ensures.some
    c.in-File.is c.line.result.now c.line.ensures _ c.end.ensures
