use Rattle.std.proofs.Common.{Some, None}
use Rattle.dist_cert.proofs.Answering.{counted, header_as, header_cut, header_bad, header_ok, header_bad_some, header_ok_some}
use Rattle.dist_cert.proofs.reading.Reader.header.Goals as goal

pub pass-requires-clause-bytes : goal.pass-requires-clause-bytes
pass-requires-clause-bytes g c =
    counted c.self.inside.limits c.self.inside.done.given c.read_line.new.self c.in_ok-reached.reached c.in-Feed.is c.in_ok-reached.ensures.end
    c.line-in-Some.result.now c.line-in-Some.ensures

pub returns-in-File-clause-text : goal.returns-in-File-clause-text
returns-in-File-clause-text g c =
    header_cut c.self.inside.limits c.self.inside.done.given c.self.inside.done.lines c.self.inside.done.ended c.self.inside.text c.read_line.new.self
    c.args.self.now c.self.view_is (g.D.Desk.view c.args.desk.now) (g.D.Desk.view c.read_line.new.desk) c.in_ok-reached.reached c.in_ok-reached.ensures.text
    c.in_ok-reached.ensures.end
    c.in-File.is _ _ c.bad-in-File.ensures

pub returns-in-None-clause-text : goal.returns-in-None-clause-text
returns-in-None-clause-text g c =
    header_bad c.self.inside.limits c.self.inside.done.given c.self.inside.done.lines c.self.inside.done.ended c.self.inside.text c.read_line.new.self
    c.args.self.now c.self.view_is (g.D.Desk.view c.args.desk.now) (g.D.Desk.view c.read_line.new.desk) c.in_ok-reached.reached c.in_ok-reached.ensures.text
    c.in_ok-reached.ensures.end
    c.in-Feed.is (header_as c.line.result.now c.read_line.new.self.line c.in_ok-header-in-Feed.field-0 None c.line.ensures c.in-None.is
    c.in_ok-header-in-Feed.ensures) _ _ c.bad-in-None.ensures

pub returns-in-Some-clause-text : goal.returns-in-Some-clause-text
returns-in-Some-clause-text g c =
    header_ok c.self.inside.limits c.self.inside.done.given c.self.inside.done.lines c.self.inside.done.ended c.self.inside.text c.read_line.new.self
    c.args.self.now c.self.view_is (g.D.Desk.view c.args.desk.now) (g.D.Desk.view c.read_line.new.desk) c.in_ok-reached.reached c.in_ok-reached.ensures.text
    c.in_ok-reached.ensures.end
    c.in-Feed.is c.in-Some.header
    (header_as c.line.result.now c.read_line.new.self.line c.in_ok-header-in-Feed.field-0 (Some c.in-Some.header) c.line.ensures c.in-Some.is
    c.in_ok-header-in-Feed.ensures)
    c.pass_line.new.self c.pass_line.ensures

pub returns-in-None-clause-some : goal.returns-in-None-clause-some
returns-in-None-clause-some g c =
    header_bad_some c.self.inside.limits c.self.inside.done.given c.self.inside.done.lines c.self.inside.done.ended c.self.inside.text c.read_line.new.self
    c.args.self.now c.self.view_is (g.D.Desk.view c.args.desk.now) (g.D.Desk.view c.read_line.new.desk) c.in_ok-reached.reached c.in_ok-reached.ensures.text
    c.in_ok-reached.ensures.end c.in_ok-reached.ensures.some
    c.in-Feed.is (header_as c.line.result.now c.read_line.new.self.line c.in_ok-header-in-Feed.field-0 None c.line.ensures c.in-None.is
    c.in_ok-header-in-Feed.ensures) _ _ c.bad-in-None.ensures

pub returns-in-Some-clause-some : goal.returns-in-Some-clause-some
returns-in-Some-clause-some g c =
    header_ok_some c.self.inside.limits c.self.inside.done.given c.self.inside.done.lines c.self.inside.done.ended c.self.inside.text c.read_line.new.self
    c.args.self.now c.self.view_is (g.D.Desk.view c.args.desk.now) (g.D.Desk.view c.read_line.new.desk) c.in_ok-reached.reached c.in_ok-reached.ensures.text
    c.in_ok-reached.ensures.end c.in_ok-reached.ensures.some
    c.in-Feed.is c.in-Some.header
    (header_as c.line.result.now c.read_line.new.self.line c.in_ok-header-in-Feed.field-0 (Some c.in-Some.header) c.line.ensures c.in-Some.is
    c.in_ok-header-in-Feed.ensures)
