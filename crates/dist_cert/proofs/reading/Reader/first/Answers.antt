use Rattle.dist_cert.proofs.Answering.{first_cut, first_ok}
use Rattle.dist_cert.proofs.reading.Reader.first.Goals as goal

pub returns-in-File-clause-text : goal.returns-in-File-clause-text
returns-in-File-clause-text g c =
    first_cut c.self.inside.limits c.self.inside.done.given c.self.inside.done.lines c.self.inside.done.ended c.self.inside.text c.read_line.new.self
    c.args.self.now c.self.view_is (g.D.Desk.view c.args.desk.now) (g.D.Desk.view c.read_line.new.desk) c.in_ok-reached.reached c.in_ok-reached.ensures.text
    c.in_ok-reached.ensures.end
    c.in-File.is _ _ c.bad-in-File.ensures

pub returns-in_ok-line-in-Feed-clause-text : goal.returns-in_ok-line-in-Feed-clause-text
returns-in_ok-line-in-Feed-clause-text g c =
    first_ok c.self.inside.limits c.self.inside.done.given c.self.inside.done.lines c.self.inside.done.ended c.self.inside.text c.read_line.new.self
    c.args.self.now c.self.view_is (g.D.Desk.view c.args.desk.now) (g.D.Desk.view c.read_line.new.desk) c.in_ok-reached.reached c.in_ok-reached.ensures.text
    c.in_ok-reached.ensures.end
    c.in-Feed.is c.in_ok-line-in-Feed.line.items c.in_ok-line-in-Feed.ensures c.pass_line.new.self c.pass_line.ensures
