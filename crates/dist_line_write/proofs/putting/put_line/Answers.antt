use Rattle.dist_line_write.proofs.OneLine.{put-more, put-stops}
use Rattle.dist_line_write.proofs.putting.put_line.Goals as goal

pub returns-clause-ok : goal.returns-clause-ok
returns-clause-ok g c =
    put-more c.args.writer.now c.put.new.self c.args.step.now (g.D.Desk.view c.args.desk.now) (g.D.Desk.view c.put.new.desk) c.put.result c.put.ensures.answers
    c.put.ensures.counted

pub returns-clause-err : goal.returns-clause-err
returns-clause-err g c =
    put-stops c.file_grows.ensures.begin c.args.writer.now c.args.step.now (g.D.Desk.view c.args.desk.now) (g.D.Desk.view c.put.new.desk) c.put.result
    c.put.ensures.answers c.put.ensures.nothing c.put.ensures.front
