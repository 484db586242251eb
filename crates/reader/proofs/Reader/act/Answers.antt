use Rattle.reader.proofs.Whole.{act_lined}
use Rattle.reader.proofs.Reader.act.Goals as goal

pub returns : goal.returns
returns g c =
    record {
      is = c.take.ensures;
      line = act_lined g.K.Written.shows g.K.Written.reads g.K.Written.fits g.met.K.Written.back c.args.self.now c.take.new.self c.take.result c.take.ensures;
    }
