use Rattle.std.proofs.Common.{sym, ap, ◌∙◌}
use Rattle.reader.specs.Heads.{head_taken}
use Rattle.reader.specs.Reading.{start}
use Rattle.layout.proofs.Texts.{same_kind, campaign_made, campaign_back}
use Rattle.text.proofs.campaigns.whole.read.Goals as goal

pub returns-clause-text : goal.returns-clause-text
returns-clause-text g c =
    let hd = ap head_taken (sym c.new-reader.ensures) ∙ c.in_ok-header.ensures in
    let hk = same_kind _ _ c.if-ne.ensures ∙ c.kind.ensures in
    let w = campaign_made g.K.Written.reads g.K.Kind.same g.K.Written.kind (start c.args.text) _ _ hd hk _ _ c.in_ok-values.ensures _ _ c.in_ok-acts.ensures in
    campaign_back g.K.Written.shows g.K.Written.reads g.K.Written.fits g.met.K.Written.back g.K.Kind.same g.K.Written.kind (start c.args.text) _ _ w
