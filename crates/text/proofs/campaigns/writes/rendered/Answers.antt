use Rattle.std.proofs.Common.{◌++◌, vec_items, string_bytes, codes, decimal, ap, ◌∙◌, subst}
use Rattle.std.proofs.lemmas.Result.{IfOk-weaker}
use Rattle.layout.specs.Render.{value_lines, act_lines, render}
use Rattle.fields.specs.Kinds.{kind_word}
use Rattle.headers.specs.Carriages.{carriage_word}
use Rattle.headers.specs.Lines.{line_of_marks}
use Rattle.std.specs.List.{AllByRecursion}
use Rattle.acts.specs.Acts.{ActFits}
use Rattle.text.proofs.Back.{written_back}
use Rattle.text.proofs.campaigns.writes.rendered.Goals as goal

pub returns : goal.returns
unfolding render line_of_marks
returns g c =
    let shows = g.K.Written.shows in
    let v = c.args.campaign.now in
    let acts = act_lines shows (vec_items v.acts) in
    let body = c.in_ok-push_acts.ensures.bytes ∙ ap (λ xs. string_bytes c.push_values.new.text ++ act_lines shows xs) c.deref-2.ensures.value
    ∙ c.in_ok-push_values.ensures.bytes acts ∙ (λ i. c.new-body.ensures.bytes i ++ value_lines shows (c.deref.ensures.value i) acts) in
    let count = c.len-count.ensures ∙ v.values.ok.0 in
    let rest = c.in_ok-rest.ensures.ok ∙ (λ i. codes "carriage=" ++ (carriage_word v.carriage ++ (codes "\nkind=" ++ (kind_word (c.kind-kind.ensures i) ++ (codes "\nvalues=" ++ (decimal (count i) ++ (codes "\n" ++ body i))))))) in
    let text = IfOk-weaker c.format-2.result _ _
    (λ s e. e ∙ (λ i. codes "bench=1\nn=" ++ (decimal (c.n-n.ensures i) ++ (codes "\nt=" ++ (decimal (c.t-t.ensures i) ++ (codes "\nmarks=" ++ (c.in_ok-marks.ensures i ++ (codes "\n" ++ rest i))))))))
    c.format-2.ensures.ok in
    let values_fit = subst (AllByRecursion g.K.Written.fits) c.deref.ensures.value c.in_ok-push_values.ensures.fit in
    let acts_fit = subst (AllByRecursion (ActFits g.K.Written.fits)) c.deref-2.ensures.value c.in_ok-push_acts.ensures.fit in
    record {
      text = text;
      back = λ h. IfOk-weaker c.format-2.result _ _
          (λ s e. written_back g.K.Written.shows g.K.Written.reads g.K.Written.fits g.met.K.Written.forth g.met.K.Written.unbroken g.met.K.Written.brief g.met.K.Written.undashed g.K.Kind.same g.K.Written.kind v (string_bytes s) e values_fit acts_fit h)
          text;
    }
