use Rattle.std.proofs.Common.{◌≡◌, ◌++◌, vec_items, refl, sym, ap, ◌∙◌, subst}
use Rattle.std.specs.Fmt.{HasWritten, IsPlainFormatter}
use Rattle.std.specs.Option.{option_map}
use Rattle.std.proofs.Output.{has_written_append}
use Rattle.std.proofs.lemmas.Grind.{put_two, put_three}
use Rattle.std.proofs.lemmas.List.{drop_all, append-nil}
use Rattle.faults.specs.declared.layers.Layer.TheVariants.{Text}
use Rattle.lines.specs.declared.happenings.Happening.TheVariants.{Refused}
use Rattle.lines.specs.Printed.{happening_lines, out_line, out_text, end_line}
use Rattle.lines.proofs.Pushing.{happening_step}
use Rattle.lines.proofs.printing.ReportDisplay.fmt.Goals as goal
use Rattle.lines.proofs.printing.ReportDisplay.fmt.Goals.{in-Some+in_ok-writeln-2, in_default}

pub loop-event-preserved : goal.loop-event-preserved
loop-event-preserved g c plain =
    let hs = c.deref-event-items.result.now in
    let so_far = c.loop-event.invariant plain in (
      so_far.0 ++ _,
      has_written_append _ _ _ _ _ _ so_far.1 (c.in_ok-writeln.ensures.writes so_far.1.plain refl),
      happening_step hs c.loop-event.event-index (Refused 0 Text 0) so_far.0 c.loop-event-test.true ∙ so_far.2,
    )

pub returns-clause-writes : goal.returns-clause-writes
returns-clause-writes g c plain ok =
    let p = c.args.self.now in
    let hs = c.deref-event-items.result.now in
    let so_far = c.loop-event.invariant plain in
    let told : so_far.0 ≡ happening_lines (vec_items p.events) =
    sym (append-nil so_far.0) ∙ ap (λ ys. so_far.0 ++ happening_lines ys) (sym (drop_all c.loop-event.event-index hs c.loop-event-test.false)) ∙ so_far.2 ∙ ap happening_lines c.deref-event-items.ensures.value in
    let ends = end_line p.taken p.refused in
    elim c.match-self.branch [
      | in-Some+in_ok-writeln-2 w ↦ (
          let out = w.in_ok-writeln-2.ensures.writes so_far.1.plain refl in
          put_three g.W.Write.write_str_gives _ _ _ _ _ _ ends _ so_far.1 out
          (subst (λ k. HasWritten g.W.Write.write_str_gives k ends c.writeln-2.new.self) w.f-is (c.writeln-2.ensures.writes (subst IsPlainFormatter (sym w.f-is) out.plain) ok))
          (ap (λ ls. ls ++ (out_line w.deref.result.now ++ ends)) told ∙ ap (λ bs. happening_lines (vec_items p.events) ++ (out_line bs ++ ends)) w.deref.ensures.value ∙ ap (λ o. happening_lines (vec_items p.events) ++ (out_text (option_map vec_items o) ++ ends)) (sym w.in-Some.is))
          )
      | in_default w ↦ (
          put_two g.W.Write.write_str_gives _ _ _ _ ends _ so_far.1
          (subst (λ k. HasWritten g.W.Write.write_str_gives k ends c.writeln-2.new.self) w.f-is (c.writeln-2.ensures.writes (subst IsPlainFormatter (sym w.f-is) so_far.1.plain) ok))
          (ap (λ ls. ls ++ ends) told ∙ ap (λ o. happening_lines (vec_items p.events) ++ (out_text (option_map vec_items o) ++ ends)) (sym w.in_default.is))
          )
    ]
