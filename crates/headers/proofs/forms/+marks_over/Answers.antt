use Rattle.std.proofs.Common.{◌≡◌, ◌+◌, Some, Err, sym, ap, ◌∙◌, rules}
use Rattle.std.proofs.lemmas.Result.{err_from_is_err_and}
use Rattle.headers.specs.Headers.{mark_put, marks_from, pieces}
use Rattle.cuts.proofs.Fields.{bind_forth, same_again}
use Rattle.headers.proofs.Commas.{pieces_cut, pieces_whole, cut_shorter}
use Rattle.headers.proofs.MarkLists.{mark_fault, marks_fault, refused_over}
use Rattle.headers.proofs.forms.+marks_over.Goals as goal

pub returns-in_err-mark : goal.returns-in_err-mark
returns-in_err-mark t c = rw (pieces_whole c.args.rest.now c.in_default.ensures) (search rules)

pub returns-in_default : goal.returns-in_default
returns-in_default t c =
    rw (pieces_whole c.args.rest.now c.in_default.ensures)
    (c.mark_in.ensures ∙ sym (bind_forth _ (sym c.number.ensures ∙ c.in_ok-mark.ensures.ok_part) ∙ same_again (mark_put c.args.least c.args.table c.in_ok-mark.mark)))

pub returns-in_err-mark-2 : goal.returns-in_err-mark-2
returns-in_err-mark-2 t c = rw (pieces_cut c.args.rest.now _ c.in-Some.ensures) (search rules)

pub marks_over-requires : goal.marks_over-requires
marks_over-requires t c = let l = cut_shorter c.args.rest.now _ c.in-Some.ensures in search rules

pub marks_over-requires-in-Err-Value : goal.marks_over-requires-in-Err-Value
marks_over-requires-in-Err-Value t c = let l = cut_shorter c.args.rest.now _ c.in-Some.ensures in search rules

pub returns-in_err-marks_over-in-Err-Value : goal.returns-in_err-marks_over-in-Err-Value
returns-in_err-marks_over-in-Err-Value t c =
    let l = c.args.least in
    let table = c.args.table in
    let mark = c.in_ok-mark-2.mark in
    let more = pieces c.in-Some.more.now in
    let p = err_from_is_err_and c.from_residual-in_err-marks_over-in-Err-Value.result c.from_residual-in_err-marks_over-in-Err-Value.ensures.1 in
    let put : mark_put l table mark ≡ Some (Err c.in-Err-Value.e) = search rules in
    let rest = c.in_err-marks_over-in-Err-Value.ensures ∙ ap (λ n. marks_from (n + 1) table more) c.from-next.ensures in
    let told = refused_over _ (marks_from (mark + 1) table more) c.in-Err-Value.e (mark_fault l table mark _ put) (marks_fault more (mark + 1) table) rest in
    rw (p.1, p.2)
    (rw (pieces_cut c.args.rest.now _ c.in-Some.ensures) (told ∙ sym (bind_forth _ (sym c.number-2.ensures ∙ c.in_ok-mark-2.ensures.ok_part) ∙ bind_forth _ put)))

pub returns-in-Ok : goal.returns-in-Ok
returns-in-Ok t c = rw (pieces_cut c.args.rest.now _ c.in-Some.ensures) (search rules)

pub returns-in_ok-marks_over-in-Err-Value : goal.returns-in_ok-marks_over-in-Err-Value
returns-in_ok-marks_over-in-Err-Value t c = rw (pieces_cut c.args.rest.now _ c.in-Some.ensures) (search rules)

pub returns-in-Err-Form : goal.returns-in-Err-Form
returns-in-Err-Form t c = rw (pieces_cut c.args.rest.now _ c.in-Some.ensures) (search rules)
