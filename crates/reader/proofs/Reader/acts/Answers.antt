use Rattle.std.proofs.Common.{◌≡◌, ◌+◌, ◌-◌, [], ◌∷◌, ◌++◌, length, vec_items, vec_len, sym, ◌∙◌, arith}
use Rattle.std.proofs.lemmas.Bool.{eqb-false}
use Rattle.acts.specs.Acts.{act_reads}
use Rattle.reader.specs.Lists.{acts_taken}
use Rattle.reader.specs.Reading.{left}
use Rattle.reader.proofs.Chains.{exit_by}
use Rattle.reader.proofs.Taking.{acts_more, acts_stop, acts_end, taken_shrinks}
use Rattle.reader.proofs.Reader.acts.Goals as goal

pub loop-self-preserved : goal.loop-self-preserved
loop-self-preserved g c =
    let reads = g.K.Written.reads in
    let all = length (left c.args.self.now) in
    let got = vec_len c.loop-self.acts in
    let shrinks = taken_shrinks (act_reads reads) c.loop-self.self c.act.new.self c.in_ok-a.a c.in_ok-a.ensures.is in
    let more : vec_len c.push.new.self ≡ got + 1 = c.in_ok-push.ensures.len in
    let p : all - got - 1 ≡ all - vec_len c.push.new.self = omega arith in
    let items : vec_items c.push.new.self ≡ vec_items c.loop-self.acts ++ c.in_ok-a.a ∷ [] = c.in_ok-push.ensures.items in (
      omega (arith, c.loop-self.invariant.0, shrinks),
      c.loop-self.invariant.1
          ∙ acts_more reads (all - got) (vec_items c.loop-self.acts) c.loop-self.self c.act.new.self c.in_ok-a.a (omega (arith, c.loop-self.invariant.0, shrinks)) (sym c.loop-self-test.ensures) c.in_ok-a.ensures.is
          ∙ (λ i. acts_taken reads (p i) (sym items i) c.act.new.self),
    )

pub loop-self-init : goal.loop-self-init
loop-self-init g c =
    let all = length (left c.args.self.now) in
    let p : all ≡ all - vec_len c.new-acts.result = omega arith in
    (omega arith, (λ i. acts_taken g.K.Written.reads (p i) (sym c.new-acts.ensures.items i) c.args.self.now))

pub loop-self-smaller : goal.loop-self-smaller
loop-self-smaller g c = taken_shrinks (act_reads g.K.Written.reads) c.loop-self.self c.act.new.self c.in_ok-a.a c.in_ok-a.ensures.is

pub returns-in_err-a : goal.returns-in_err-a
returns-in_err-a g c =
    let all = length (left c.args.self.now) in
    let got = vec_len c.loop-self.acts in
    let some = eqb-false _ 0 (sym c.loop-self-test.ensures) in
    exit_by c.from_residual.result _ _ _ c.from_residual.ensures.1
    (c.loop-self.invariant.1 ∙ acts_stop g.K.Written.reads (all - got) (vec_items c.loop-self.acts) c.loop-self.self c.act.new.self _ (omega (arith, c.loop-self.invariant.0, some)) (sym c.loop-self-test.ensures) c.in_err-a.ensures.is)

pub returns : goal.returns
returns g c = c.loop-self.invariant.1 ∙ acts_end g.K.Written.reads _ (vec_items c.loop-self.acts) c.loop-self.self (sym c.loop-self-test.ensures)
