use Rattle.std.proofs.Common.{◌≡◌, is_ok, None, sym, ap, ◌∙◌, subst}
use Rattle.std.specs.Option.{option_map}
use Rattle.std.proofs.lemmas.Result.{IfOk-at_ok, MatchResult-at_ok}
use Rattle.agreement.specs.Law.{opened}
use Rattle.agreement.specs.Views.{rules_of}
use Rattle.agreement.specs.declared.bench_faults.BenchFault.TheVariants.{List}
use Rattle.bench.specs.Views.{view_of}
use Rattle.bench.proofs.Chains.{taken}
use Rattle.worked.specs.Stories.{MadeForFour, pair_fault}
use Rattle.worked.proofs.Ending.{shown0, shown1, shown2, may_close}
use Rattle.worked.proofs.Telling.{At, at9}
use Rattle.worked.proofs.Whole.{made_for_four, over_it, opens_as, two_values, ends_at, two_stories_lem}
use Rattle.worked.proofs.stories.two_stories.Given as given
use Rattle.worked.proofs.stories.two_stories.Goals as goal
use Rattle.worked.proofs.stories.two_stories.Goals.{In_ok-bench, After-play}

carriage_made : (g : given.Over) (c : In_ok-bench g) → MadeForFour c.unwrap-carriage.result
carriage_made g c = made_for_four c.unwrap-carriage.result c.four_controllers.result (IfOk-at_ok _ c.unwrap-carriage.ensures c.new.ensures.value) c.four_controllers.ensures.four

-- the list is not refused
fine : (g : given.Over) (c : In_ok-bench g) → pair_fault g.K.Kind.same c.args.list.now ≡ None
fine g c = sym (opens_as (rules_of g.K.Kind.same g.K.Kind.charge c.args.list.now) c.unwrap-carriage.result (carriage_made g c)) ∙ c.in_ok-bench.ensures.refusal

-- the bench after the shot's last phase
ended : (g : given.Over) (c : After-play g) → MadeForFour c.unwrap-carriage.result → At (view_of c.play.new.bench) at9
ended g c made =
    ends_at (rules_of g.K.Kind.same g.K.Kind.charge c.args.list.now) c.unwrap-carriage.result made (view_of c.in_ok-bench.bench) (view_of c.play.new.bench) c.in_ok-bench.ensures.view c.play.ensures

pub play-requires : goal.play-requires
play-requires g c =
    let open-bench = (goal.at.play-requires g c).In_ok-bench in
    let same = over_it (view_of c.in_ok-bench.bench) c.unwrap-carriage.result c.in_ok-bench.ensures.view in
    record {
      fresh = c.in_ok-bench.ensures.view ∙ ap opened same;
      four = subst MadeForFour same (carriage_made g open-bench);
      two = two_values (rules_of g.K.Kind.same g.K.Kind.charge c.args.list.now) (fine g open-bench);
    }

pub shown_by-requires : goal.shown_by-requires
shown_by-requires g c = ap is_ok (shown0 (ended g (goal.at.shown_by-requires g c).After-play (carriage_made g (goal.at.shown_by-requires g c).In_ok-bench)))

pub shown_by-requires-2 : goal.shown_by-requires-2
shown_by-requires-2 g c = ap is_ok (shown1 (ended g (goal.at.shown_by-requires-2 g c).After-play (carriage_made g (goal.at.shown_by-requires-2 g c).In_ok-bench)))

pub shown_by-requires-3 : goal.shown_by-requires-3
shown_by-requires-3 g c = ap is_ok (shown2 (ended g (goal.at.shown_by-requires-3 g c).After-play (carriage_made g (goal.at.shown_by-requires-3 g c).In_ok-bench)))

pub unwrap-requires : goal.unwrap-requires
unwrap-requires g c =
    let open-bench = (goal.at.unwrap-requires g c).In_ok-bench in
    taken c.close.result _ c.close.ensures.refusal
    (may_close (rules_of g.K.Kind.same g.K.Kind.charge c.args.list.now) (two_values (rules_of g.K.Kind.same g.K.Kind.charge c.args.list.now) (fine g open-bench)) (ended g (goal.at.unwrap-requires g c).After-play (carriage_made g open-bench)))

pub returns : goal.returns
returns g c =
    let open-bench = (goal.at.returns g c).In_ok-bench in
    let made = carriage_made g open-bench in
    let at-end = ended g (goal.at.returns g c).After-play made in
    let first = sym c.shown_by.ensures ∙ shown0 at-end in
    let second = sym c.shown_by-2.ensures ∙ shown1 at-end in
    let third = sym c.shown_by-3.ensures ∙ shown2 at-end in
    record {
      refusal = sym (ap (option_map List) (fine g open-bench));
      shown = cc;
      run = two_stories_lem (rules_of g.K.Kind.same g.K.Kind.charge c.args.list.now) c.unwrap-carriage.result made (view_of c.in_ok-bench.bench) (view_of c.play.new.bench) c.in_ok-bench.ensures.view c.play.ensures
          (two_values (rules_of g.K.Kind.same g.K.Kind.charge c.args.list.now) (fine g open-bench)) c.in_ok-bench.ensures.law (view_of c.close.new.self) (MatchResult-at_ok _ _ c.unwrap.result c.unwrap.ensures c.close.ensures.does);
    }
