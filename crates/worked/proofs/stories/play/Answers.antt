use Rattle.std.proofs.lemmas.Result.{MatchResult-at_ok}
use Rattle.agreement.specs.Views.{rules_of}
use Rattle.bench.specs.Views.{view_of}
use Rattle.bench.proofs.Chains.{taken}
use Rattle.worked.specs.Stories.{first_story, second_story, late_echo}
use Rattle.worked.proofs.Telling.{At, at1, fine1, fine2, fine3, fine4, fine5, fine6, fine7, fine8, injected_to, turned_to, may_inject, may_turn, opened_at, begun_at, may_begin, told}
use Rattle.worked.proofs.stories.play.Given as given
use Rattle.worked.proofs.stories.play.Goals as goal
use Rattle.worked.proofs.stories.play.Goals.{After-unwrap}

-- the bench once the shot is begun
begun : (g : given.Over) (c : After-unwrap g) → At (view_of c.begin.new.self) at1
begun g c =
    begun_at (rules_of g.K.Kind.same g.K.Kind.charge c.args.list.now) _ c.no_value.ensures (opened_at (view_of c.args.bench.now) c.requires.fresh c.requires.four) (MatchResult-at_ok _ _ c.unwrap.result c.unwrap.ensures c.begin.ensures.does)

pub unwrap-requires : goal.unwrap-requires
unwrap-requires g c =
    taken c.begin.result _ c.begin.ensures.refusal
    (may_begin (rules_of g.K.Kind.same g.K.Kind.charge c.args.list.now) c.requires.two _ c.no_value.ensures (opened_at (view_of c.args.bench.now) c.requires.fresh c.requires.four))

pub tell-requires : goal.tell-requires
tell-requires g c = may_inject first_story (begun g (goal.at.tell-requires g c).After-unwrap) fine1

pub tell-requires-2 : goal.tell-requires-2
tell-requires-2 g c = may_inject (second_story 1) (injected_to (begun g (goal.at.tell-requires-2 g c).After-unwrap) c.tell.ensures) fine2

pub tell-requires-3 : goal.tell-requires-3
tell-requires-3 g c = may_inject (second_story 2) (injected_to (injected_to (begun g (goal.at.tell-requires-3 g c).After-unwrap) c.tell.ensures) c.tell-2.ensures) fine3

pub turn_on-requires : goal.turn_on-requires
turn_on-requires g c = may_turn 1 (injected_to (injected_to (injected_to (begun g (goal.at.turn_on-requires g c).After-unwrap) c.tell.ensures) c.tell-2.ensures) c.tell-3.ensures) fine4

pub tell-requires-4 : goal.tell-requires-4
tell-requires-4 g c = may_inject late_echo (turned_to (injected_to (injected_to (injected_to (begun g (goal.at.tell-requires-4 g c).After-unwrap) c.tell.ensures) c.tell-2.ensures) c.tell-3.ensures) c.turn_on.ensures) fine5

pub turn_on-requires-2 : goal.turn_on-requires-2
turn_on-requires-2 g c = may_turn 2 (injected_to (turned_to (injected_to (injected_to (injected_to (begun g (goal.at.turn_on-requires-2 g c).After-unwrap) c.tell.ensures) c.tell-2.ensures) c.tell-3.ensures) c.turn_on.ensures) c.tell-4.ensures) fine6

pub turn_on-requires-3 : goal.turn_on-requires-3
turn_on-requires-3 g c = may_turn 3 (turned_to (injected_to (turned_to (injected_to (injected_to (injected_to (begun g (goal.at.turn_on-requires-3 g c).After-unwrap) c.tell.ensures) c.tell-2.ensures) c.tell-3.ensures) c.turn_on.ensures) c.tell-4.ensures) c.turn_on-2.ensures) fine7

pub turn_on-requires-4 : goal.turn_on-requires-4
turn_on-requires-4 g c = may_turn 4 (turned_to (turned_to (injected_to (turned_to (injected_to (injected_to (injected_to (begun g (goal.at.turn_on-requires-4 g c).After-unwrap) c.tell.ensures) c.tell-2.ensures) c.tell-3.ensures) c.turn_on.ensures) c.tell-4.ensures) c.turn_on-2.ensures) c.turn_on-3.ensures) fine8

pub returns : goal.returns
returns g c =
    told (rules_of g.K.Kind.same g.K.Kind.charge c.args.list.now) c.requires.two _ c.no_value.ensures (opened_at (view_of c.args.bench.now) c.requires.fresh c.requires.four) (MatchResult-at_ok _ _ c.unwrap.result c.unwrap.ensures c.begin.ensures.does)
    c.tell.ensures c.tell-2.ensures c.tell-3.ensures c.turn_on.ensures c.tell-4.ensures c.turn_on-2.ensures c.turn_on-3.ensures c.turn_on-4.ensures
