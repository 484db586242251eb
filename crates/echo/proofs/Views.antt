-- What the code does to the table is what the step does to the state that it stands for. Assumes nothing.
use Rattle.std.proofs.Common.{◌≡◌, ℕ, ◌+◌, ◌/◌, ◌<◌, Bool, true, false, ◌&&◌, ◌||◌, eqb, List, get_or, set, sym, refl, ap, ◌∙◌, subst}
use Rattle.std.proofs.lemmas.Bool.{and_right, both_ways, eqb-true}
use Rattle.sets.specs.Sets.{has}
use Rattle.groups.specs.Groups.{correct}
use Rattle.groups.specs.declared.members.Group.{Group}
use Rattle.groups.proofs.Marked.{correct_below}
use Rattle.carriage.specs.Triples.{in_range, same_triple, slot_of}
use Rattle.carriage.specs.Model.{knows}
use Rattle.carriage.specs.declared.frames.Triple.{Triple}
use Rattle.carriage.specs.declared.frames.Frame.{Frame}
use Rattle.carriage.proofs.Slots.{slot_small, slot_round}
use Rattle.carriage.proofs.Tables.{where_known, none_known, kept, added}
use Rattle.echo.specs.Steps.{becomes_witness, accepts}
use Rattle.echo.specs.State.{fresh_state, offer_state, counts_as_init, counts_as_echo, inject_state, turn_state}
use Rattle.echo.specs.Cells.{Blank, CellHears, CellTurned, blank, echoes_to}
use Rattle.echo.specs.View.{cell_of, view_of}
use Rattle.echo.specs.Echoes.{echo_model, state_of}
use Rattle.echo.specs.declared.cells.Cell.{Cell}
use Rattle.echo.specs.declared.carrier.Echo.{Echo}

-- at a triple in range the cell's step is the controller's; elsewhere nothing is known before or after
step_in : (b c old : Bool) (rule : Bool → (ℕ → Bool) → Bool) (o t : Bool) (w e : ℕ → Bool)
    → (b && (old || (c && rule (o || t) (λ p. w p || e p))))
    ≡ ((b && old) || ((b && c) && rule ((b && o) || (b && t)) (λ p. (b && w p) || (b && (c && e p)))))
step_in true true old rule o t w e = refl
step_in true false old rule o t w e = refl
step_in false c old rule o t w e = refl

-- a table of blank cells in phase 1 stands for a carriage just started
pub fresh_view : (g h : Group) (len l phase : ℕ) → (h ≡ g) × (l ≡ len) × (phase ≡ 1) → (cell : Cell) → Blank cell → (cells : List Cell) → ((k : ℕ) (d : Cell) → k < 384 → get_or cells k d ≡ cell)
    → view_of h l phase cells ≡ fresh_state g len
fresh_view g h len l phase at cell empty cells all = (λ i. view_of (at.0 i) (at.1 i) (at.2 i) cells) ∙ (λ i. record {
  group = g;
  len = len;
  phase = 1;
  offered = λ x. nothing (λ c. c.offered) empty.offered x i;
  told = λ q x. nothing (λ c. has c.told q) (empty.told q) x i;
  witness = λ q x. nothing (λ c. has c.witness q) (empty.witness q) x i;
  accepted = λ q x. nothing (λ c. has c.accepted q) (empty.accepted q) x i;
  echoed = λ q p x. nothing (λ c. correct g q && has (echoes_to c q) p) (no_echo q p) x i;
})
  where
    nothing : (f : Cell → Bool) → f cell ≡ false → (x : Triple) → (in_range g len x && f (cell_of cells x)) ≡ false
    nothing = none_known g len blank cell cells all

    no_echo : (q p : ℕ) → (correct g q && has (echoes_to cell q) p) ≡ false
    no_echo q p = where_known (correct g q) _ false (λ c. empty.echoes q p (correct_below g q c)) ∙ and_right (correct g q) false refl

module _ (s : Echo) where
  abbrev g : Group
  g = s.stage.group

  abbrev len : ℕ
  len = s.stage.len

  abbrev cells : List Cell
  cells = s.table.cells

  -- every cell is turned, by the round of its triple
  pub turn_view : (h : Group) (l phase : ℕ) → (h ≡ s.stage.group) × (l ≡ s.stage.len) × (phase ≡ s.stage.phase + 1) → (after : List Cell)
      → ((k : ℕ) → k < 384 → CellTurned s.stage.group s.stage.phase (k / 64 + 1) (get_or s.table.cells k blank) (get_or after k blank)) → view_of h l phase after ≡ turn_state (state_of s)
  turn_view h l phase next after turned = (λ i. view_of (next.0 i) (next.1 i) (next.2 i) after) ∙ (λ i. record {
    group = g;
    len = len;
    phase = s.stage.phase + 1;
    offered = λ x. where_known (in_range g len x) _ _ (λ e. (at x e).offered) i;
    told = λ q x. where_known (in_range g len x) _ _ (λ e. ap (λ a. has a q) (at x e).told) i;
    witness = λ q x. joins q x i;
    accepted = λ q x. takes q x i;
    echoed = λ q p x. where_known (in_range g len x) _ _ (λ e. ap (λ a. correct g q && has (get_or a q (record { bits = 0 })) p) (at x e).echoes) i;
  })
    where
      at : (x : Triple) → in_range g len x ≡ true → CellTurned g s.stage.phase x.round (cell_of cells x) (cell_of after x)
      at x e = subst (λ r. CellTurned g s.stage.phase r (cell_of cells x) (cell_of after x)) (slot_round g len s.stage.few x e) (turned (slot_of x) (slot_small x))

      joins : (q : ℕ) (x : Triple) → (in_range g len x && has (cell_of after x).witness q) ≡ (turn_state (state_of s)).witness q x
      joins q x =
          let c = cell_of cells x in
          where_known (in_range g len x) _ _ (λ e. (at x e).witness q)
          ∙ step_in (in_range g len x) (correct g q) (has c.witness q) (becomes_witness g.t s.stage.phase x.round) c.offered (has c.told q) (has c.witness) (has (echoes_to c q))

      takes : (q : ℕ) (x : Triple) → (in_range g len x && has (cell_of after x).accepted q) ≡ (turn_state (state_of s)).accepted q x
      takes q x =
          let c = cell_of cells x in
          where_known (in_range g len x) _ _ (λ e. (at x e).accepted q)
          ∙ step_in (in_range g len x) (correct g q) (has c.accepted q) (λ init echoes. accepts g.n g.t s.stage.phase x.round echoes) c.offered (has c.told q) (has c.witness) (has (echoes_to c q))

  -- the cell of one triple is written
  module _ (x : Triple) (known : knows (echo_model s) x ≡ true) (new : Cell) (after : List Cell) (written : after ≡ set s.table.cells (slot_of x) new) where
    same : (f : Cell → Bool) → f new ≡ f (cell_of cells x) → (y : Triple) → (in_range g len y && f (cell_of after y)) ≡ (in_range g len y && f (cell_of cells y))
    same = kept g len blank cells s.table.long x new after written

    more : (f : Cell → Bool) (b : Bool) → f new ≡ (b || f (cell_of cells x)) → (y : Triple)
        → (in_range g len y && f (cell_of after y)) ≡ ((b && same_triple x y) || (in_range g len y && f (cell_of cells y)))
    more = added g len blank cells s.table.long x new after written s.stage.few known

    pub offer_view : new ≡ record (cell_of cells x) { offered = true } → view_of g len s.stage.phase after ≡ offer_state (state_of s) x
    offer_view is = λ i. record {
      group = g;
      len = len;
      phase = s.stage.phase;
      offered = λ y. more (λ c. c.offered) true (ap (λ c. c.offered) is) y i;
      told = λ q y. same (λ c. has c.told q) (ap (λ c. has c.told q) is) y i;
      witness = λ q y. same (λ c. has c.witness q) (ap (λ c. has c.witness q) is) y i;
      accepted = λ q y. same (λ c. has c.accepted q) (ap (λ c. has c.accepted q) is) y i;
      echoed = λ q p y. same (λ c. correct g q && has (echoes_to c q) p) (ap (λ c. correct g q && has (echoes_to c q) p) is) y i;
    }

    module _ (f : Frame) (at : f.triple ≡ x) (hears : correct g f.to ≡ true) (heard : CellHears (counts_as_init s.stage.phase f) (counts_as_echo s.stage.phase f) f (cell_of cells x) new) where
      abbrev init : Bool
      init = counts_as_init s.stage.phase f

      abbrev echo : Bool
      echo = counts_as_echo s.stage.phase f

      -- a frame that is heard adds its sender to what its receiver has heard, and only for its own triple
      sends : (q p : ℕ) → (correct g q && has (echoes_to new q) p) ≡ ((echo && (eqb q f.to && eqb p f.from)) || (correct g q && has (echoes_to (cell_of cells x) q) p))
      sends q p = ap (λ b. correct g q && b) (heard.echoes q p) ∙ go (correct g q) (eqb q f.to) refl refl
        where
          old : Bool
          old = has (echoes_to (cell_of cells x) q) p

          go : (c e : Bool) → correct g q ≡ c → eqb q f.to ≡ e → (c && ((echo && (e && eqb p f.from)) || old)) ≡ ((echo && (e && eqb p f.from)) || (c && old))
          go true e r s = refl
          go false true r s = absurd (both_ways (correct g q) r (ap (correct g) (eqb-true q f.to s) ∙ hears))
          go false false r s = sym (nothing echo)
            where
              nothing : (b : Bool) → ((b && false) || false) ≡ false
              nothing true = refl
              nothing false = refl

      pub inject_view : view_of g len s.stage.phase after ≡ inject_state (state_of s) f
      inject_view = λ i. record {
        group = g;
        len = len;
        phase = s.stage.phase;
        offered = λ y. same (λ c. c.offered) heard.offered y i;
        told = λ q y. tells q y i;
        witness = λ q y. same (λ c. has c.witness q) (ap (λ a. has a q) heard.witness) y i;
        accepted = λ q y. same (λ c. has c.accepted q) (ap (λ a. has a q) heard.accepted) y i;
        echoed = λ q p y. echoes q p y i;
      }
        where
          tells : (q : ℕ) (y : Triple) → (in_range g len y && has (cell_of after y).told q) ≡ (((init && eqb q f.to) && same_triple f.triple y) || (in_range g len y && has (cell_of cells y).told q))
          tells q y =
              more (λ c. has c.told q) (init && eqb q f.to) (heard.told q) y
              ∙ ap (λ z. ((init && eqb q f.to) && same_triple z y) || (in_range g len y && has (cell_of cells y).told q)) (sym at)

          echoes : (q p : ℕ) (y : Triple) → (in_range g len y && (correct g q && has (echoes_to (cell_of after y) q) p))
              ≡ (((echo && (eqb q f.to && eqb p f.from)) && same_triple f.triple y) || (in_range g len y && (correct g q && has (echoes_to (cell_of cells y) q) p)))
          echoes q p y =
              more (λ c. correct g q && has (echoes_to c q) p) (echo && (eqb q f.to && eqb p f.from)) (sends q p) y
              ∙ ap (λ z. ((echo && (eqb q f.to && eqb p f.from)) && same_triple z y) || (in_range g len y && (correct g q && has (echoes_to (cell_of cells y) q) p))) (sym at)
