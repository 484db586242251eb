-- What the code does to the cells is what the step does to the state that they stand for. Assumes nothing.
use Rattle.std.proofs.Common.{◌≡◌, ℕ, ◌+◌, ◌*◌, ◌/◌, ◌<◌, Bool, true, false, not, ◌&&◌, ◌||◌, eqb, ltb, List, get_or, set, sym, refl, ap, ◌∙◌, subst}
use Rattle.std.proofs.lemmas.Bool.{and_right, lt-ltb}
use Rattle.sets.specs.Sets.{has, count, size}
use Rattle.sets.specs.declared.ControllerSet.{ControllerSet}
use Rattle.groups.specs.Groups.{correct}
use Rattle.carriage.specs.Triples.{in_range, same_triple, slot_of}
use Rattle.groups.specs.declared.members.Group.{Group}
use Rattle.carriage.specs.declared.frames.Triple.{Triple}
use Rattle.carriage.specs.declared.frames.Frame.{Frame}
use Rattle.carriage.specs.Model.{knows}
use Rattle.carriage.proofs.Slots.{slot_small, slot_round}
use Rattle.carriage.proofs.Tables.{where_known, none_known, kept, added}
use Rattle.seal.specs.State.{fresh_state, offer_state, inject_state, turn_state, takes, steps}
use Rattle.seal.specs.Cells.{Blank, CellTurned, blank, cell_steps}
use Rattle.seal.specs.View.{cell_of, view_of}
use Rattle.seal.specs.Seals.{seal_model, state_of}
use Rattle.seal.specs.declared.cells.Cell.{Cell}
use Rattle.seal.specs.declared.sealing.Seal.{Seal}

spread_or : (b p q : Bool) → (b && (p || q)) ≡ ((b && p) || (b && q))
spread_or true p q = refl
spread_or false p q = refl

spread_and : (b p q : Bool) → (b && (p && not q)) ≡ ((b && p) && not (b && q))
spread_and true p q = refl
spread_and false p q = refl

-- a table of blank cells in phase 1 stands for a carriage just started
pub fresh_view : (g h : Group) (len l phase : ℕ) → (h ≡ g) × (l ≡ len) × (phase ≡ 1) → (cell : Cell) → Blank cell → (cells : List Cell) → ((k : ℕ) (d : Cell) → k < 384 → get_or cells k d ≡ cell)
    → view_of h l phase cells ≡ fresh_state g len
fresh_view g h len l phase at cell empty cells all = (λ i. view_of (at.0 i) (at.1 i) (at.2 i) cells) ∙ (λ i. record {
  group = g;
  len = len;
  phase = 1;
  offered = λ x. nothing (λ c. c.offered) empty.offered x i;
  accepted = λ q x. nothing (λ c. has c.accepted q) (empty.accepted q) x i;
  fresh = λ q x. nothing (λ c. has c.fresh q) (empty.fresh q) x i;
  told = λ q x. nothing (λ c. has c.told q) (empty.told q) x i;
})
  where
    nothing : (f : Cell → Bool) → f cell ≡ false → (x : Triple) → (in_range g len x && f (cell_of cells x)) ≡ false
    nothing = none_known g len blank cell cells all

-- at a triple in range the cell's step is the controller's; elsewhere nothing is known before or after
stepped_at : (g : Group) (phase : ℕ) (everyone : ControllerSet) (b : Bool) (c : Cell) (round q : ℕ) → has everyone q ≡ correct g q
    → (b && cell_steps c phase round everyone q)
    ≡ (b && (correct g q && takes phase round ((((b && c.offered) && eqb (2 * round) (phase + 1)) || not (eqb (count 16 (λ p. b && has c.fresh p)) 0)) || (b && has c.told q))))
stepped_at g phase everyone true c round q is = ap (λ e. e && takes phase round (((c.offered && eqb (2 * round) (phase + 1)) || not (eqb (size c.fresh) 0)) || has c.told q)) is
stepped_at g phase everyone false c round q is = refl

module _ (s : Seal) where
  abbrev g : Group
  g = s.stage.group

  abbrev len : ℕ
  len = s.stage.len

  abbrev cells : List Cell
  cells = s.table.cells

  -- every cell is turned, by the round of its triple
  pub turn_view : (h : Group) (l phase : ℕ) → (h ≡ s.stage.group) × (l ≡ s.stage.len) × (phase ≡ s.stage.phase + 1) → (everyone : ControllerSet) → ((k : ℕ) → has everyone k ≡ correct s.stage.group k) → (after : List Cell)
      → ((k : ℕ) → k < 384 → CellTurned s.stage.phase (k / 64 + 1) everyone (get_or s.table.cells k blank) (get_or after k blank)) → view_of h l phase after ≡ turn_state (state_of s)
  turn_view h l phase next everyone everyone-is after turned = (λ i. view_of (next.0 i) (next.1 i) (next.2 i) after) ∙ (λ i. record {
    group = g;
    len = len;
    phase = s.stage.phase + 1;
    offered = λ x. where_known (in_range g len x) _ _ (λ e. (at x e).offered) i;
    accepted = λ q x. accepts q x i;
    fresh = λ q x. freshly q x i;
    told = λ q x. (where_known (in_range g len x) _ false (λ e. (at x e).told q) ∙ and_right (in_range g len x) false refl) i;
  })
    where
      at : (x : Triple) → in_range g len x ≡ true → CellTurned s.stage.phase x.round everyone (cell_of cells x) (cell_of after x)
      at x e = subst (λ r. CellTurned s.stage.phase r everyone (cell_of cells x) (cell_of after x)) (slot_round g len s.stage.few x e) (turned (slot_of x) (slot_small x))

      step_at : (q : ℕ) (x : Triple) → (in_range g len x && cell_steps (cell_of cells x) s.stage.phase x.round everyone q) ≡ steps (state_of s) q x
      step_at q x = stepped_at g s.stage.phase everyone (in_range g len x) (cell_of cells x) x.round q (everyone-is q)

      accepts : (q : ℕ) (x : Triple) → (in_range g len x && has (cell_of after x).accepted q) ≡ (turn_state (state_of s)).accepted q x
      accepts q x = where_known (in_range g len x) _ _ (λ e. (at x e).accepted q) ∙ spread_or (in_range g len x) _ _ ∙ ap (λ z. (in_range g len x && has (cell_of cells x).accepted q) || z) (step_at q x)

      freshly : (q : ℕ) (x : Triple) → (in_range g len x && has (cell_of after x).fresh q) ≡ (turn_state (state_of s)).fresh q x
      freshly q x = where_known (in_range g len x) _ _ (λ e. (at x e).fresh q) ∙ spread_and (in_range g len x) _ _ ∙ ap (λ z. z && not (in_range g len x && has (cell_of cells x).accepted q)) (step_at q x)

  -- the cell of one triple is written
  module _ (x : Triple) (known : knows (seal_model s) x ≡ true) (new : Cell) (after : List Cell) (written : after ≡ set s.table.cells (slot_of x) new) where
    same : (f : Cell → Bool) → f new ≡ f (cell_of cells x) → (y : Triple) → (in_range g len y && f (cell_of after y)) ≡ (in_range g len y && f (cell_of cells y))
    same = kept g len blank cells s.table.long x new after written

    more : (f : Cell → Bool) (b : Bool) → f new ≡ (b || f (cell_of cells x)) → (y : Triple)
        → (in_range g len y && f (cell_of after y)) ≡ ((b && same_triple x y) || (in_range g len y && f (cell_of cells y)))
    more = added g len blank cells s.table.long x new after written s.stage.few known

    pub offer_view : new ≡ record (cell_of cells x) { offered = true } → view_of g len s.stage.phase after ≡ offer_state (state_of s) x
    offer_view is = λ i. record {
      group = g;
      len = len;
      phase = s.stage.phase;
      offered = λ y. more (λ c. c.offered) true (ap (λ c. c.offered) is) y i;
      accepted = λ q y. same (λ c. has c.accepted q) (ap (λ c. has c.accepted q) is) y i;
      fresh = λ q y. same (λ c. has c.fresh q) (ap (λ c. has c.fresh q) is) y i;
      told = λ q y. same (λ c. has c.told q) (ap (λ c. has c.told q) is) y i;
    }

    pub inject_view : (f : Frame) → f.triple ≡ x → f.to < 16
        → (new.offered ≡ (cell_of cells x).offered) × (new.accepted ≡ (cell_of cells x).accepted) × (new.fresh ≡ (cell_of cells x).fresh) × ((q : ℕ) → has new.told q ≡ ((ltb f.to 16 && eqb q f.to) || has (cell_of cells x).told q))
        → view_of g len s.stage.phase after ≡ inject_state (state_of s) f
    inject_view f at small is = λ i. record {
      group = g;
      len = len;
      phase = s.stage.phase;
      offered = λ y. same (λ c. c.offered) is.0 y i;
      accepted = λ q y. same (λ c. has c.accepted q) (ap (λ a. has a q) is.1) y i;
      fresh = λ q y. same (λ c. has c.fresh q) (ap (λ a. has a q) is.2) y i;
      told = λ q y. tells q y i;
    }
      where
        tells : (q : ℕ) (y : Triple) → (in_range g len y && has (cell_of after y).told q) ≡ ((eqb q f.to && same_triple f.triple y) || (in_range g len y && has (cell_of cells y).told q))
        tells q y =
            more (λ c. has c.told q) (eqb q f.to) (is.3 q ∙ ap (λ b. (b && eqb q f.to) || has (cell_of cells x).told q) (lt-ltb f.to 16 small)) y
            ∙ ap (λ z. (eqb q f.to && same_triple z y) || (in_range g len y && has (cell_of cells y).told q)) (sym at)
