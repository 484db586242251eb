-- What is known where a call is not refused. Assumes nothing.
use Rattle.std.proofs.Common.{◌≡◌, ℕ, ◌+◌, ◌*◌, ◌<◌, ◌≤◌, Bool, true, false, cond, ◌&&◌, eqb, Some, None, Option, refl, arith}
use Rattle.std.proofs.lemmas.Bool.{and_parts, eqb-true, eqb-false}
use Rattle.groups.specs.Groups.{marked}
use Rattle.carriage.specs.Model.{Model, is_correct, knows, end_phase, offer_fault, inject_fault, turn_fault}
use Rattle.carriage.specs.declared.frames.Triple.{Triple}
use Rattle.carriage.specs.declared.frames.Frame.{Frame}

-- no fault: the test passed, and what comes after it finds none
pub no_fault : {A : Type 0} (b : Bool) (o : Option A) (e : A) → cond b o (Some e) ≡ None → (b ≡ true) × (o ≡ None)
no_fault true o e h = (refl, h)
no_fault false o e h = let z : ◌≡◌ {A = ℕ} 0 1 = cc in absurd (omega arith)

pub no_fault_left : {A : Type 0} (b : Bool) (e : A) → cond b (Some e) None ≡ None → b ≡ false
no_fault_left true e h = let z : ◌≡◌ {A = ℕ} 0 1 = cc in absurd (omega arith)
no_fault_left false e h = refl

pub offer_allowed : (m : Model) (x : Triple) → offer_fault m x ≡ None → (knows m x ≡ true) × (is_correct m x.origin ≡ true) × (m.phase + 1 ≡ 2 * x.round)
offer_allowed m x h =
    let a = no_fault (knows m x) _ _ h in
    let b = no_fault (is_correct m x.origin && eqb (m.phase + 1) (2 * x.round)) _ _ a.1 in
    let c = and_parts (is_correct m x.origin) (eqb (m.phase + 1) (2 * x.round)) b.0 in
    (a.0, c.0, eqb-true _ _ c.1)

pub inject_allowed : (letter seal : Bool) (m : Model) (f : Frame) → inject_fault letter seal m f ≡ None
    → (marked m.group f.from ≡ true) × (is_correct m f.to ≡ true) × (letter ≡ true) × (knows m f.triple ≡ true) × (seal ≡ true)
inject_allowed letter seal m f h =
    let a = no_fault (marked m.group f.from) _ _ h in
    let b = no_fault (is_correct m f.to) _ _ a.1 in
    let c = no_fault letter _ _ b.1 in
    let d = no_fault (knows m f.triple) _ _ c.1 in
    let e = no_fault seal _ _ d.1 in
    (a.0, b.0, c.0, d.0, e.0)

pub turn_allowed : (m : Model) → m.phase ≤ end_phase m.group → turn_fault m ≡ None → m.phase < end_phase m.group
turn_allowed m le h = let ne : m.phase ≡ end_phase m.group → ⊥ = eqb-false _ _ (no_fault_left (eqb m.phase (end_phase m.group)) _ h) in omega arith
