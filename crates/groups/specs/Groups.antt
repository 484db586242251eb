-- Which numbers and marks make a group, and who is marked and who is correct in it. Assumes nothing.
use Rattle.std.specs.Prelude.{◌≡◌, ℕ, ◌*◌, ◌<◌, Bool, true, false, cond, not, ◌&&◌, Some, None, Option, ◌==◌, nat_le, nat_lt}
use Rattle.sets.specs.Sets.{has, count, size}
use Rattle.faults.specs.declared.causes.ValueFault.{ValueFault}
use Rattle.faults.specs.declared.causes.ValueFault.TheVariants.{Mark}
use Rattle.groups.specs.declared.members.Group.{Group}
use Rattle.groups.specs.declared.members.Marks.{Marks}
use Rattle.faults.specs.declared.causes.GroupFault.{GroupFault}
use Rattle.faults.specs.declared.causes.GroupFault.TheVariants.{Size, Tolerance, Marks as MarksFault}

-- the laboratory writes the frames of q
abbrev pub marked : Group → ℕ → Bool
marked g q = has g.marks.set q

-- q is a controller of the group and not marked
abbrev pub correct : Group → ℕ → Bool
correct g q = nat_lt q g.n && not (marked g q)

-- a controller's number is at most 15
abbrev pub mark_fault : ℕ → Option ValueFault
mark_fault k = cond (nat_le k 15) None (Some Mark)

-- every mark is below n, and there are at most t
abbrev pub marks_fit : ℕ → ℕ → Marks → Bool
marks_fit n t m = count 16 (λ k. has m.set k && not (nat_lt k n)) == 0 && nat_le (size m.set) t

-- n is 1 to 16, then n > 3t, then the marks
abbrev pub group_fault : ℕ → ℕ → Marks → Option GroupFault
group_fault n t m = cond (nat_le 1 n && nat_le n 16) (cond (nat_lt (3 * t) n) (cond (marks_fit n t m) None (Some MarksFault)) (Some Tolerance)) (Some Size)

-- q is the correct controller with the smallest number
abbrev pub Lowest : Group → ℕ → Type 0
Lowest g q = (correct g q ≡ true) × ((k : ℕ) → k < q → correct g k ≡ false)
