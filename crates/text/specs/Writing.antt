-- Why a campaign is not written: first its list, then the buffer. Assumes nothing.
use Rattle.std.specs.Prelude.{ℕ, Bool, cond, List, length, Some, None, Option, nat_le}
use Rattle.std.specs.Option.{option_map, option_or}
use Rattle.lists.specs.Lists.{list_fault}
use Rattle.layout.specs.Render.{Told, render}
use Rattle.text_faults.specs.declared.writes.WriteFault.{WriteFault}
use Rattle.text_faults.specs.declared.writes.WriteFault.TheVariants.{List as OfList, Short}
use Rattle.fields.specs.declared.kinds.ValueKind.{ValueKind}

abbrev pub write_fault : {K : Type 0} → (K → K → Bool) → (K → List ℕ) → ValueKind → Told K → ℕ → Option WriteFault
write_fault same shows kind c room = option_or (option_map OfList (list_fault same c.values)) (cond (nat_le (length (render shows kind c)) room) None (Some Short))
