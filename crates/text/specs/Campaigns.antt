-- What a campaign says. Assumes nothing.
use Rattle.std.specs.Prelude.{vec_items}
use Rattle.groups.specs.Groups.{marked}
use Rattle.layout.specs.Render.{Told}
use Rattle.text.specs.declared.campaigns.Campaign.{Campaign}

abbrev pub told_of : {K : Type 0} → Campaign K → Told K
told_of c = record { n = c.group.n; t = c.group.t; marks = marked c.group; carriage = c.carriage; values = vec_items c.values; acts = vec_items c.acts }
