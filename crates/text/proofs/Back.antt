-- What is written of a campaign is read back as that campaign. Assumes nothing.
use Rattle.std.proofs.Common.{◌≡◌, ℕ, ◌≤◌, Bool, List, [], ◌∷◌, length, Some, None, Ok, vec_items, Option, Result, ◌∙◌, arith}
use Rattle.std.specs.List.{AllByRecursion}
use Rattle.lists.specs.Lists.{list_fault}
use Rattle.faults.specs.declared.causes.ValueFault.{ValueFault}
use Rattle.cuts.specs.Cuts.{Lacks}
use Rattle.fields.specs.declared.kinds.ValueKind.{ValueKind}
use Rattle.acts.specs.Acts.{ActFits}
use Rattle.headers.proofs.Forths.{unmarked, group_lawful}
use Rattle.layout.specs.Campaigns.{ReadsAs}
use Rattle.layout.specs.Render.{render}
use Rattle.layout.proofs.Forth.{Fine, campaign_forth}
use Rattle.text.specs.Campaigns.{told_of}
use Rattle.text.specs.declared.campaigns.Campaign.{Campaign}

module _ {K : Type 0} (shows : K → List ℕ) (reads : List ℕ → Option (Result K ValueFault)) (fits : K → Type 0)
    (forth : (v : K) → fits v → reads (shows v) ≡ Some (Ok v)) (unbroken : (v : K) → fits v → Lacks 10 (shows v)) (brief : (v : K) → fits v → length (shows v) ≤ 20)
    (undashed : reads (45 ∷ []) ≡ None) (same : K → K → Bool) (kind : ValueKind) where
  pub written_back : (c : Campaign K) (t : List ℕ) → t ≡ render shows kind (told_of c) → AllByRecursion fits (vec_items c.values) → AllByRecursion (ActFits fits) (vec_items c.acts) → list_fault same (vec_items c.values) ≡ None
      → ReadsAs reads same kind t (told_of c)
  written_back c t e vs xs l text is = campaign_forth shows reads fits forth unbroken brief undashed same kind (told_of c) fine text (is ∙ e)
    where
      fine : Fine shows reads fits forth unbroken brief undashed same (told_of c)
      fine =
          record {
            n_fits = omega (arith, c.group.few);
            t_fits = omega (arith, c.group.few, c.group.tolerant);
            low = λ k h. unmarked c.group k (omega (arith, c.group.few));
            lawful = group_lawful c.group;
            listed = l;
            values_fit = vs;
            acts_fit = xs;
          }
