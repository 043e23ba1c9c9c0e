use Rattle.std.proofs.Common.{◌≡◌, ℕ, List, IfOk, subst}
use Rattle.model.specs.Input.{behind_model}
use Rattle.entry.specs.Listings.{listing_text}
use Rattle.entry.proofs.Entries.{accepted_text}
use Rattle.entry.proofs.entry.listing.Goals as goal

pub returns-in-Ok : goal.returns-in-Ok
returns-in-Ok c = record {
  text = λ begun keeps.
      let loads = c.in-Ok.ensures.loads begun keeps in
      let reads = c.choices_behind-choices.ensures.reads begun keeps loads.0 in
      subst (λ (text : List ℕ). IfOk c.schedule_listing.result (λ l. listing_text l ≡ text)) (accepted_text begun c.in-Ok.model loads)
      (c.schedule_listing.ensures.text (behind_model begun) reads);
}
