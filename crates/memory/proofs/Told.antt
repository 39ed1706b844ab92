-- A slot is noted, or it is not.
use Rattle.std.proofs.Common.{◌≡◌, ℕ, ◌/◌, true, false, [], List}
use Rattle.remembered.specs.declared.Update.{Update}
use Rattle.remembered.specs.declared.Update.TheVariants.{Note}
use Rattle.remembered.specs.Leads.{Leads, untold, told, KeepsFacts}
use Rattle.remembered.specs.Updates.{Pairs}
use Rattle.model.specs.Notes.{tell}
use Rattle.model.specs.Trains.{car_words}
use Rattle.trains.specs.Fills.{TrainFill}
use Rattle.trains.specs.Orders.{stands_later}
use Rattle.memory.specs.Noting.{noted_at}

module _ {S : Type 0} (has : S → Pairs) (says : S → Update → S → Type 0) (ts : List TrainFill) (slot target : ℕ) where
  pub noted : (s t : S) → stands_later (slot / car_words) (target / car_words) ts ≡ true → KeepsFacts (has s) (Note (target / car_words) slot) (has t) → says s (Note (target / car_words) slot) t
      → Leads has says s (tell (noted_at ts slot target) []) t
  noted s t e k b = rw e (told s s t (Note (target / car_words) slot) [] (untold s) k b)

  pub not_noted : (s : S) → stands_later (slot / car_words) (target / car_words) ts ≡ false → Leads has says s (tell (noted_at ts slot target) []) s
  not_noted s e = rw e (untold s)
