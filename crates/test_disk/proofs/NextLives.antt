-- The next life of a simulated chip whose weak bits are drawn.
use Rattle.std.proofs.Common.{◌≡◌, ◌∙◌, ℕ, true, false, List, length, refl, sym, ap}
use Rattle.chip_model.specs.Chip.{Chip, Operation, Idle, Programming, Erasing, Setting, is_idle, is_setting}
use Rattle.chip_model.specs.Cut.{weakened, with_power}
use Rattle.chip_model.specs.Wavering.{bits_of}
use Rattle.chip_simulator.specs.Mask.{torn_by, torn_memory, torn_protection}
use Rattle.chip_simulator.specs.Sim.{with_memory}
use Rattle.chip_simulator.specs.Weak.{drawn_by}
use Rattle.nor_driver.proofs.Stays.{accepted_shape}
use Rattle.restored_disk.specs.Lives.{IsNextLife}
use Rattle.test_disk.specs.Waverer.{AreBytes, draw_is, draw_of}

-- what a loss leaves of a chip on which nothing is in progress
record AtRest (op : Operation) (m w : List ℕ) (p : ℕ) : Type 0 where
  memory : torn_memory 0 op m ≡ m
  weak : weakened op m w ≡ w
  protection : torn_protection 0 op p ≡ p
  not_setting : is_setting op ≡ false

at_rest : (op : Operation) (m w : List ℕ) (p : ℕ) → is_idle op ≡ true → AtRest op m w p
at_rest Idle m w p idle = record { memory = refl; weak = refl; protection = refl; not_setting = refl }
at_rest (Programming at bytes) m w p idle = absurd (cc idle)
at_rest (Erasing at size) m w p idle = absurd (cc idle)
at_rest (Setting value) m w p idle = absurd (cc idle)

pub next_life : (draw : List ℕ) (old new : Chip) → is_idle old.operation ≡ true → new ≡ with_memory (with_power (torn_by 0 old)) (drawn_by draw (torn_by 0 old).weak (torn_by 0 old).memory) → AreBytes old.memory → AreBytes old.weak → IsNextLife (draw_of draw) old new
next_life draw old new idle same small masks =
    let r = at_rest old.operation old.memory old.weak old.protection idle in
    let drawn = ap (λ w. drawn_by draw w (torn_memory 0 old.operation old.memory)) r.weak ∙ (ap (λ m. drawn_by draw old.weak m) r.memory ∙ sym (draw_is draw (bits_of old) small masks)) in
    let memory = ap (λ (c : Chip). c.memory) same ∙ drawn in
    record {
      memory = memory;
      weak = ap (λ (c : Chip). c.weak) same ∙ r.weak;
      idle = ap (λ (c : Chip). is_idle c.operation) same;
      accepted = λ a. accepted_shape old new (record {
        size = ap length memory ∙ (draw_of draw (bits_of old)).drawn.same_length;
        protection = ap (λ (c : Chip). c.protection) same ∙ r.protection;
        status2 = ap (λ (c : Chip). c.status2) same;
        status3 = ap (λ (c : Chip). c.status3) same;
        not_setting = ap (λ (c : Chip). is_setting c.operation) same;
      }) (ap (λ (c : Chip). c.sfdp) same) a;
    }
