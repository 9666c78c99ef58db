-- What a loss of power in a call of the map leaves of a firm chip, by what its calls leave one after another.
use Rattle.std.proofs.Common.{◌≡◌, Bool, List, ℕ, sym, ap, ◌∙◌, subst}
use Rattle.std.specs.Prelude.{Result, Ok, Err}
use Rattle.std.specs.Result.{IsErrAnd}
use Rattle.chip_model.specs.Wavering.{Bits}
use Rattle.nor_driver.specs.State.{NorState, bits_in}
use Rattle.nor_driver.specs.declared.error.NorError.{NorError}
use Rattle.nor_driver.specs.declared.error.NorError.TheVariants.{Cut}
use Rattle.nor_driver.proofs.CallLaws.{fails-as}
use Rattle.erase_journal.proofs.SettledLaws.{settled-healthy}
use Rattle.sector_slots.specs.Sectors.{IsSoundMap, sector_at}
use Rattle.sector_slots.specs.Blocks.{AreSettled}
use Rattle.sector_slots.specs.Losses.{HasWholeSources, IsFirmDisk}
use Rattle.sector_slots.specs.Weak.{IsSureBlock}
use Rattle.sector_slots.proofs.BlankLaws.{sound-holds}
use Rattle.sector_slots.proofs.ChipBlocks.{rest-sources}
use Rattle.sector_slots.proofs.ChipLosses.{unchanged}
use Rattle.sector_stock.specs.Copy.{KeepsSectors}
use Rattle.sector_stock.specs.declared.index.BlockState.{BlockState}
use Rattle.sector_stock.specs.Losses.{IsFirmDiskIn, KeepsSuspects, LosesNothing, suspects_in}
use Rattle.sector_map.specs.Maps.{IsStore, KeepsMap}
use Rattle.sector_map.specs.Losses.{KeepsAtLoss, SetsAtLoss, before_it, in_it, after_it, KeepsFirmly, SetsFirmly}
use Rattle.sector_map.proofs.MapCalls.{keeps-after, keeps-holds, sets-after}

-- a chip that is firm is one of a map
pub firm-store : (b : Bits) (suspect : ℕ → Bool) → IsFirmDisk b suspect → IsStore b.shown
firm-store b suspect h = record { journals = settled-healthy b.shown h.settled; slots = h.sound }

pub sectors-keep : (m : List ℕ) (b : Bits) (suspect : ℕ → Bool) → IsSoundMap m → IsFirmDisk b suspect → KeepsSectors m b.shown → KeepsMap m b.shown
sectors-keep m b suspect sound h keeps = keeps-holds m b.shown keeps.chip (settled-healthy b.shown h.settled) h.sound keeps.alone (λ c. keeps.sectors (sector_at m) (sound-holds m sound)) keeps.clean

-- a call of the stock
pub loses-keeps : (m : List ℕ) (b : Bits) → IsSoundMap m → LosesNothing m b → KeepsAtLoss m b
loses-keeps m b sound h = record { before = h.before; suspect = h.suspect; disk = h.disk; keeps = sectors-keep m h.before h.suspect sound h.disk h.keeps; change = h.change }

-- a call after others that kept the sectors
pub at-loss-later : (m m1 : List ℕ) (b : Bits) → KeepsMap m m1 → KeepsAtLoss m1 b → KeepsAtLoss m b
at-loss-later m m1 b keeps h = record { before = h.before; suspect = h.suspect; disk = h.disk; keeps = keeps-after m m1 h.before.shown keeps h.keeps; change = h.change }

pub sets-later : (g : ℕ) (x m m1 : List ℕ) (b : Bits) → KeepsMap m m1 → SetsAtLoss g x m1 b → SetsAtLoss g x m b
sets-later g x m m1 b keeps (before_it h) = before_it (at-loss-later m m1 b keeps h)
sets-later g x m m1 b keeps (in_it a suspect tag disk k is w) = in_it a suspect tag disk (keeps-after m m1 a.shown keeps k) is w
sets-later g x m m1 b keeps (after_it a suspect disk s change) = after_it a suspect disk (sets-after g x m m1 a.shown keeps s) change

-- nothing was changed after others that kept the sectors
pub at-loss-none : (m : List ℕ) (a b : Bits) (suspect : ℕ → Bool) → IsFirmDisk a suspect → HasWholeSources a.shown → KeepsMap m a.shown → b ≡ a → KeepsAtLoss m b
at-loss-none m a b suspect h sources keeps same = record { before = a; suspect = suspect; disk = h; keeps = keeps; change = unchanged a b suspect h sources same }

-- a call that only reads
abbrev with-bits : List ℕ → List ℕ → Bits
with-bits m w = record { shown = m; weak = w }

pub same-bits : (a b : NorState) → b.memory ≡ a.memory → b.weak ≡ a.weak → bits_in b ≡ bits_in a
same-bits a b m w = ap (λ z. with-bits z b.weak) m ∙ ap (λ z. with-bits a.memory z) w

pub read-stays : (a b : NorState) (p q : List BlockState) → b.memory ≡ a.memory → b.weak ≡ a.weak → q ≡ p → IsFirmDiskIn (bits_in a) p → IsFirmDiskIn (bits_in b) q
read-stays a b p q m w e h = subst (λ z. IsFirmDiskIn (bits_in b) z) (sym e) (subst (λ z. IsFirmDiskIn z p) (sym (same-bits a b m w)) h)

pub read-cut : (m : List ℕ) (a b : NorState) (p : List BlockState) → IsFirmDiskIn (bits_in a) p → AreSettled a.memory → KeepsMap m a.memory → b.memory ≡ a.memory → b.weak ≡ a.weak → KeepsAtLoss m (bits_in b)
read-cut m a b p h blocks keeps same w = at-loss-none m (bits_in a) (bits_in b) (suspects_in p) h (rest-sources a.memory blocks.rest) keeps (same-bits a b same w)

-- a call that changes neither bits nor counts
pub still-stays : (a b : NorState) (p q : List BlockState) → b ≡ a → q ≡ p → IsFirmDiskIn (bits_in a) p → IsFirmDiskIn (bits_in b) q
still-stays a b p q s e h = subst (λ z. IsFirmDiskIn (bits_in b) z) (sym e) (subst (λ z. IsFirmDiskIn (bits_in z) p) (sym s) h)

-- a call after one that changes neither
pub firmly-from : {T : Type 0} (r : Result T NorError) (a0 a b : NorState) (p0 p q : List BlockState) → a ≡ a0 → p ≡ p0 → KeepsFirmly r a p b q → KeepsFirmly r a0 p0 b q
firmly-from r a0 a b p0 p q s e h = subst (λ z. KeepsFirmly r a0 z b q) e (subst (λ z. KeepsFirmly r z p b q) s h)

pub sets-from : {T : Type 0} (g : ℕ) (x : List ℕ) (r : Result T NorError) (a0 a b : NorState) (p0 p q : List BlockState) → a ≡ a0 → p ≡ p0 → SetsFirmly g x r a p b q → SetsFirmly g x r a0 p0 b q
sets-from g x r a0 a b p0 p q s e h = subst (λ z. SetsFirmly g x r a0 z b q) e (subst (λ z. SetsFirmly g x r z p b q) s h)

-- a call whose answer is returned as it is, after others that answered Ok
pub keeps-since : {T : Type 0} (r : Result T NorError) (a b c : NorState) (p q s : List BlockState) → (IsFirmDiskIn (bits_in a) p → IsFirmDiskIn (bits_in b) q) → KeepsMap a.memory b.memory → KeepsFirmly r b q c s → KeepsFirmly r a p c s
keeps-since (Ok v) a b c p q s first keeps h = λ disk. h (first disk)
keeps-since (Err e) a b c p q s first keeps h = λ disk is. at-loss-later a.memory b.memory (bits_in c) keeps (h (first disk) is)

pub sets-since : {T : Type 0} (g : ℕ) (x : List ℕ) (r : Result T NorError) (a b c : NorState) (p q s : List BlockState) → (IsFirmDiskIn (bits_in a) p → IsFirmDiskIn (bits_in b) q) → KeepsMap a.memory b.memory → SetsFirmly g x r b q c s → SetsFirmly g x r a p c s
sets-since g x (Ok v) a b c p q s first keeps h = λ disk. h (first disk)
sets-since g x (Err e) a b c p q s first keeps h = λ disk is. sets-later g x a.memory b.memory (bits_in c) keeps (h (first disk) is)

-- what a `?` returns, by the error of the call before it
pub keeps-as : {T : Type 0} (r : Result T NorError) (e : NorError) (a b : NorState) (p q : List BlockState) → IsErrAnd r (λ y. y ≡ e) → (IsFirmDiskIn (bits_in a) p → e ≡ Cut → KeepsAtLoss a.memory (bits_in b)) → KeepsFirmly r a p b q
keeps-as r e a b p q is h = λ disk. fails-as r e (λ _. IsFirmDiskIn (bits_in b) q) (λ y. y ≡ Cut → KeepsAtLoss a.memory (bits_in b)) is (h disk)

pub sets-as : {T : Type 0} (g : ℕ) (x : List ℕ) (r : Result T NorError) (e : NorError) (a b : NorState) (p q : List BlockState) → IsErrAnd r (λ y. y ≡ e) → (IsFirmDiskIn (bits_in a) p → e ≡ Cut → SetsAtLoss g x a.memory (bits_in b)) → SetsFirmly g x r a p b q
sets-as g x r e a b p q is h = λ disk. fails-as r e (λ _. IsFirmDiskIn (bits_in b) q) (λ y. y ≡ Cut → SetsAtLoss g x a.memory (bits_in b)) is (h disk)

-- a `?` after others that answered Ok
pub keeps-fails : {T : Type 0} (r : Result T NorError) (e : NorError) (a b c : NorState) (p q s : List BlockState) → IsErrAnd r (λ y. y ≡ e) → (IsFirmDiskIn (bits_in a) p → IsFirmDiskIn (bits_in b) q) → KeepsMap a.memory b.memory
    → (IsFirmDiskIn (bits_in b) q → e ≡ Cut → KeepsAtLoss b.memory (bits_in c)) → KeepsFirmly r a p c s
keeps-fails r e a b c p q s is first keeps h = keeps-as r e a c p s is (λ disk cut. at-loss-later a.memory b.memory (bits_in c) keeps (h (first disk) cut))

-- one that keeps the sectors, in a call that sets one: before it, after others that kept them
pub sets-fails : {T : Type 0} (g : ℕ) (x : List ℕ) (r : Result T NorError) (e : NorError) (a b c : NorState) (p q s : List BlockState) → IsErrAnd r (λ y. y ≡ e) → (IsFirmDiskIn (bits_in a) p → IsFirmDiskIn (bits_in b) q) → KeepsMap a.memory b.memory
    → (IsFirmDiskIn (bits_in b) q → e ≡ Cut → KeepsAtLoss b.memory (bits_in c)) → SetsFirmly g x r a p c s
sets-fails g x r e a b c p q s is first keeps h = sets-as g x r e a c p s is (λ disk cut. before_it (at-loss-later a.memory b.memory (bits_in c) keeps (h (first disk) cut)))

-- a call of the stock that keeps the sectors
pub stock-fails : {T : Type 0} (r : Result T NorError) (e : NorError) (a b : NorState) (p q : List BlockState) → IsErrAnd r (λ y. y ≡ e) → IsSoundMap a.memory → (e ≡ Cut → IsFirmDiskIn (bits_in a) p → LosesNothing a.memory (bits_in b)) → KeepsFirmly r a p b q
stock-fails r e a b p q is sound h = keeps-as r e a b p q is (λ disk cut. loses-keeps a.memory (bits_in b) sound (h cut disk))

-- a read after others that answered Ok
pub read-fails : {T : Type 0} (r : Result T NorError) (a b c : NorState) (p q s : List BlockState) → (e : NorError) → IsErrAnd r (λ y. y ≡ e) → (IsFirmDiskIn (bits_in a) p → IsFirmDiskIn (bits_in b) q) → AreSettled b.memory → KeepsMap a.memory b.memory → c.memory ≡ b.memory → c.weak ≡ b.weak
    → KeepsFirmly r a p c s
read-fails r a b c p q s e is first blocks keeps same w = keeps-as r e a c p s is (λ disk cut. read-cut a.memory b c q (first disk) blocks keeps same w)

-- a list by which the same is suspect
pub suspects-kept : (b : Bits) (p q : List BlockState) → KeepsSuspects p q → IsFirmDiskIn b p → IsFirmDiskIn b q
suspects-kept b p q same h = record {
  bytes = h.bytes;
  settled = h.settled;
  sound = h.sound;
  alone = h.alone;
  clean = h.clean;
  newer = h.newer;
  journals = h.journals;
  store = λ c low. subst (λ s. IsSureBlock b s c) (sym (same c)) (h.store c low);
  room = h.room;
}

pub firmly-over : {T : Type 0} (r : Result T NorError) (a0 a b : NorState) (p0 p q : List BlockState) → a ≡ a0 → KeepsSuspects p0 p → KeepsFirmly r a p b q → KeepsFirmly r a0 p0 b q
firmly-over r a0 a b p0 p q s same h = subst (λ z. KeepsFirmly r z p0 b q) s (λ disk. h (suspects-kept (bits_in a) p0 p same disk))
