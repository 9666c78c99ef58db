-- A sector that leaves the block of its group: no such block holds it then.
use Rattle.std.proofs.Common.{◌≡◌, ℕ, ◌+◌, ◌*◌, true, false, List, refl, sym, ap, ◌∙◌, arith}
use Rattle.std.specs.Prelude.{◌/◌, ◌%◌, None, Some}
use Rattle.nor_layout.specs.declared.header.Tag.{Tag}
use Rattle.nor_layout.specs.declared.kind.Kind.{Kind}
use Rattle.nor_layout.specs.declared.kind.Kind.TheVariants as kinds
use Rattle.nor_layout.specs.Kinds.{kind_of}
use Rattle.sector_slots.specs.Slots.{Live, slot_in, data_block, data_blocks, kind_at, is_group}
use Rattle.sector_slots.specs.Blocks.{AreAtRest}
use Rattle.sector_slots.specs.Sectors.{IsSingle}
use Rattle.sector_slots.proofs.GroupLaws.{dead-slot, spoilt-slot}
use Rattle.sector_slots.proofs.SectorLaws.{kind_in}
use Rattle.sector_stock.specs.declared.given.Copied.{Copied}
use Rattle.sector_stock.specs.Index.{is_live_group}
use Rattle.sector_stock.specs.Takes.{IsLiveGroup}
use Rattle.sector_stock.proofs.Converting.{group-of}
use Rattle.sector_map.specs.Replace.{HeldBy, IsInSlots}
use Rattle.sector_map.specs.declared.table.Held.{Held}
use Rattle.sector_map.proofs.Places.{at-rest-slot}
use Rattle.sector_map.proofs.MapSteps.{there}
use Rattle.sector_map.proofs.Following.{relocates-single}
use Rattle.sector_map.proofs.MapCalls.{Steps, reserve-slots}

-- a live slot is in a block of slots, or in one that is live with a group
kind-own : (q : Kind) (b : List ℕ) (i : ℕ) (tag : Tag) (x : List ℕ) → kind_of b ≡ q → slot_in b i ≡ Live tag x → is_live_group q ≡ false → is_group q ≡ false
kind-own kinds.Plain b i tag x e live none = none
kind-own kinds.Void b i tag x e live none = none
kind-own (kinds.Committed s) b i tag x e live none = none
kind-own kinds.Settled b i tag x e live none = none
kind-own (kinds.Group group) b i tag x e live none = absurd (let q : true ≡ false = none in cc)
kind-own kinds.DeadGroup b i tag x e live none = absurd (let q : 3 ≡ 1 = ap kind_in (sym (dead-slot b i e) ∙ live) in omega (arith, q))
kind-own kinds.SpoiltGroup b i tag x e live none = absurd (let q : 2 ≡ 1 = ap kind_in (sym (spoilt-slot b i e) ∙ live) in omega (arith, q))
kind-own kinds.Unknown b i tag x e live none = none

pub own-absent : (g : ℕ) (m : List ℕ) → HeldBy None g m → IsInSlots g m
own-absent g m none s k x l = absurd (none s k x l)

pub own-held : (g : ℕ) (o : Held) (m : List ℕ) → AreAtRest (kind_at m) (data_blocks m) → IsSingle m → HeldBy (Some o) g m → is_live_group (kind_at m (o.slot / 7)) ≡ false → IsInSlots g m
own-held g o m rest single (y, h) none s k x l =
    let e : s ≡ o.slot = single.one s o.slot g k o.generation x y l h in
    ap (λ w. is_group (kind_at m (w / 7))) e
    ∙ kind-own (kind_at m (o.slot / 7)) (data_block m (o.slot / 7)) (o.slot % 7) (record { number = g; generation = o.generation }) y refl (sym (at-rest-slot m o.slot rest h.number) ∙ h.is) none

-- once its block was converted
pub own-converted : (c : Copied) (g : ℕ) (o : Held) (m b : List ℕ) → Steps c m b → IsSingle m → HeldBy (Some o) g m → c.source ≡ o.slot / 7 → IsInSlots g b
own-converted c g o m b h single (x, l) e w k y r =
    let p = h.relocates.moved o.slot g o.generation x l (sym e) in
    let now = there m b w g k y h.relocates.chip r in
    let same : w ≡ 7 * c.target + o.slot % 7 = (relocates-single c.source c.target m b h.relocates single).one w (7 * c.target + o.slot % 7) g k p.0 y p.1.0 now p.1.1 in
    let block : w / 7 ≡ c.target = omega (arith, same) in
    ap (λ d. is_group (kind_at b d)) block ∙ h.relocates.groups c.target h.reserve.number (reserve-slots m c.target h.reserve)

pub group-is_live : (m : List ℕ) (s : ℕ) → is_live_group (kind_at m s) ≡ true → IsLiveGroup s m
group-is_live m s e = group-of (kind_at m s) e
