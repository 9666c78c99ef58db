use Rattle.std.proofs.Common.{◌≡◌, ◌∙◌, ◌+◌, ◌*◌, ℕ, List, ◌++◌, [], length, true, ap, sym, subst, arith}
use Rattle.std.specs.Prelude.{drop}
use Rattle.std.proofs.lemmas.List.{append-nil, drop_all}
use Rattle.chip_model.specs.Chip.{Chip, is_idle}
use Rattle.chip_model.specs.Geometry.{IsChipSize, sector_count}
use Rattle.block_device.specs.Contents.{replaced}
use Rattle.sector_slots.specs.Slots.{IsClean}
use Rattle.sector_map.specs.Maps.{IsMountable}
use Rattle.chip_simulator.specs.Sim.{chip_of}
use Rattle.flash_disk.specs.Contents.{contents_of}
use Rattle.flash_disk.proofs.Sectors.{length-contents}
use Rattle.norbd_image.proofs.Mending.{comes-of-memory, fails-on, same-chip-size}
use Rattle.norbd_image.proofs.mended.filled_image.Goals as goal

pub returns-in-Err-clause-refused : goal.returns-in-Err-clause-refused
returns-in-Err-clause-refused c =
    let same = c.in-Ok.ensures.chip in
    let idle : is_idle (chip_of c.in-Ok.chip).operation ≡ true = ap (λ (x : Chip). is_idle x.operation) same in
    let e = c.in-Err.ensures in
    comes-of-memory c.in-Err.error c.args.fresh.items c.requires.fresh.mountable
    (fails-on c.in-Err.error (chip_of c.in-Ok.chip) c.args.fresh.items _ _ _ same c.requires.size e.refused (e.left idle) (e.told idle))

-- the sectors are as many as those of a disk with the contents of a chip of that size
same-length : (sectors contents memory fresh : List ℕ) → length sectors ≡ 512 * sector_count (length fresh)
    → contents ≡ contents_of memory → memory ≡ fresh → length sectors ≡ length contents
same-length sectors contents memory fresh size from same =
    size ∙ sym (ap length from ∙ (ap (λ (x : List ℕ). length (contents_of x)) same ∙ length-contents fresh))

-- contents of which all were replaced
all-replaced : (d x : List ℕ) → length x ≡ length d → replaced d 0 x ≡ x
all-replaced d x same =
    let gone : drop (0 + length x) d ≡ [] = drop_all (0 + length x) d (omega (arith, same)) in
    ap (λ (z : List ℕ). x ++ z) gone ∙ append-nil x

pub put_sectors-filled-requires-clause-range : goal.put_sectors-filled-requires-clause-range
put_sectors-filled-requires-clause-range c =
    let same = c.in-Ok.ensures.chip in
    let idle : is_idle (chip_of c.in-Ok.chip).operation ≡ true = ap (λ (x : Chip). is_idle x.operation) same in
    let from = c.in-Ok-mount.ensures.from idle in
    let m : (chip_of c.in-Ok.chip).memory ≡ c.args.fresh.items = ap (λ (x : Chip). x.memory) same in
    let size = same-length c.args.sectors.now _ _ c.args.fresh.items c.requires.sectors from.contents m in
    omega (arith, size)

pub returns-in-Ok-filled-clause-image : goal.returns-in-Ok-filled-clause-image
returns-in-Ok-filled-clause-image c =
    let i = c.into_inner-chip.ensures in
    let f = c.in-Ok-filled.ensures in
    let is : c.into_inner.result.items ≡ (chip_of c.into_inner-chip.result).memory = c.into_inner.ensures in
    let same = c.in-Ok.ensures.chip in
    let idle : is_idle (chip_of c.in-Ok.chip).operation ≡ true = ap (λ (x : Chip). is_idle x.operation) same in
    let from = c.in-Ok-mount.ensures.from idle in
    let m : (chip_of c.in-Ok.chip).memory ≡ c.args.fresh.items = ap (λ (x : Chip). x.memory) same in
    let whole = all-replaced _ c.args.sectors.now (same-length c.args.sectors.now _ _ c.args.fresh.items c.requires.sectors from.contents m) in
    let held : contents_of c.into_inner.result.items ≡ c.args.sectors.now = ap contents_of is ∙ (i.contents ∙ (f.replaced ∙ whole)) in
    let size : IsChipSize (length c.into_inner.result.items) = subst (λ (m : List ℕ). IsChipSize (length m)) (sym is) i.sized in
    record {
      size = same-chip-size (length c.into_inner.result.items) (length c.args.fresh.items) size c.requires.size
          (sym (length-contents c.into_inner.result.items) ∙ (ap length held ∙ c.requires.sectors));
      mountable = subst (λ (m : List ℕ). IsMountable m) (sym is) (i.mountable (sym i.slows));
      clean = subst (λ (m : List ℕ). IsClean m) (sym is) (i.clean f.ready.1 c.put_sectors-filled.ensures.sound);
      contents = held;
    }
