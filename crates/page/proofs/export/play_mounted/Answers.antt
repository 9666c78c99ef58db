use Rattle.std.proofs.Common.{◌≡◌, ◌∙◌, ◌*◌, ℕ, List, refl, ap, sym, length, replicate}
use Rattle.std.proofs.lemmas.List.{length-replicate}
use Rattle.block_device.specs.Facts.{Facts}
use Rattle.chip_model.specs.Geometry.{sector_count}
use Rattle.chip_simulator.specs.Sim.{chip_of}
use Rattle.flash_disk.specs.Contents.{contents_of}
use Rattle.page.specs.Tape.{bus_of}
use Rattle.page.proofs.Handing.{lengths_of, memory_size, told_play}
use Rattle.page.proofs.export.play_mounted.Goals as goal

pub play-requires-clause-fits : goal.play-requires-clause-fits
play-requires-clause-fits g c = (lengths_of c.args.script.now c.args.answers.now c.args.image.now c.args.contents.now c.args.frames.now c.requires.lengths).steps

pub play-requires-clause-few : goal.play-requires-clause-few
play-requires-clause-few g c = (lengths_of c.args.script.now c.args.answers.now c.args.image.now c.args.contents.now c.args.frames.now c.requires.lengths).few

pub play-requires-clause-sectors : goal.play-requires-clause-sectors
play-requires-clause-sectors g c =
    let e : contents_of c.in-Ok.disk.map.memory ≡ replicate 35840 0 =
    (c.in-Ok.ensures.from c.requires.formatted.idle).contents ∙ (c.requires.formatted.contents ∙ ap (λ n. replicate (512 * sector_count n) 0) c.requires.size) in
    ap (λ (x : List ℕ). length x) e ∙ length-replicate {A = ℕ} 35840 0

pub read_all-requires-clause-room : goal.read_all-requires-clause-room
read_all-requires-clause-room g c = (lengths_of c.args.script.now c.args.answers.now c.args.image.now c.args.contents.now c.args.frames.now c.requires.lengths).sectors

pub read_all-requires-clause-size : goal.read_all-requires-clause-size
read_all-requires-clause-size g c =
    let e : contents_of c.in-Ok.disk.map.memory ≡ replicate 35840 0 =
    (c.in-Ok.ensures.from c.requires.formatted.idle).contents ∙ (c.requires.formatted.contents ∙ ap (λ n. replicate (512 * sector_count n) 0) c.requires.size) in
    ap (λ (x : Facts). length x.contents) c.arm.ensures ∙ (c.play.ensures.goes.size ∙ (ap (λ (x : List ℕ). length x) e ∙ length-replicate {A = ℕ} 35840 0))

pub copy_from_slice-requires : goal.copy_from_slice-requires
copy_from_slice-requires g c =
    let e : contents_of c.in-Ok.disk.map.memory ≡ replicate 35840 0 =
    (c.in-Ok.ensures.from c.requires.formatted.idle).contents ∙ (c.requires.formatted.contents ∙ ap (λ n. replicate (512 * sector_count n) 0) c.requires.size) in
    let size = ap (λ (x : Facts). length x.contents) c.arm.ensures ∙ (c.play.ensures.goes.size ∙ (ap (λ (x : List ℕ). length x) e ∙ length-replicate {A = ℕ} 35840 0)) in
    let held = ap (λ (x : List ℕ). length x) (c.into_inner-bus.ensures.contents ∙ c.in-Some-read_all.ensures.kept) in
    (lengths_of c.args.script.now c.args.answers.now c.args.image.now c.args.contents.now c.args.frames.now c.requires.lengths).chip ∙ sym (ap (λ (x : List ℕ). length x) c.memory.ensures ∙ memory_size _ c.into_inner-bus.ensures.sized (held ∙ size))

pub copy_from_slice-requires-2 : goal.copy_from_slice-requires-2
copy_from_slice-requires-2 g c =
    (lengths_of c.args.script.now c.args.answers.now c.args.image.now c.args.contents.now c.args.frames.now c.requires.lengths).rows ∙ sym (ap (λ (x : List ℕ). length x) c.rows.ensures ∙ c.into_inner-bus.result.room)

pub returns-clause-played : goal.returns-clause-played
returns-clause-played g c one =
    told_play c.args.script.now c.play.new.answers c.copy_from_slice.new.self c.read_all.new.contents c.copy_from_slice-2.new.self
    (chip_of c.into_inner-bus.result.chip).memory c.into_inner-bus.result.rows.items (length c.args.answers.now) c.count.result c.into_inner-bus.result.count
    c.in-Some-read_all.read c.in-Some.power (bus_of c.into_inner-bus.result.chip) _ _ _ _
    ((c.in-Ok.ensures.from c.requires.formatted.idle).contents ∙ (c.requires.formatted.contents ∙ ap (λ n. replicate (512 * sector_count n) 0) c.requires.size))
    c.play.ensures.size c.in-Some.ensures.story (ap (λ (x : Facts). x.contents) c.arm.ensures) c.in-Some-read_all.ensures.kept c.into_inner-bus.ensures.contents
    (c.copy_from_slice.ensures.after ∙ c.memory.ensures) c.in-Some.ensures.power c.in-Some-read_all.ensures.power c.in-Some-read_all.ensures.read
    (c.copy_from_slice-2.ensures.after ∙ c.rows.ensures) c.into_inner-bus.result.room c.count.ensures c.into_inner-bus.result.run refl
