use mathlib.Core.List.{not-mem-nil}
use Rattle.norbd_run.proofs.chip_disk.disk_behind.Goals as goal

pub new-requires-lives-D-Disk : goal.new-requires-lives-D-Disk
new-requires-lives-D-Disk g c κs within a m = absurd (not-mem-nil (c.type_bounds.static-R a m))

pub new-requires-lives-D-Disk-2 : goal.new-requires-lives-D-Disk-2
new-requires-lives-D-Disk-2 g c κs within a m = absurd (not-mem-nil (c.type_bounds.static-R a m))

pub new-requires-lives-D-Disk-3 : goal.new-requires-lives-D-Disk-3
new-requires-lives-D-Disk-3 g c κs within a m = absurd (not-mem-nil (c.type_bounds.static-R a m))

pub new-requires-lives-D-Disk-4 : goal.new-requires-lives-D-Disk-4
new-requires-lives-D-Disk-4 g c κs within a m = absurd (not-mem-nil (c.type_bounds.static-R a m))

pub new-requires-lives-D-Disk-5 : goal.new-requires-lives-D-Disk-5
new-requires-lives-D-Disk-5 g c κs within a m = absurd (not-mem-nil (c.type_bounds.static-R a m))

pub new-requires-lives-D-Disk-6 : goal.new-requires-lives-D-Disk-6
new-requires-lives-D-Disk-6 g c κs within a m = absurd (not-mem-nil (c.type_bounds.static-R a m))

pub new-requires-lives-D-Disk-7 : goal.new-requires-lives-D-Disk-7
new-requires-lives-D-Disk-7 g c κs within a m = absurd (not-mem-nil (c.type_bounds.static-R a m))

pub new-requires-lives-D-Disk-8 : goal.new-requires-lives-D-Disk-8
new-requires-lives-D-Disk-8 g c κs within a m = absurd (not-mem-nil (c.type_bounds.static-R a m))

pub new-requires-lives-D-Disk-9 : goal.new-requires-lives-D-Disk-9
new-requires-lives-D-Disk-9 g c κs within a m = absurd (not-mem-nil (c.type_bounds.static-R a m))

pub new-requires-lives-D-Disk-10 : goal.new-requires-lives-D-Disk-10
new-requires-lives-D-Disk-10 g c κs within a m = absurd (not-mem-nil (c.type_bounds.static-R a m))

pub new-requires-lives-D-Disk-11 : goal.new-requires-lives-D-Disk-11
new-requires-lives-D-Disk-11 g c κs within a m = absurd (not-mem-nil (c.type_bounds.static-R a m))

pub new-requires-lives-D-Disk-12 : goal.new-requires-lives-D-Disk-12
new-requires-lives-D-Disk-12 g c κs within a m = absurd (not-mem-nil (c.type_bounds.static-R a m))

pub new-requires-lives-D-Disk-13 : goal.new-requires-lives-D-Disk-13
new-requires-lives-D-Disk-13 g c κs within a m = absurd (not-mem-nil (c.type_bounds.static-R a m))
