use mathlib.Core.List.{not-mem-nil}
use Rattle.norbd_run.proofs.write.write_chip.Goals as goal

pub write_disk-requires-lives-D-Disk : goal.write_disk-requires-lives-D-Disk
write_disk-requires-lives-D-Disk g c κs within a m = absurd (not-mem-nil (c.type_bounds.static-R a m))

pub write_disk-requires-lives-D-Disk-2 : goal.write_disk-requires-lives-D-Disk-2
write_disk-requires-lives-D-Disk-2 g c κs within a m = absurd (not-mem-nil (c.type_bounds.static-R a m))

pub write_disk-requires-lives-D-Disk-3 : goal.write_disk-requires-lives-D-Disk-3
write_disk-requires-lives-D-Disk-3 g c κs within a m = absurd (not-mem-nil (c.type_bounds.static-R a m))

pub write_disk-requires-lives-D-Disk-4 : goal.write_disk-requires-lives-D-Disk-4
write_disk-requires-lives-D-Disk-4 g c κs within a m = absurd (not-mem-nil (c.type_bounds.static-R a m))

pub write_disk-requires-lives-D-Destruct : goal.write_disk-requires-lives-D-Destruct
write_disk-requires-lives-D-Destruct g c κs within a m = absurd (not-mem-nil (c.type_bounds.static-R a m))

pub write_disk-requires-lives-D-Destruct-2 : goal.write_disk-requires-lives-D-Destruct-2
write_disk-requires-lives-D-Destruct-2 g c κs within a m = absurd (not-mem-nil (c.type_bounds.static-R a m))

pub write_disk-requires-lives-D-Destruct-3 : goal.write_disk-requires-lives-D-Destruct-3
write_disk-requires-lives-D-Destruct-3 g c κs within a m = absurd (not-mem-nil (c.type_bounds.static-R a m))

pub write_disk-requires-lives-D-Destruct-4 : goal.write_disk-requires-lives-D-Destruct-4
write_disk-requires-lives-D-Destruct-4 g c κs within a m = absurd (not-mem-nil (c.type_bounds.static-R a m))

pub write_disk-requires-lives-D-Destruct-5 : goal.write_disk-requires-lives-D-Destruct-5
write_disk-requires-lives-D-Destruct-5 g c κs within a m = absurd (not-mem-nil (c.type_bounds.static-R a m))

pub write_disk-requires-lives-D-Disk-5 : goal.write_disk-requires-lives-D-Disk-5
write_disk-requires-lives-D-Disk-5 g c κs within a m = absurd (not-mem-nil (c.type_bounds.static-R a m))

pub write_disk-requires-lives-D-Disk-6 : goal.write_disk-requires-lives-D-Disk-6
write_disk-requires-lives-D-Disk-6 g c κs within a m = absurd (not-mem-nil (c.type_bounds.static-R a m))

pub write_disk-requires-lives-D-Disk-7 : goal.write_disk-requires-lives-D-Disk-7
write_disk-requires-lives-D-Disk-7 g c κs within a m = absurd (not-mem-nil (c.type_bounds.static-R a m))

pub write_disk-requires-lives-D-Disk-8 : goal.write_disk-requires-lives-D-Disk-8
write_disk-requires-lives-D-Disk-8 g c κs within a m = absurd (not-mem-nil (c.type_bounds.static-R a m))

pub write_disk-requires-lives-D-Disk-9 : goal.write_disk-requires-lives-D-Disk-9
write_disk-requires-lives-D-Disk-9 g c κs within a m = absurd (not-mem-nil (c.type_bounds.static-R a m))

pub write_disk-requires-lives-D-Disk-10 : goal.write_disk-requires-lives-D-Disk-10
write_disk-requires-lives-D-Disk-10 g c κs within a m = absurd (not-mem-nil (c.type_bounds.static-R a m))

pub write_disk-requires-lives-D-Disk-11 : goal.write_disk-requires-lives-D-Disk-11
write_disk-requires-lives-D-Disk-11 g c κs within a m = absurd (not-mem-nil (c.type_bounds.static-R a m))

pub write_disk-requires-lives-D-Disk-12 : goal.write_disk-requires-lives-D-Disk-12
write_disk-requires-lives-D-Disk-12 g c κs within a m = absurd (not-mem-nil (c.type_bounds.static-R a m))

pub write_disk-requires-lives-D-Disk-13 : goal.write_disk-requires-lives-D-Disk-13
write_disk-requires-lives-D-Disk-13 g c κs within a m = absurd (not-mem-nil (c.type_bounds.static-R a m))

pub write_disk-requires-lives-D-Destruct-6 : goal.write_disk-requires-lives-D-Destruct-6
write_disk-requires-lives-D-Destruct-6 g c κs within a m = absurd (not-mem-nil (c.type_bounds.static-R a m))

pub write_disk-requires-lives-D-Destruct-7 : goal.write_disk-requires-lives-D-Destruct-7
write_disk-requires-lives-D-Destruct-7 g c κs within a m = absurd (not-mem-nil (c.type_bounds.static-R a m))

pub write_disk-requires-lives-D-Destruct-8 : goal.write_disk-requires-lives-D-Destruct-8
write_disk-requires-lives-D-Destruct-8 g c κs within a m = absurd (not-mem-nil (c.type_bounds.static-R a m))

pub write_disk-requires-lives-D-Destruct-9 : goal.write_disk-requires-lives-D-Destruct-9
write_disk-requires-lives-D-Destruct-9 g c κs within a m = absurd (not-mem-nil (c.type_bounds.static-R a m))

pub write_disk-requires-lives-D-Destruct-10 : goal.write_disk-requires-lives-D-Destruct-10
write_disk-requires-lives-D-Destruct-10 g c κs within a m = absurd (not-mem-nil (c.type_bounds.static-R a m))

pub write_disk-requires-lives-D-Destruct-11 : goal.write_disk-requires-lives-D-Destruct-11
write_disk-requires-lives-D-Destruct-11 g c κs within a m = absurd (not-mem-nil (c.type_bounds.static-R a m))

pub write_disk-requires-lives-D-Destruct-12 : goal.write_disk-requires-lives-D-Destruct-12
write_disk-requires-lives-D-Destruct-12 g c κs within a m = absurd (not-mem-nil (c.type_bounds.static-R a m))

pub write_disk-requires-lives-D-Destruct-13 : goal.write_disk-requires-lives-D-Destruct-13
write_disk-requires-lives-D-Destruct-13 g c κs within a m = absurd (not-mem-nil (c.type_bounds.static-R a m))

pub write_disk-requires-lives-D-Destruct-14 : goal.write_disk-requires-lives-D-Destruct-14
write_disk-requires-lives-D-Destruct-14 g c κs within a m = absurd (not-mem-nil (c.type_bounds.static-R a m))

pub write_disk-requires-lives-D-Destruct-15 : goal.write_disk-requires-lives-D-Destruct-15
write_disk-requires-lives-D-Destruct-15 g c κs within a m = absurd (not-mem-nil (c.type_bounds.static-R a m))

pub write_disk-requires-lives-D-Destruct-16 : goal.write_disk-requires-lives-D-Destruct-16
write_disk-requires-lives-D-Destruct-16 g c κs within a m = absurd (not-mem-nil (c.type_bounds.static-R a m))

pub write_disk-requires-lives-D-Destruct-17 : goal.write_disk-requires-lives-D-Destruct-17
write_disk-requires-lives-D-Destruct-17 g c κs within a m = absurd (not-mem-nil (c.type_bounds.static-R a m))
