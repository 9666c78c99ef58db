use Rattle.std.proofs.Common.{arith}
use Rattle.sector_map.proofs.map.SectorMap.sectors.Goals as goal

pub overflow_cast-result : goal.overflow_cast-result
overflow_cast-result g c = omega (arith, c.len.ensures, c.self.invariant.counted, c.blocks-blocks.ensures.sized.most)
